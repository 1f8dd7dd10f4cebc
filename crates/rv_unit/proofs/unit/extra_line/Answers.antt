use Rattle.std.proofs.Common.{◌≡◌, ◌<◌, ◌≤◌, ◌∙◌, length, map, sym, ap, refl, ltb-true, ltb-false, Some}
use Rattle.std.specs.Prelude.{option_map}
use Rattle.std.proofs.lemmas.Option.{slice_get_read, slice_get-map}
use Rattle.rv_statement_laws.specs.Limits.{most_statements}
use Rattle.rv_statement.specs.View.{statement_of}
use Rattle.rv_unit_laws.proofs.FewLemmas.{first_past}
use Rattle.rv_unit.proofs.unit.extra_line.Goals as goal

pub returns-in-Some-clause-past : goal.returns-in-Some-clause-past
returns-in-Some-clause-past c =
    let all = c.args.statements.now in
    let extra = c.in-Some.extra.now in
    let there : most_statements < length all = ltb-true _ _ (sym c.in-Some.ensures.lookup.0) in
    first_past (map statement_of all) (statement_of extra)
    (slice_get-map statement_of all most_statements ∙ ap (option_map statement_of) (slice_get_read all (length all) most_statements extra refl there c.in-Some.ensures.lookup.1))

pub returns-in-None-clause-few : goal.returns-in-None-clause-few
returns-in-None-clause-few c = ltb-false _ _ (sym c.in-None.ensures.lookup.0)
