use Rattle.std.proofs.Common.{◌∙◌, ◌++◌, ap, [], ◌∷◌}
use Rattle.std.specs.Option.{option_map_or}
use Rattle.std.specs.Str.{bytes_eq}
use Rattle.rv_list_laws.proofs.ElementsLemmas.{same_bytes}
use Rattle.rv_unit.specs.Tables.{assignments_at}
use Rattle.rv_unit.proofs.OrderedLemmas.{kept_more}
use Rattle.rv_unit.proofs.assignments.add_assigned.Goals as goal

pub returns : goal.returns
returns c = λ name.
    let assigned = c.args.assigned in
    ap (λ o. option_map_or (λ v. v.items) o []) (c.in_ok-insert.ensures.updates.0 (record { ref_ptr = (0, 0); now = name }))
    ∙ kept_more (bytes_eq assigned.name.now name) c.push.new.self _ (assignments_at c.args.by_name.now name) assigned
    (λ same. c.in_ok-push.ensures.items ∙ ap (λ l. l ++ assigned ∷ []) (c.assignments_of-assignments.ensures.items ∙ ap (assignments_at c.args.by_name.now) (same_bytes assigned.name.now name same)))
    (λ apart. c.assignments_of-assignments.ensures.others name apart)
