use Rattle.std.proofs.Common.{◌≡◌, ◌≤◌, ◌+◌, false, length, map, sym, ap, ◌∙◌, subst}
use Rattle.std.specs.Prelude.{is_some, option_map}
use Rattle.rv_expression.specs.Nodes.{symbol_of}
use Rattle.rv_statement.specs.View.{now_of}
use Rattle.rv_unit.specs.Unit.{definition_of}
use Rattle.rv_assemble_laws.specs.ShownNames.{primary_names, are_shown}
use Rattle.rv_symbols.specs.Found.{missing_by, with_names}
use Rattle.rv_symbols.proofs.UsingLemmas.{put_new, put_shown, put_few, none_by}
use Rattle.rv_symbols.proofs.uses.put_missing.Goals as goal

pub returns-clause-names : goal.returns-clause-names
returns-clause-names c =
    let name = c.in-Name.name in
    let d = c.args.definition in
    let none : is_some d ≡ false = sym c.is_some.ensures ∙ c.if-is_some.false in
    put_new name c.args.names.now.keys c.insert.new.self.keys c.in_ok-insert.ensures.keys
    ∙ ap (with_names (map now_of c.args.names.now.keys))
    (sym (none_by d name.now none) ∙ ap (λ s. missing_by (option_map definition_of d) (symbol_of s)) (sym c.in-Name.is))

pub returns-clause-shown : goal.returns-clause-shown
returns-clause-shown c = λ named old.
    let name = c.in-Name.name in
    put_shown name c.args.names.now.keys c.insert.new.self.keys c.in_ok-insert.ensures.keys (ap (λ s. are_shown (primary_names (symbol_of s))) (sym c.in-Name.is) ∙ named) old

pub returns-clause-few : goal.returns-clause-few
returns-clause-few c =
    let old = c.args.names.now.keys in
    let new = c.insert.new.self.keys in
    subst (λ n. length new ≤ length old + n) (ap (λ s. length (primary_names (symbol_of s))) (sym c.in-Name.is)) (put_few c.in-Name.name old new c.in_ok-insert.ensures.keys)
