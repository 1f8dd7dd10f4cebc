use Rattle.std.proofs.Common.{◌≡◌, ◌==◌, ◌∙◌, ap, arith, length, vec_len}
use Rattle.rv_list_laws.proofs.ElementsLemmas.{no_items}
use Rattle.rv_unit.proofs.unit.Unit.sets_none.Goals as goal

pub returns : goal.returns
returns c =
    let assignments = c.args.self.now.tables.assignments in
    let long : vec_len assignments ≡ length assignments.items = omega (arith, assignments.ok.0) in
    no_items assignments.items c.is_empty.result (c.is_empty.ensures ∙ ap (λ n. n == 0) long)
