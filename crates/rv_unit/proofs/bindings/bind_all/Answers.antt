use Rattle.std.proofs.Common.{◌<◌, ◌∙◌, length, rules, ap, []}
use Rattle.std.specs.Prelude.{unwrap_or}
use Rattle.rv_statement_laws.specs.declared.directive.Binding.TheVariants.{Local}
use Rattle.rv_unit.specs.Tables.{binding_in}
use Rattle.rv_unit.proofs.BoundLemmas.{bound_next}
use Rattle.rv_unit.proofs.bindings.bind_all.Goals as goal

pub loop-name-preserved : goal.loop-name-preserved
loop-name-preserved c = λ name.
    let i = c.loop-name.name-index in
    let xs = c.args.names.now in
    let inside : i < length xs = search rules in
    ap (λ o. unwrap_or o Local) (c.in_ok-insert.ensures.updates.0 (record { ref_ptr = (0, 0); now = name }))
    ∙ bound_next c.args.binding xs i (record { ref_ptr = (0, 0); now = [] }) name _ (λ n. binding_in c.args.bindings.now n) (c.loop-name.invariant name) inside
