use Rattle.std.proofs.Common.{◌∙◌, ◌-◌, ap, sym}
use Rattle.std.specs.Prelude.{option_map}
use Rattle.rv_debug_laws.specs.Labels.{size_to}
use Rattle.rv_typed_objects.specs.Typed.{row_end}
use Rattle.rv_typed_objects.proofs.sizes.size_up_to.Goals as goal

pub returns-in-Some : goal.returns-in-Some
returns-in-Some c =
    c.saturating_sub.ensures ∙ ap (λ n. n - c.args.offset) c.row_end.ensures
    ∙ ap (λ r. size_to c.args.offset (option_map row_end r)) (sym c.in-Some.is ∙ c.last_before.ensures c.are_ordered.ensures)

pub returns-in-None : goal.returns-in-None
returns-in-None c =
    ap (λ r. size_to c.args.offset (option_map row_end r)) (sym c.in-None.is ∙ c.last_before.ensures c.are_ordered.ensures)
