use Rattle.std.proofs.Common.{map, ap, ◌∙◌}
use Rattle.rv_relax.specs.Kept.{moves_of, pad_at}
use Rattle.rv_relax.specs.Paddings.{are_in_order, move_of}
use Rattle.rv_relax.proofs.section_paddings.SectionPaddings.pad.Goals as goal

pub left_at-requires : goal.left_at-requires
left_at-requires c = ap (are_in_order 0 0) c.deref.ensures.value ∙ c.args.self.now.order

pub returns : goal.returns
unfolding moves_of
returns c = c.left_at.ensures ∙ ap (λ l. pad_at (map move_of l) c.args.place) c.deref.ensures.value
