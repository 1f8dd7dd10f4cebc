use Rattle.std.proofs.Common.{◌-◌, ap, ◌∙◌}
use Rattle.rv_shorten.specs.Pieces.{are_pieces, pieces_dropped}
use Rattle.rv_relax.specs.Kept.{moves_of}
use Rattle.rv_relax.proofs.OrderLemmas.{as_pieces, moves_dropped}
use Rattle.rv_relax.proofs.section_paddings.SectionPaddings.new_offset.Goals as goal

pub dropped_before-requires : goal.dropped_before-requires
dropped_before-requires c =
    let plan = c.args.self.now in
    ap (are_pieces 0 0) c.deref.ensures.value ∙ as_pieces 0 0 plan.paddings.items plan.order

pub returns : goal.returns
unfolding moves_of
returns c =
    let plan = c.args.self.now in
    ap (λ n. c.args.old - n)
    (c.dropped_before.ensures.value ∙ ap (λ l. pieces_dropped l c.args.old) c.deref.ensures.value ∙ moves_dropped 0 0 c.args.old plan.paddings.items plan.order)
