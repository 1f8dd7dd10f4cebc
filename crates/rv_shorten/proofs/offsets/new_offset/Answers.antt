use Rattle.std.proofs.Common.{◌-◌, ap, ◌∙◌}
use Rattle.rv_shorten.proofs.OrderLemmas.{as_pieces, moves_dropped}
use Rattle.rv_shorten.proofs.offsets.new_offset.Goals as goal

pub dropped_before-requires : goal.dropped_before-requires
dropped_before-requires c = as_pieces 0 0 c.args.cuts.now c.requires

pub returns : goal.returns
returns c = ap (λ n. c.args.old - n) (c.dropped_before.ensures.value ∙ moves_dropped 0 0 c.args.old c.args.cuts.now c.requires)
