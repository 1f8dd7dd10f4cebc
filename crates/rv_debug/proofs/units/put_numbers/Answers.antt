use Rattle.rv_debug.proofs.UnitsLemmas.{wrote_numbers}
use Rattle.rv_debug.proofs.units.put_numbers.Goals as goal

pub returns : goal.returns
returns c =
    wrote_numbers _ _ _ _ _ c.args.lines_at c.args.code c.to_le_bytes.ensures c.in_ok-push.ensures.items c.in_ok-extend_from_slice.ensures.items
    c.in_ok-put_pair.ensures
