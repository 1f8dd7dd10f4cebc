use Rattle.rv_debug.proofs.UnitsLemmas.{wrote_ranges}
use Rattle.rv_debug.proofs.units.put_ranges.Goals as goal

pub returns : goal.returns
returns c =
    wrote_ranges _ _ _ _ _ _ _ c.args.info_at c.args.code c.to_le_bytes.ensures c.in_ok-extend_from_slice.ensures.items
    c.in_ok-extend_from_slice-2.ensures.items c.in_ok-extend_from_slice-3.ensures.items c.in_ok-put_pair.ensures
    c.in_ok-extend_from_slice-4.ensures.items
