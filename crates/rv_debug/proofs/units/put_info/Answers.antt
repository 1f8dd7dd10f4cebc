use Rattle.rv_debug.proofs.UnitsLemmas.{wrote_info}
use Rattle.rv_debug.proofs.units.put_info.Goals as goal

pub returns : goal.returns
returns c =
    wrote_info _ _ _ _ _ _ _ _ _ _ _ c.args.size c.args.lines_at c.args.code c.args.source.path.now c.args.directory.now c.requires.size
    c.to_le_bytes.ensures c.to_le_bytes-2.ensures c.in_ok-extend_from_slice.ensures.items c.in_ok-extend_from_slice-2.ensures.items
    c.in_ok-put_numbers.ensures c.in_ok-extend_from_slice-3.ensures.items c.in_ok-push.ensures.items c.in_ok-extend_from_slice-4.ensures.items
    c.in_ok-push-2.ensures.items c.in_ok-extend_from_slice-5.ensures.items
