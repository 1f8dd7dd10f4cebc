use Rattle.std.proofs.Common.{◌<◌, ◌+◌, map, drop, sym, ap, ◌∙◌, arith}
use Rattle.rv_list_laws.proofs.TakeDropLemmas.{drop_read}
use Rattle.rv_image.specs.SegmentView.{segment_of}
use Rattle.rv_board_laws.specs.Virt.{lie_in_ram, ram_end, segment_end}
use Rattle.rv_board.proofs.RamLemmas.{lie_beyond}
use Rattle.rv_board.proofs.ram.lie_in_ram.Goals as goal

pub returns-then-size-room : goal.returns-then-size-room
returns-then-size-room c =
    let segments = c.args.segments.now in let i = c.loop-segment.segment-index in let s = segment_of c.segment-item.result in
    let far : ram_end < segment_end s = omega (arith, c.if-size-room.true, c.len-size.ensures) in
    sym (lie_beyond c.loop-segment.from s (map segment_of (drop (i + 1) segments)) far)
    ∙ sym (ap (λ l. lie_in_ram c.loop-segment.from (map segment_of l)) (drop_read segments i c.segment-item.result c.loop-segment-test.true c.segment-item.is))
    ∙ c.loop-segment.invariant
