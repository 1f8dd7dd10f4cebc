use Rattle.std.proofs.Common.{◌≡◌, drop, map}
use Rattle.rv_image.specs.SegmentView.{segment_of}
use Rattle.rv_board_laws.specs.Virt.{ram_start, lie_in_ram}
use Rattle.rv_board.proofs.ram.lie_in_ram.Given as goal

-- what is left of the segments says it of all
abbrev pub invariant-loop-segment : goal.invariant-loop-segment
invariant-loop-segment l =
    lie_in_ram l.from (map segment_of (drop l.segment-index l.segments)) ≡ lie_in_ram ram_start (map segment_of l.segments)
