use Rattle.std.proofs.Common.{◌≡◌, ◌++◌, drop, map}
use Rattle.rv_image.specs.SegmentView.{segment_of}
use Rattle.rv_memory.proofs.copies.copied_segments.Given as goal

abbrev pub invariant-loop-segment : goal.invariant-loop-segment
invariant-loop-segment l =
    map segment_of l.copies.items ++ map segment_of (drop l.segment-index l.segments)
    ≡ map segment_of l.segments
