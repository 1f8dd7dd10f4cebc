use Rattle.std.proofs.Common.{◌≡◌, ◌+◌, drop, map}
use Rattle.rv_image.specs.SegmentView.{segment_of}
use Rattle.rv_image_laws.specs.Segment.{memory_size}
use Rattle.rv_states.specs.Kept.{state_size}
use Rattle.rv_states.proofs.kept.size_of.Given as goal

-- what is summed up, with the bytes of the segments that remain, is the whole
abbrev pub invariant-loop-segment : goal.invariant-loop-segment
invariant-loop-segment l = record {
  all : l.segment-items ≡ l.image.segments.items;
  sum : l.bytes + memory_size (map segment_of (drop l.segment-index l.segment-items)) ≡ state_size l.image;
}
