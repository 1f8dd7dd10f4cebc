use Rattle.std.proofs.Common.{◌≡◌, map, drop}
use Rattle.rv_image.specs.SegmentView.{segment_of}
use Rattle.rv_image_laws.specs.Memory.{segment_at}
use Rattle.rv_memory.proofs.flat.Flat.position.Given as goal

-- the segments before do not hold the address
abbrev pub invariant-loop-i : goal.invariant-loop-i
invariant-loop-i l =
    segment_at (map segment_of (drop l.i l.self.segments.items)) l.address ≡ segment_at (map segment_of l.self.segments.items) l.address
