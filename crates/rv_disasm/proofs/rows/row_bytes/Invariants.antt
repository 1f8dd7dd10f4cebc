use Rattle.std.proofs.Common.{◌≡◌, drop, map}
use Rattle.rv_image.specs.SegmentView.{segment_of}
use Rattle.rv_listing_laws.specs.Listing as shows
use Rattle.rv_disasm.proofs.rows.row_bytes.Given as goal

abbrev pub invariant-loop-segment : goal.invariant-loop-segment
invariant-loop-segment l = shows.row_bytes (map segment_of (drop l.segment-index l.segments)) l.row ≡ shows.row_bytes (map segment_of l.segments) l.row
