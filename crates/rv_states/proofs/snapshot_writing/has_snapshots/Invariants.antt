use Rattle.std.proofs.Common.{◌≡◌, map, drop}
use Rattle.std.specs.List.{list_all}
use Rattle.rv_image.specs.SegmentView.{segment_of}
use Rattle.rv_states.specs.Snapshot.{is_readable}
use Rattle.rv_states.proofs.snapshot_writing.has_snapshots.Given as goal

-- all are where the rest are
abbrev pub invariant-loop-segment : goal.invariant-loop-segment
invariant-loop-segment l = list_all is_readable (map segment_of (drop l.segment-index l.segment-items)) ≡ list_all is_readable (map segment_of l.segment-items)
