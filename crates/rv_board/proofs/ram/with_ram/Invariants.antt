use Rattle.std.proofs.Common.{◌≡◌, ◌++◌, true, map, length}
use Rattle.std.specs.Vec.Iter.{into_iter_items, into_iter_len}
use Rattle.rv_image.specs.SegmentView.{segment_of}
use Rattle.rv_board_laws.specs.Virt.{registers, ram_start, lie_in_ram, ram_from}
use Rattle.rv_board.proofs.ram.with_ram.Given as goal

-- what was put, with what the rest of the segments comes to, is the whole
abbrev pub invariant-loop-segment : goal.invariant-loop-segment
invariant-loop-segment l = record {
  whole : map segment_of l.segments.items ++ ram_from l.from (map segment_of (into_iter_items l.segment-iterator))
      ≡ registers ++ ram_from ram_start (map segment_of l.fn.image.segments.items);
  lie : lie_in_ram l.from (map segment_of (into_iter_items l.segment-iterator)) ≡ true;
  count : into_iter_len l.segment-iterator ≡ length (into_iter_items l.segment-iterator);
  can_next : (goal.iterator-loop-segment).can_next l.segment-iterator;
  is_finite : (goal.iterator-loop-segment).is_finite l.segment-iterator;
}
