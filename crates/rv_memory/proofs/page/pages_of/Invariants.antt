use Rattle.std.proofs.Common.{map, take}
use Rattle.rv_image.specs.SegmentView.{segment_of}
use Rattle.rv_memory.specs.Pages.{ArePages}
use Rattle.rv_memory.specs.Unmade.{deep}
use Rattle.rv_memory.proofs.page.pages_of.Given as goal

-- the pages of the segments so far
abbrev pub invariant-loop-i : goal.invariant-loop-i
invariant-loop-i l = ArePages (take l.i (deep (map segment_of l.segments) l.top l.start)) l.pages.items
