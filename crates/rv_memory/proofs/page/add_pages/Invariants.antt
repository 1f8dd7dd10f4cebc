use Rattle.std.proofs.Common.{◌+◌, map, take}
use Rattle.rv_image.specs.SegmentView.{segment_of}
use Rattle.rv_memory.specs.Unmade.{deep}
use Rattle.rv_memory.proofs.PageLemmas.{AreMore}
use Rattle.rv_memory.proofs.page.add_pages.Given as goal

-- the pages before this number are added
abbrev pub invariant-loop-number : goal.invariant-loop-number
invariant-loop-number l =
    AreMore (take (l.index + 1) (deep (map segment_of l.segments) l.top l.start)) l.first l.number l.fn.pages.items l.pages.items
