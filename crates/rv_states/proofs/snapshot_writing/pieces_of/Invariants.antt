use Rattle.rv_image.specs.Views.{image_of}
use Rattle.rv_memory.specs.HeldPages.{held_pages}
use Rattle.rv_states.specs.Pieces.{Reach}
use Rattle.rv_states.proofs.snapshot_writing.pieces_of.Given as goal

-- the pieces reach so far
abbrev pub invariant-loop-segment : goal.invariant-loop-segment
invariant-loop-segment l = Reach l.pieces (image_of l.image) (held_pages l.memory) l.segment-index
