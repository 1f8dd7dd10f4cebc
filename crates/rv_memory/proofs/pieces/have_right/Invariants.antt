use Rattle.std.proofs.Common.{◌≡◌}
use Rattle.rv_isa_laws.specs.Memory.{may}
use Rattle.rv_memory.specs.Rights.{right_of}
use Rattle.rv_memory.proofs.pieces.have_right.Given as goal

-- what is left decides for the whole
abbrev pub invariant-loop-remaining : goal.invariant-loop-remaining
invariant-loop-remaining g l =
    may (g.P.Pieces.mem l.memory) l.at l.remaining (right_of l.right) ≡ may (g.P.Pieces.mem l.memory) l.address l.bytes (right_of l.right)

abbrev pub decreases-loop-remaining : goal.decreases-loop-remaining
decreases-loop-remaining g l = l.remaining
