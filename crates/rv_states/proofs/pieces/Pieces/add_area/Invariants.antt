use Rattle.std.proofs.Common.{length, ◌-◌, ◌≡◌, ◌≤◌}
use Rattle.rv_isa_laws.specs.Memory.{Mem, bytes_at}
use Rattle.rv_memory.specs.HeldPages.{held_pages}
use Rattle.rv_states.specs.Pieces.{Add}
use Rattle.rv_states.proofs.pieces.Pieces.add_area.Given as goal

-- the pieces of the chunks so far
abbrev pub invariant-loop-from : goal.invariant-loop-from
invariant-loop-from l = record {
  within : l.from ≤ length l.bytes;
  added : (image : Mem) → bytes_at image l.address (length l.bytes) ≡ l.bytes → Add l.fn.self l.self image (held_pages l.memory) l.address l.from;
}

abbrev pub decreases-loop-from : goal.decreases-loop-from
decreases-loop-from l = length l.bytes - l.from
