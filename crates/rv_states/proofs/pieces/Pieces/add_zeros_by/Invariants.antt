use Rattle.std.proofs.Common.{◌-◌, ◌≡◌, ◌≤◌, ◌<◌, ℕ}
use Rattle.rv_isa_laws.specs.Memory.{Mem}
use Rattle.rv_memory.specs.HeldPages.{held_pages}
use Rattle.rv_states.specs.Pieces.{Add}
use Rattle.rv_states.proofs.pieces.Pieces.add_zeros_by.Given as goal

-- the pieces of the chunks so far
abbrev pub invariant-loop-address : goal.invariant-loop-address
invariant-loop-address l = record {
  low : l.start ≤ l.address;
  high : l.address ≤ l.end;
  added : (image : Mem) → ((x : ℕ) → l.start ≤ x → x < l.end → image.byte x ≡ 0) → Add l.fn.self l.self image (held_pages l.memory) l.start (l.address - l.start);
}

abbrev pub decreases-loop-address : goal.decreases-loop-address
decreases-loop-address l = l.end - l.address
