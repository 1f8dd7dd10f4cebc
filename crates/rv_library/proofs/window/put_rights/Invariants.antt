use Rattle.std.proofs.Common.{◌≡◌, ℕ, ◌+◌, ◌%◌, ◌^◌, ◌<◌, length, get_or}
use Rattle.rv_memory.specs.HeldPages.{held_pages}
use Rattle.rv_library.specs.GivenRuns.{rights_of}
use Rattle.rv_library.proofs.window.put_rights.Given as goal

-- the rights of the first bytes are there
abbrev pub invariant-loop-k : goal.invariant-loop-k
invariant-loop-k l = (length l.room ≡ length l.fn.room) × ((j : ℕ) → j < l.k → get_or l.room j 0 ≡ rights_of (held_pages l.memory) ((l.address + j) % 2 ^ 64))
