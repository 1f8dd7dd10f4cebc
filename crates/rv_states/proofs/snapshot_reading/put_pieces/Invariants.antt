use Rattle.std.proofs.Common.{◌≡◌, ◌-◌}
use Rattle.rv_memory.specs.HeldPages.{held_pages}
use Rattle.rv_states.specs.Snapshot.{with_pieces}
use Rattle.rv_states.proofs.snapshot_reading.put_pieces.Given as goal

-- the pieces that are left, put now, give what all of them gave at first
abbrev pub invariant-loop : goal.invariant-loop
invariant-loop l = with_pieces (l.count - l.counter) l.rest (held_pages l.memory) ≡ with_pieces l.fn.count l.fn.pieces (held_pages l.fn.memory)
