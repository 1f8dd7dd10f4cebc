use Rattle.std.proofs.Common.{◌≡◌, ◌++◌, []}
use Rattle.rv_isa_laws.specs.Memory.{bytes_at}
use Rattle.rv_memory.specs.HeldPages.{held_pages}
use Rattle.rv_gdb_packets.specs.Digits.{digits}
use Rattle.rv_gdb.proofs.memory.put_memory.Given as goal

-- what was added are the digits of as many bytes
abbrev pub invariant-loop-index : goal.invariant-loop-index
invariant-loop-index l =
    l.writes ≡ [] → l.text.items
    ≡ l.initial.text.items ++ digits (bytes_at (held_pages l.memory) l.range.address l.index)
