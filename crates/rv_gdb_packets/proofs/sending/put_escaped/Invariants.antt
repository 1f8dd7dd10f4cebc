use Rattle.std.proofs.Common.{◌≡◌, ◌++◌, drop}
use Rattle.std.specs.Prelude.{flat_map}
use Rattle.rv_gdb_packets.specs.Packets.{escaped_byte}
use Rattle.rv_gdb_packets.proofs.sending.put_escaped.Given as goal

abbrev pub invariant-loop-byte : goal.invariant-loop-byte
invariant-loop-byte l =
    l.out.items ++ flat_map escaped_byte (drop l.byte-index l.content)
    ≡ l.initial.out.items ++ flat_map escaped_byte l.content
