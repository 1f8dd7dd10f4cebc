use Rattle.std.proofs.Common.{◌≡◌, ◌++◌, drop}
use Rattle.std.specs.Prelude.{flat_map}
use Rattle.rv_gdb_packets.specs.Digits.{byte_digits}
use Rattle.rv_gdb_packets.proofs.numbers.put_bytes.Given as goal

abbrev pub invariant-loop-byte : goal.invariant-loop-byte
invariant-loop-byte l =
    l.text.items ++ flat_map byte_digits (drop l.byte-index l.bytes)
    ≡ l.initial.text.items ++ flat_map byte_digits l.bytes
