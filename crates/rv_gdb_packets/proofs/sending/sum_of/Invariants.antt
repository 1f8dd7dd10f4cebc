use Rattle.std.proofs.Common.{◌≡◌, drop}
use Rattle.rv_gdb_packets.specs.Packets.{checksum}
use Rattle.rv_gdb_packets.proofs.sending.sum_of.Given as goal

abbrev pub invariant-loop-byte : goal.invariant-loop-byte
invariant-loop-byte l = checksum l.sum (drop l.byte-index l.bytes) ≡ checksum 0 l.bytes
