use Rattle.std.proofs.Common.{◌≡◌, drop}
use Rattle.rv_gdb_packets.specs.Numbers.{number_on}
use Rattle.rv_gdb_packets.proofs.numbers.number_at.Given as goal

abbrev pub invariant-loop-count : goal.invariant-loop-count
invariant-loop-count l = number_on l.value (drop l.count l.digits) ≡ number_on 0 l.digits
