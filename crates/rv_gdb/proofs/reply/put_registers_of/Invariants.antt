use Rattle.std.proofs.Common.{◌≡◌, ◌++◌}
use Rattle.std.specs.List.{flat_map}
use Rattle.rv_gdb_packets.specs.Digits.{value_digits}
use Rattle.rv_gdb.specs.Shown.{values}
use Rattle.rv_gdb.proofs.reply.put_registers_of.Given as goal

-- the values of so many registers were added
abbrev pub invariant-loop-number : goal.invariant-loop-number
invariant-loop-number l =
    l.reply.items ≡ l.initial.reply.items ++ flat_map value_digits (values l.machine.hart l.number)
