use Rattle.std.proofs.Common.{length, drop, ◌-◌, ◌≡◌, ◌++◌}
use Rattle.rv_disasm.specs.Dump.{dump_lines, dump_of}
use Rattle.rv_disasm.proofs.dump.hex_dump.Given as goal

abbrev pub invariant-loop-offset : goal.invariant-loop-offset
invariant-loop-offset l = l.text.items ++ dump_lines 0 l.offset (drop l.offset l.bytes) ≡ dump_of l.bytes

abbrev pub decreases-loop-offset : goal.decreases-loop-offset
decreases-loop-offset l = length l.bytes - l.offset
