use Rattle.std.proofs.Common.{length, drop, ◌-◌}
use Rattle.rv_disasm.proofs.RawLemmas.{IsBegun}
use Rattle.rv_disasm.proofs.raw.put_codes.Given as goal

abbrev pub invariant-loop-offset : goal.invariant-loop-offset
invariant-loop-offset l = IsBegun l.bytes (drop l.offset l.bytes) l.initial.text.items l.text.items

abbrev pub decreases-loop-offset : goal.decreases-loop-offset
decreases-loop-offset l = length l.bytes - l.offset
