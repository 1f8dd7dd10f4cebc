use Rattle.std.proofs.Common.{◌≡◌, ◌+◌, ◌-◌, ◌++◌, length, drop}
use Rattle.rv_isa_laws.specs.Reader.{Reader}
use Rattle.rv_isa_laws.specs.Word.{Spells}
use Rattle.rv_parcel.specs.Parcel.{StandsFor}
use Rattle.rv_listing_laws.specs.Lines.{lines}
use Rattle.rv_disasm.proofs.line.put_lines.Given as goal

abbrev pub invariant-loop-offset : goal.invariant-loop-offset
invariant-loop-offset l =
    (reader : Reader Spells StandsFor) → l.text.items ++ lines reader 0 (l.address + l.offset) (drop l.offset l.bytes) ≡ l.initial.text.items ++ lines reader 0 l.address l.bytes

abbrev pub decreases-loop-offset : goal.decreases-loop-offset
decreases-loop-offset l = length l.bytes - l.offset
