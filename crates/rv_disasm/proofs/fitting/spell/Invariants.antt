use Rattle.std.proofs.Common.{◌≡◌}
use Rattle.rv_isa_laws.specs.Word.{Spells}
use Rattle.rv_parcel.specs.Parcel.{StandsFor}
use Rattle.rv_isa_laws.specs.Reader.{Reader}
use Rattle.rv_disasm.specs.Fitting as fitting
use Rattle.rv_disasm.proofs.fitting.spell.Given as goal

abbrev pub invariant-loop-remaining : goal.invariant-loop-remaining
invariant-loop-remaining l =
    (reader : Reader Spells StandsFor) → fitting.spell reader l.remaining l.rest ≡ fitting.spell reader l.count l.bytes

abbrev pub decreases-loop-remaining : goal.decreases-loop-remaining
decreases-loop-remaining l = l.remaining
