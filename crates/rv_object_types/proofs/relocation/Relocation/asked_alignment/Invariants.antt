use Rattle.std.proofs.Common.{◌≡◌, nat_lt, drop}
use Rattle.std.specs.List.{find}
use Rattle.rv_cut_laws.proofs.AlignedLemmas.{alignments}
use Rattle.rv_object_types.proofs.relocation.Relocation.asked_alignment.Given as goal

-- those so far are too low
abbrev pub invariant-loop-power : goal.invariant-loop-power
invariant-loop-power l =
    find (λ a. nat_lt l.full a) (drop l.power-index alignments) ≡ find (λ a. nat_lt l.full a) alignments
