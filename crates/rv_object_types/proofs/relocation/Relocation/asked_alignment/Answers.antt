use Rattle.std.proofs.Common.{◌<◌, ◌≤◌, nat_lt, slice_index_or, length, sym, ap, ◌∙◌, rules}
use Rattle.std.specs.Prelude.{unwrap_or}
use Rattle.std.specs.List.{find}
use Rattle.rv_cut_laws.proofs.AlignedLemmas.{alignments, found, passed}
use Rattle.rv_object_types.proofs.relocation.Relocation.asked_alignment.Goals as goal

pub returns-then-full-power-clause-value : goal.returns-then-full-power-clause-value
returns-then-full-power-clause-value c =
    let i = c.loop-power.power-index in
    let full = c.full_padding-full.result in
    let inside : i < length alignments = search rules in
    let high : full < slice_index_or alignments i 0 = search rules in
    ap (λ o. unwrap_or o 4096) (sym (found full i alignments (find (λ a. nat_lt full a) alignments) inside c.loop-power.invariant high))
    ∙ ap (λ n. unwrap_or (find (λ a. nat_lt n a) alignments) 4096) c.full_padding-full.ensures

pub loop-power-preserved : goal.loop-power-preserved
loop-power-preserved c =
    let i = c.loop-power.power-index in
    let full = c.full_padding-full.result in
    let inside : i < length alignments = search rules in
    let low : slice_index_or alignments i 0 ≤ full = search rules in
    passed full i alignments (find (λ a. nat_lt full a) alignments) inside c.loop-power.invariant low
