use Rattle.std.proofs.Common.{ℕ, nat_lt, slice_index_or, rules, of_calls}
use Rattle.std.proofs.lemmas.Fn.{always_returns_same}
use Rattle.std.proofs.lemmas.Bool.{ltb-true, ltb-false}
use Rattle.rv_list_laws.proofs.SortedLemmas.{partitioned_before}
use Rattle.rv_unit.proofs.numeric_labels.count_before.Goals as goal

pub returns-clause-point : goal.returns-clause-point
returns-clause-point c = λ rise.
    let xs = c.args.ordinals.now in
    let o = c.args.ordinal in
    let at : ℕ → ℕ = λ n. n in
    let point = c.partition_point.ensures.partitioned (λ x. nat_lt (at x) o) (always_returns_same _ _ _ (λ a r f k. search (rules, of_calls))) (partitioned_before at o xs rise) in (
      (λ k d low high. ltb-true (at (slice_index_or xs k d)) o (point.0 k d low high)),
      (λ k d low high. ltb-false (at (slice_index_or xs k d)) o (point.1 k d low high)),
    )
