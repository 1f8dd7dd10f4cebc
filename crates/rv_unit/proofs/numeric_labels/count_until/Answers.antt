use Rattle.std.proofs.Common.{ℕ, nat_le, slice_index_or, rules, of_calls}
use Rattle.std.proofs.lemmas.Fn.{always_returns_same}
use Rattle.std.proofs.lemmas.Bool.{leb-true, leb-false}
use Rattle.rv_list_laws.proofs.SortedLemmas.{partitioned_up_to}
use Rattle.rv_unit.proofs.numeric_labels.count_until.Goals as goal

pub returns : goal.returns
returns c = λ rise.
    let xs = c.args.ordinals.now in
    let o = c.args.ordinal in
    let at : ℕ → ℕ = λ n. n in
    let point = c.partition_point.ensures.partitioned (λ x. nat_le (at x) o) (always_returns_same _ _ _ (λ a r f k. search (rules, of_calls))) (partitioned_up_to at o xs rise) in (
      (λ k d low high. leb-true (at (slice_index_or xs k d)) o (point.0 k d low high)),
      (λ k d low high. leb-false (at (slice_index_or xs k d)) o (point.1 k d low high)),
    )
