-- Lists in order.

use Rattle.std.proofs.Common.{ℕ, ◌<◌, ◌≤◌, nat_lt, List, slice_index_or, arith, nat_le, Bool, ap, ◌∙◌}
use Rattle.std.specs.List.Sorted.{IsNonDecreasingBy, IsPartitionedBy, IsStableBy, ties}
use Rattle.std.proofs.lemmas.Bool.{ltb-true, lt-ltb, leb-true, le-leb}
use Rattle.std.specs.Prelude.{filter}
use Rattle.rv_list_laws.proofs.FilterLemmas.{filters_swap}

pub partitioned_before : {X : Type 0} (at : X → ℕ) (o : ℕ) (xs : List X) → IsNonDecreasingBy at xs → IsPartitionedBy (λ x. nat_lt (at x) o) xs
partitioned_before at o xs rise = λ i j d le inside test.
    let low : at (slice_index_or xs i d) ≤ at (slice_index_or xs j d) = rise i j d le inside in
    let high : at (slice_index_or xs j d) < o = ltb-true (at (slice_index_or xs j d)) o test in
    lt-ltb (at (slice_index_or xs i d)) o (omega arith)

pub partitioned_up_to : {X : Type 0} (at : X → ℕ) (o : ℕ) (xs : List X) → IsNonDecreasingBy at xs → IsPartitionedBy (λ x. nat_le (at x) o) xs
partitioned_up_to at o xs rise = λ i j d le inside test.
    let low : at (slice_index_or xs i d) ≤ at (slice_index_or xs j d) = rise i j d le inside in
    let high : at (slice_index_or xs j d) ≤ o = leb-true (at (slice_index_or xs j d)) o test in
    le-leb (at (slice_index_or xs i d)) o (omega arith)

pub stable_kept : {X : Type 0} (lt : X → X → Bool) (test : X → Bool) (xs ys : List X) → IsStableBy lt xs ys → IsStableBy lt (filter test xs) (filter test ys)
stable_kept lt test xs ys h z = filters_swap (ties lt z) test ys ∙ ap (filter test) (h z) ∙ filters_swap test (ties lt z) xs
