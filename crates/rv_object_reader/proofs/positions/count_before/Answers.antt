use Rattle.std.proofs.Common.{nat_lt, slice_index_or, rules, of_calls}
use Rattle.std.proofs.lemmas.Fn.{always_returns_same}
use Rattle.std.proofs.lemmas.Bool.{ltb-true, ltb-false}
use Rattle.std.proofs.lemmas.List.Sorted.{IsPartitionedBy-ltb}
use Rattle.rv_object_reader.proofs.positions.count_before.Goals as goal

pub returns-clause-point : goal.returns-clause-point
returns-clause-point c = λ rise.
    let xs = c.args.positions.now in
    let o = c.args.offset in
    let point = c.partition_point.ensures.partitioned (λ x. nat_lt x o) (always_returns_same _ _ _ (λ a r f k. search (rules, of_calls))) (IsPartitionedBy-ltb (λ x. x) xs o rise) in (
      (λ k d low high. ltb-true (slice_index_or xs k d) o (point.0 k d low high)),
      (λ k d low high. ltb-false (slice_index_or xs k d) o (point.1 k d low high)),
    )
