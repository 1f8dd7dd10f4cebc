use Rattle.std.proofs.Common.{nat_le, slice_index_or, rules, of_calls}
use Rattle.std.proofs.lemmas.Fn.{always_returns_same}
use Rattle.std.proofs.lemmas.Bool.{leb-true, leb-false}
use Rattle.std.proofs.lemmas.List.Sorted.{IsPartitionedBy-leb}
use Rattle.rv_link_sites.proofs.entries.count_until.Goals as goal

pub returns-clause-point : goal.returns-clause-point
returns-clause-point c = λ rise.
    let xs = c.args.offsets.now in
    let o = c.args.place in
    let point = c.partition_point.ensures.partitioned (λ x. nat_le x o) (always_returns_same _ _ _ (λ a r f k. search (rules, of_calls))) (IsPartitionedBy-leb (λ x. x) xs o rise) in (
      (λ k d low high. leb-true (slice_index_or xs k d) o (point.0 k d low high)),
      (λ k d low high. leb-false (slice_index_or xs k d) o (point.1 k d low high)),
    )
