use Rattle.std.proofs.Common.{nat_lt, slice_index_or, rules, of_calls}
use Rattle.std.proofs.lemmas.Fn.{always_returns_same}
use Rattle.std.proofs.lemmas.Bool.{ltb-true, ltb-false}
use Rattle.rv_list_laws.proofs.SortedLemmas.{partitioned_before}
use Rattle.rv_archive.specs.declared.members.Member.{Member}
use Rattle.rv_archive.proofs.index.count_before.Goals as goal

pub returns-clause-point : goal.returns-clause-point
returns-clause-point c =
    let xs = c.args.members.now in
    let o = c.args.place in
    let point = c.partition_point.ensures.partitioned (λ (x : Member). nat_lt x.place o) (always_returns_same _ _ _ (λ a r f k. search (rules, of_calls))) (partitioned_before (λ (x : Member). x.place) o xs c.requires) in (
      (λ k d low high. ltb-true (slice_index_or xs k d).place o (point.0 k d low high)),
      (λ k d low high. ltb-false (slice_index_or xs k d).place o (point.1 k d low high)),
    )
