use Rattle.std.proofs.Common.{nat_lt, slice_index_or, rules, of_calls}
use Rattle.std.proofs.lemmas.Fn.{always_returns_same}
use Rattle.std.proofs.lemmas.Bool.{ltb-true, ltb-false}
use Rattle.rv_shorten.proofs.PiecedLemmas.{partitioned}
use Rattle.rv_shorten.proofs.pieces.count_before.Goals as goal

pub returns-clause-point : goal.returns-clause-point
returns-clause-point g c =
    let ps = c.args.pieces.now in
    let old = c.args.offset in
    let point = c.partition_point.ensures.partitioned (λ p. nat_lt p.place old) (always_returns_same _ _ _ (λ a r f k. search (rules, of_calls))) (partitioned old ps c.requires) in (
      (λ k d low high. ltb-true (slice_index_or ps k d).place old (point.0 k d low high)),
      (λ k d low high. ltb-false (slice_index_or ps k d).place old (point.1 k d low high)),
    )
