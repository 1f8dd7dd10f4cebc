use Rattle.std.proofs.Common.{◌+◌, nat_le, slice_index_or, rules, of_calls}
use Rattle.std.proofs.lemmas.Fn.{always_returns_same}
use Rattle.std.proofs.lemmas.Bool.{leb-true, leb-false}
use Rattle.rv_relax.specs.Pieces.{Piece}
use Rattle.rv_relax.proofs.PiecedLemmas.{ends_partitioned}
use Rattle.rv_relax.proofs.pieces.count_ended.Goals as goal

pub returns-clause-point : goal.returns-clause-point
returns-clause-point c =
    let ps = c.args.pieces.now in
    let o = c.args.offset in
    let point = c.partition_point.ensures.partitioned (λ (p : Piece). nat_le (p.place + p.full) o) (always_returns_same _ _ _ (λ a r f k. search (rules, of_calls))) (ends_partitioned o ps c.requires) in (
      (λ k d low high. leb-true ((slice_index_or ps k d).place + (slice_index_or ps k d).full) o (point.0 k d low high)),
      (λ k d low high. leb-false ((slice_index_or ps k d).place + (slice_index_or ps k d).full) o (point.1 k d low high)),
    )
