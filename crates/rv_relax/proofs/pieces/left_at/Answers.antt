use Rattle.std.proofs.Common.{◌<◌, ◌≢◌, length, slice_index_or, sym, ◌∙◌, arith}
use Rattle.rv_relax.proofs.OrderLemmas.{as_pieces}
use Rattle.rv_relax.proofs.PiecedLemmas.{no_piece}
use Rattle.rv_relax.proofs.PadsLemmas.{absent, found_pad, same_at}
use Rattle.rv_relax.proofs.pieces.left_at.Goals as goal
use Rattle.rv_relax.proofs.pieces.left_at.Goals.{then-index-pieces-via-then-index-pieces, then-index-pieces-via-else-index-pieces+then-pieces-index}

pub count_before-index-requires : goal.count_before-index-requires
count_before-index-requires c = as_pieces 0 0 c.args.pieces.now c.requires

pub returns-then-index-pieces : goal.returns-then-index-pieces
returns-then-index-pieces c =
    let ps = c.args.pieces.now in
    let place = c.args.place in
    let k = c.count_before-index.result in
    let point = c.count_before-index.ensures.point in
    elim c.then-index-pieces.branch [
      | then-index-pieces-via-then-index-pieces w ↦ (let end = w.if-index-pieces.true in absent place ps k c.requires point.0 (λ d inside. absurd (omega (arith, end))))
      | then-index-pieces-via-else-index-pieces+then-pieces-index w ↦
          (let other = w.if-pieces-index.true in
          absent place ps k c.requires point.0
          (λ d inside. let from = point.1 k d (omega arith) inside in let same = same_at ps k d no_piece inside in let apart : place ≢ (slice_index_or ps k d).place = (λ e. other (same ∙ sym e)) in omega (arith, from)))
    ]

pub returns : goal.returns
returns c =
    let ps = c.args.pieces.now in
    let k = c.count_before-index.result in
    let inside : k < length ps = omega (arith, c.count_before-index.ensures.bound, c.if-index-pieces.false) in
    found_pad c.args.place 0 0 ps k no_piece c.requires inside c.count_before-index.ensures.point.0 c.if-pieces-index.false
