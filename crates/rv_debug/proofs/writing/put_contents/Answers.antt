use Rattle.std.proofs.lemmas.List.{drop_more}
use Rattle.rv_debug.proofs.WritingLemmas.{contents_more}
use Rattle.rv_debug.proofs.writing.put_contents.Goals as goal

pub loop-piece-preserved : goal.loop-piece-preserved
loop-piece-preserved c =
    contents_more _ _ _ c.args.pieces.now c.loop-piece.piece-index _
    (drop_more c.args.pieces.now c.loop-piece.piece-index _ c.loop-piece-test.true) c.in_ok-raw.ensures.ok c.loop-piece.invariant
