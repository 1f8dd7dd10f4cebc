use Rattle.std.proofs.Common.{◌∙◌, map}
use Rattle.rv_image.specs.SegmentView.{segment_of}
use Rattle.rv_disasm.proofs.FittingLemmas.{rows_over, rows_unfit, rows_more, rows_end}
use Rattle.rv_disasm.proofs.fitting.rows_fit.Goals as goal

pub returns-then-bytes-remaining : goal.returns-then-bytes-remaining
returns-then-bytes-remaining c reader =
    rows_over reader (map segment_of c.args.segments.now) c.args.rows.now c.loop-row.row-index _ c.loop-row.remaining c.claimed_bytes-bytes.result
    c.loop-row-test.true c.claimed_bytes-bytes.ensures c.if-bytes-remaining.true
    ∙ c.loop-row.invariant reader

pub returns-then-not-row_fits : goal.returns-then-not-row_fits
returns-then-not-row_fits c reader =
    rows_unfit reader (map segment_of c.args.segments.now) c.args.rows.now c.loop-row.row-index _ c.loop-row.remaining c.claimed_bytes-bytes.result c.row_fits.result
    c.loop-row-test.true c.claimed_bytes-bytes.ensures c.if-bytes-remaining.false (c.row_fits.ensures reader) c.if-not-row_fits.true
    ∙ c.loop-row.invariant reader

pub loop-row-preserved : goal.loop-row-preserved
loop-row-preserved c reader =
    rows_more reader (map segment_of c.args.segments.now) c.args.rows.now c.loop-row.row-index _ c.loop-row.remaining c.claimed_bytes-bytes.result c.row_fits.result
    c.loop-row-test.true c.claimed_bytes-bytes.ensures c.if-bytes-remaining.false (c.row_fits.ensures reader) c.if-not-row_fits.false
    ∙ c.loop-row.invariant reader

pub returns : goal.returns
returns c reader =
    rows_end reader (map segment_of c.args.segments.now) c.args.rows.now c.loop-row.row-index c.loop-row.remaining c.loop-row-test.false ∙ c.loop-row.invariant reader
