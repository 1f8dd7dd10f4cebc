use Rattle.std.proofs.Common.{take, sym, subst}
use Rattle.std.proofs.lemmas.List.{take_all, take_more}
use Rattle.rv_map_laws.specs.declared.map.Row.{Row}
use Rattle.rv_labels.specs.Indices.{AreSpans}
use Rattle.rv_labels.proofs.spans.spans.Goals as goal

abbrev no_row : Row
no_row = record { file = 0; line = 0; ordinal = 0; address = 0; bytes = 0; instructions = 0 }

pub loop-row-preserved : goal.loop-row-preserved
loop-row-preserved c =
    let i = c.loop-row.row-index in
    let rows = c.args.rows.now in
    subst (AreSpans c.put_span.new.spans) (sym (take_more rows i no_row c.loop-row-test.true))
    (c.in_ok-put_span.ensures (take i rows) c.loop-row.invariant)

pub returns : goal.returns
returns c =
    subst (AreSpans c.loop-row.spans) (take_all c.loop-row.row-index c.args.rows.now c.loop-row-test.false) c.loop-row.invariant
