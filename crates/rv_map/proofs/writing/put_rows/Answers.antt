use Rattle.std.proofs.lemmas.List.Elements.{All-more}
use Rattle.rv_list_laws.proofs.EachLemmas.{each_passed}
use Rattle.rv_map_laws.specs.Limits.{IsRow}
use Rattle.rv_map_laws.specs.Text.{row_line}
use Rattle.rv_map.proofs.StepsLemmas.{line_step, lines_done}
use Rattle.rv_map.proofs.writing.put_rows.Goals as goal

pub loop-row-preserved : goal.loop-row-preserved
loop-row-preserved c = record {
  written = line_step row_line c.args.rows.now c.loop-row.row-index _ c.loop-row-test.true _ _ _ c.in_ok-put_row.ensures.written c.loop-row.invariant.written;
  known = All-more IsRow c.args.rows.now c.loop-row.row-index _ c.loop-row-test.true c.loop-row.invariant.known c.in_ok-put_row.ensures.known;
}

pub returns-clause-written : goal.returns-clause-written
returns-clause-written c = lines_done row_line c.args.rows.now c.loop-row.row-index c.loop-row-test.false _ _ c.loop-row.invariant.written

pub returns-clause-known : goal.returns-clause-known
returns-clause-known c = each_passed IsRow c.args.rows.now c.loop-row.row-index c.loop-row-test.false c.loop-row.invariant.known
