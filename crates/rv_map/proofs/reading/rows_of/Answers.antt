use Rattle.rv_list_laws.proofs.EachLemmas.{each_more}
use Rattle.rv_map_laws.specs.Limits.{IsRow}
use Rattle.rv_map_laws.specs.Text.{row_line}
use Rattle.rv_map.proofs.WholeLemmas.{items_more, line_shorter}
use Rattle.rv_map.proofs.reading.rows_of.Goals as goal

pub loop-row-preserved : goal.loop-row-preserved
loop-row-preserved c =
    record {
      text = rw c.in_ok-push.ensures.items
          (items_more row_line c.args.bytes.now c.loop-row.rows.items c.in-Some.row c.loop-row.rest.now c.in-Some.after.now c.loop-row.invariant.text c.in-Some.ensures.found);
      fit = rw c.in_ok-push.ensures.items (each_more IsRow c.loop-row.rows.items c.in-Some.row c.loop-row.invariant.fit c.in-Some.ensures.fits);
    }

pub loop-row-smaller : goal.loop-row-smaller
loop-row-smaller c = line_shorter (row_line c.in-Some.row) c.loop-row.rest.now c.in-Some.after.now c.in-Some.ensures.found
