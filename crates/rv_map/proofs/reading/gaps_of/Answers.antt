use Rattle.rv_list_laws.proofs.EachLemmas.{each_more}
use Rattle.rv_map_laws.specs.Limits.{IsRegion}
use Rattle.rv_map_laws.specs.Text.{gap_line}
use Rattle.rv_map.proofs.LinesLemmas.{gap_taken}
use Rattle.rv_map.proofs.WholeLemmas.{items_more, line_shorter}
use Rattle.rv_map.proofs.reading.gaps_of.Goals as goal

pub loop-gap-preserved : goal.loop-gap-preserved
loop-gap-preserved c =
    record {
      text = rw c.in_ok-push.ensures.items
          (items_more gap_line c.args.bytes.now c.loop-gap.gaps.items c.in-Some.gap c.loop-gap.rest.now c.in-Some.after.now c.loop-gap.invariant.text
          (gap_taken c.in-Some.gap c.loop-gap.rest.now c.in-Some.after.now c.in-Some.ensures.found));
      fit = rw c.in_ok-push.ensures.items (each_more IsRegion c.loop-gap.gaps.items c.in-Some.gap c.loop-gap.invariant.fit c.in-Some.ensures.fits);
    }

pub loop-gap-smaller : goal.loop-gap-smaller
loop-gap-smaller c =
    line_shorter (gap_line c.in-Some.gap) c.loop-gap.rest.now c.in-Some.after.now (gap_taken c.in-Some.gap c.loop-gap.rest.now c.in-Some.after.now c.in-Some.ensures.found)
