use Rattle.rv_list_laws.proofs.EachLemmas.{each_more}
use Rattle.rv_map_laws.specs.Limits.{IsDrop}
use Rattle.rv_map_laws.specs.Text.{drop_line}
use Rattle.rv_map.proofs.WholeLemmas.{items_more, line_shorter}
use Rattle.rv_map.proofs.reading.drops_of.Goals as goal

pub loop-section-preserved : goal.loop-section-preserved
loop-section-preserved c =
    record {
      text = rw c.in_ok-push.ensures.items
          (items_more drop_line c.args.bytes.now c.loop-section.drops.items c.in-Some.section c.loop-section.rest.now c.in-Some.after.now c.loop-section.invariant.text c.in-Some.ensures.found);
      fit = rw c.in_ok-push.ensures.items (each_more IsDrop c.loop-section.drops.items c.in-Some.section c.loop-section.invariant.fit c.in-Some.ensures.fits);
    }

pub loop-section-smaller : goal.loop-section-smaller
loop-section-smaller c = line_shorter (drop_line c.in-Some.section) c.loop-section.rest.now c.in-Some.after.now c.in-Some.ensures.found
