use Rattle.std.proofs.Common.{arith}
use Rattle.rv_link_sites.proofs.StepsLemmas.{low_more, section_ends, section_places}
use Rattle.rv_link_sites.proofs.line.put_file.Goals as goal

pub stand-start-requires : goal.stand-start-requires
stand-start-requires c = omega (arith, c.loop-section.places.ok, c.loop-section.places.small, c.loop-section.invariant.low)

pub loop-section-preserved : goal.loop-section-preserved
loop-section-preserved c =
    let stop = c.loop-section.stop in
    let i = c.loop-section.section-index in
    let xs = c.args.sections.now in
    let x = c.section-item.result in
    let inside = c.loop-section-test.true in
    let is = c.section-item.is in
    let first = c.stand-start.result.0 in
    let end = c.stand-start.result.1 in
    record {
      places = section_places stop i xs x inside is end c.stand-start.ensures.end first c.loop-section.places.items _ _ _ c.in_ok-push.ensures.items c.in_ok-push-2.ensures.items c.stand-start.ensures.first c.loop-section.invariant.places;
      ends = section_ends stop i xs x inside is end c.stand-start.ensures.end _ c.loop-section.invariant.ends;
      low = low_more c.loop-section.places.items _ _ first end stop c.in_ok-push.ensures.items c.in_ok-push-2.ensures.items c.stand-start.ensures.near c.loop-section.invariant.low;
    }
