use Rattle.std.proofs.lemmas.List.Elements.{All-more}
use Rattle.rv_list_laws.proofs.EachLemmas.{each_passed}
use Rattle.rv_map_laws.specs.Limits.{IsRegion}
use Rattle.rv_map_laws.specs.Text.{gap_line}
use Rattle.rv_map.proofs.StepsLemmas.{line_step, lines_done}
use Rattle.rv_map.proofs.writing.put_gaps.Goals as goal

pub loop-gap-preserved : goal.loop-gap-preserved
loop-gap-preserved c = record {
  written = line_step gap_line c.args.gaps.now c.loop-gap.gap-index _ c.loop-gap-test.true _ _ _ c.in_ok-put_region.ensures.written c.loop-gap.invariant.written;
  known = All-more IsRegion c.args.gaps.now c.loop-gap.gap-index _ c.loop-gap-test.true c.loop-gap.invariant.known c.in_ok-put_region.ensures.known;
}

pub returns-clause-written : goal.returns-clause-written
returns-clause-written c = lines_done gap_line c.args.gaps.now c.loop-gap.gap-index c.loop-gap-test.false _ _ c.loop-gap.invariant.written

pub returns-clause-known : goal.returns-clause-known
returns-clause-known c = each_passed IsRegion c.args.gaps.now c.loop-gap.gap-index c.loop-gap-test.false c.loop-gap.invariant.known
