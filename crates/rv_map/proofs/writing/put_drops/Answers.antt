use Rattle.std.proofs.lemmas.List.Elements.{All-more}
use Rattle.rv_list_laws.proofs.EachLemmas.{each_passed}
use Rattle.rv_map_laws.specs.Limits.{IsDrop}
use Rattle.rv_map_laws.specs.Text.{drop_line}
use Rattle.rv_map.proofs.StepsLemmas.{line_step, lines_done}
use Rattle.rv_map.proofs.writing.put_drops.Goals as goal

pub loop-section-preserved : goal.loop-section-preserved
loop-section-preserved c = record {
  written = line_step drop_line c.args.drops.now c.loop-section.section-index _ c.loop-section-test.true _ _ _ c.in_ok-put_drop.ensures.written c.loop-section.invariant.written;
  known = All-more IsDrop c.args.drops.now c.loop-section.section-index _ c.loop-section-test.true c.loop-section.invariant.known c.in_ok-put_drop.ensures.known;
}

pub returns-clause-written : goal.returns-clause-written
returns-clause-written c = lines_done drop_line c.args.drops.now c.loop-section.section-index c.loop-section-test.false _ _ c.loop-section.invariant.written

pub returns-clause-known : goal.returns-clause-known
returns-clause-known c = each_passed IsDrop c.args.drops.now c.loop-section.section-index c.loop-section-test.false c.loop-section.invariant.known
