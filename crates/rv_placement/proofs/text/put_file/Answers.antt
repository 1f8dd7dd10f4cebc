use Rattle.std.proofs.Common.{map}
use Rattle.rv_list_laws.proofs.MapLemmas.{inside_same_maps}
use Rattle.rv_list_laws.proofs.OptionsLemmas.{of_if_some}
use Rattle.rv_link_laws.specs.Inputs.{goes_to_text}
use Rattle.rv_shorten.specs.Sections.{short_section_of}
use Rattle.rv_relax.specs.Kept.{kept_in, moves_of}
use Rattle.rv_placement.specs.Walk.{ended}
use Rattle.rv_placement.proofs.WalksLemmas.{file_far}
use Rattle.rv_relax.proofs.ToldLemmas.{same_at}
use Rattle.rv_placement.proofs.TextsLemmas.{told_none, section_ends, section_starts, section_gaps, section_kept}
use Rattle.rv_placement.proofs.text.put_file.Goals as goal

pub returns-in-None-clause-far : goal.returns-in-None-clause-far
returns-in-None-clause-far c =
    file_far goes_to_text c.args.ceiling c.loop-i.stop (ended goes_to_text c.args.first (map short_section_of c.args.sections.now)) c.args.sections.now c.loop-i.i c.index-sections-i.result c.loop-i-test.true
    c.index-sections-i.is (told_none _ c.in_ok-end.field-0 c.in-None.is c.in_ok-end.ensures.far) c.loop-i.invariant.1

pub bounds-plans-i : goal.bounds-plans-i
bounds-plans-i c = inside_same_maps moves_of kept_in c.args.plans.now c.args.sections.now c.requires.plans c.loop-i.i c.loop-i-test.true

pub put_section-requires-clause-plan : goal.put_section-requires-clause-plan
put_section-requires-clause-plan c =
    same_at moves_of kept_in c.args.plans.now c.args.sections.now c.requires.plans c.loop-i.i c.index-plans-i.result c.index-sections-i.result c.loop-i-test.true c.index-plans-i.is c.index-sections-i.is

pub loop-i-preserved : goal.loop-i-preserved
loop-i-preserved c =
    let stop = c.loop-i.stop in
    let i = c.loop-i.i in
    let xs = c.args.sections.now in
    let x = c.index-sections-i.result in
    let inside = c.loop-i-test.true in
    let is = c.index-sections-i.is in
    let placed = of_if_some _ c.in_ok-end.field-0 c.in-Some.end c.in-Some.is c.in_ok-end.ensures.placed in
    let put = placed.2 in (
      section_starts stop i xs x inside is c.in-Some.end placed.0 put.0 c.loop-i.places.items _ _ put.1 put.2 c.loop-i.invariant.0,
      section_ends stop i xs x inside is c.in-Some.end placed.0 _ c.loop-i.invariant.1,
      placed.1,
      section_kept stop i xs x inside is c.in-Some.end placed.0 put.0 c.loop-i.places.items _ put.1 put.3 c.loop-i.invariant.3,
      section_gaps stop i xs x inside is c.in-Some.end placed.0 c.loop-i.gaps.items _ _ placed.3 c.loop-i.invariant.4,
    )
