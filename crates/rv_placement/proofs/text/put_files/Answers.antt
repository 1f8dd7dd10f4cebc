use Rattle.std.proofs.Common.{◌∙◌, ◌<◌, List, ap, sym, subst, map, ◌++◌}
use Rattle.std.specs.Global.{Vec}
use Rattle.std.specs.List.{AllZip}
use Rattle.rv_list_laws.proofs.MapLemmas.{inside_same_maps}
use Rattle.rv_list_laws.proofs.OptionsLemmas.{of_if_some}
use Rattle.rv_link_laws.specs.Inputs.{goes_to_text}
use Rattle.rv_link_laws.specs.Moves.{Move}
use Rattle.rv_shorten.specs.Sections.{short_section_of}
use Rattle.rv_shorten.specs.declared.object.ShortObject.{ShortObject}
use Rattle.rv_shorten.specs.View.{short_object_of}
use Rattle.rv_relax.specs.declared.section_paddings.SectionPaddings.{SectionPaddings}
use Rattle.rv_relax.specs.Kept.{kept_in, moves_of}
use Rattle.rv_placement.specs.Walk.{ended, ended_files, text_starts, gapped, IsKept}
use Rattle.rv_placement.proofs.WalksLemmas.{files_far}
use Rattle.rv_relax.proofs.ToldLemmas.{same_at}
use Rattle.rv_placement.proofs.TextsLemmas.{told_none, object_ends, object_starts, object_gaps, object_kept}
use Rattle.rv_placement.proofs.text.put_files.Goals as goal

abbrev of_plans : Vec SectionPaddings → List (List Move)
of_plans f = map moves_of f.items

abbrev of_object : ShortObject → List (List Move)
of_object o = map kept_in o.sections.items

pub returns-in-None-clause-far : goal.returns-in-None-clause-far
returns-in-None-clause-far c =
    let far = told_none _ c.in_ok-end.field-0 c.in-None.is c.in_ok-end.ensures.far in
    files_far goes_to_text c.args.ceiling c.loop-i.stop (ended_files goes_to_text c.args.first (map short_object_of c.args.objects.now)) c.args.objects.now c.loop-i.i c.index-objects-i.result c.loop-i-test.true
    c.index-objects-i.is (subst (λ l. c.args.ceiling < ended goes_to_text c.loop-i.stop (map short_section_of l)) (c.as_slice-sections.ensures.value ∙ ap (λ o. o.sections.items) (sym c.index-objects-i.is)) far) c.loop-i.invariant.1

pub bounds-plans-i : goal.bounds-plans-i
bounds-plans-i c = inside_same_maps of_plans of_object c.args.plans.now c.args.objects.now c.requires.plans c.loop-i.i c.loop-i-test.true

pub put_file-requires-clause-plans : goal.put_file-requires-clause-plans
put_file-requires-clause-plans c =
    ap (map moves_of) c.as_slice.ensures.value
    ∙ same_at of_plans of_object c.args.plans.now c.args.objects.now c.requires.plans c.loop-i.i c.index-plans-i.result c.index-objects-i.result c.loop-i-test.true c.index-plans-i.is c.index-objects-i.is
    ∙ sym (ap (map kept_in) (c.as_slice-sections.ensures.value ∙ ap (λ o. o.sections.items) (sym c.index-objects-i.is)))

pub loop-i-preserved : goal.loop-i-preserved
loop-i-preserved c =
    let stop = c.loop-i.stop in
    let i = c.loop-i.i in
    let xs = c.args.objects.now in
    let x = c.index-objects-i.result in
    let inside = c.loop-i-test.true in
    let is = c.index-objects-i.is in
    let same = c.as_slice-sections.ensures.value ∙ ap (λ o. o.sections.items) (sym c.index-objects-i.is) in
    let placed = of_if_some _ c.in_ok-end.field-0 c.in-Some.end c.in-Some.is c.in_ok-end.ensures.placed in
    let ends = placed.0 ∙ ap (λ l. ended goes_to_text stop (map short_section_of l)) same in
    let starts = placed.2 ∙ ap (λ l. text_starts stop (map short_section_of l)) same in
    let kept = subst (λ l. AllZip IsKept (map short_section_of l) c.put_file.new.places.items) same placed.3 in
    let gaps = placed.4 ∙ ap (λ l. c.loop-i.gaps.items ++ gapped stop (map short_section_of l)) same in (
      object_starts stop i xs x inside is c.in-Some.end ends c.put_file.new.places c.loop-i.files.items _ _ c.in_ok-push.ensures.items starts c.loop-i.invariant.0,
      object_ends stop i xs x inside is c.in-Some.end ends _ c.loop-i.invariant.1,
      placed.1,
      object_kept stop i xs x inside is c.in-Some.end ends c.put_file.new.places c.loop-i.files.items _ c.in_ok-push.ensures.items kept c.loop-i.invariant.3,
      object_gaps stop i xs x inside is c.in-Some.end ends c.loop-i.gaps.items _ _ gaps c.loop-i.invariant.4,
    )
