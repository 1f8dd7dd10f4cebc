use Rattle.std.proofs.Common.{◌<◌, ◌≡◌, ◌∙◌, length, map, get_or, sym, ap, subst}
use Rattle.std.specs.Vec.{with_items}
use Rattle.std.proofs.lemmas.List.{with_items_is}
use Rattle.rv_list_laws.proofs.OptionsLemmas.{if_none}
use Rattle.rv_shorten.specs.Sections.{short_section_of}
use Rattle.rv_shorten.specs.View.{short_object_of}
use Rattle.rv_placement.specs.Walk.{goes, started, ended, ended_files}
use Rattle.rv_placement.proofs.WalksLemmas.{files_far, each_file, files_moved, files_ended, files_each, as_many, length-started}
use Rattle.rv_placement.proofs.regions.move_files.Goals as goal

pub move_file-requires-clause-each : goal.move_file-requires-clause-each
move_file-requires-clause-each c =
    let inside = subst (λ n. c.loop-i.i < n) (sym (as_many c.loop-i.files c.args.objects.now c.loop-i.invariant.3)) c.loop-i-test.true in
    let each = each_file c.loop-i.files c.args.objects.now c.loop-i.i c.index-files-i.result c.index-objects-i.result c.loop-i.invariant.3 inside c.loop-i-test.true c.index-files-i.is c.index-objects-i.is in
    ap length c.as_mut_slice.ensures.value ∙ ap (λ f. length f.items) (sym c.index-files-i.is) ∙ each ∙ ap (λ o. length o.sections.items) c.index-objects-i.is ∙ ap length (sym c.as_slice-sections.ensures.value)

pub returns-in_err-stop-clause-far : goal.returns-in_err-stop-clause-far
returns-in_err-stop-clause-far c =
    let o = c.index-objects-i.result in
    let here = c.as_slice-sections.ensures.value ∙ ap (λ o. o.sections.items) (sym c.index-objects-i.is) in
    let far = ap (λ l. ended (goes c.args.destination) c.loop-i.stop (map short_section_of l)) here in
    if_none c.from_residual.result
    (files_far (goes c.args.destination) c.args.ceiling c.loop-i.stop (ended_files (goes c.args.destination) c.args.first (map short_object_of c.args.objects.now)) c.args.objects.now c.loop-i.i o c.loop-i-test.true c.index-objects-i.is
    (subst (λ l. c.args.ceiling < ended (goes c.args.destination) c.loop-i.stop (map short_section_of l)) here c.in_err-stop.ensures.far) c.loop-i.invariant.1)

pub loop-i-preserved : goal.loop-i-preserved
loop-i-preserved c =
    let to = goes c.args.destination in
    let i = c.loop-i.i in
    let fs = c.loop-i.files in
    let f = c.index-files-i.result in
    let o = c.index-objects-i.result in
    let objects = c.args.objects.now in
    let inside = subst (λ n. i < n) (sym (as_many fs objects c.loop-i.invariant.3)) c.loop-i-test.true in
    let here = c.as_slice-sections.ensures.value ∙ ap (λ o. o.sections.items) (sym c.index-objects-i.is) in
    let v = get_or fs i f in
    let g = with_items v c.move_file.new.places in
    let came : c.move_file.new.places ≡ started to c.loop-i.stop (get_or fs i f).items (map short_section_of o.sections.items) =
    c.in_ok-stop.ensures.moved.0 ∙ ap (λ l. started to c.loop-i.stop l (map short_section_of c.as_slice-sections.result.now)) c.as_mut_slice.ensures.value ∙ ap (λ l. started to c.loop-i.stop (get_or fs i f).items (map short_section_of l)) here in
    let long : length c.move_file.new.places ≡ v.len = ap length came ∙ length-started to c.loop-i.stop v.items (map short_section_of o.sections.items) ∙ sym v.ok.0 in
    let moved : g.items ≡ started to c.loop-i.stop v.items (map short_section_of o.sections.items) = with_items_is v c.move_file.new.places long ∙ came in
    let ends : c.in_ok-stop.stop ≡ ended to c.loop-i.stop (map short_section_of o.sections.items) = c.in_ok-stop.ensures.moved.1 ∙ ap (λ l. ended to c.loop-i.stop (map short_section_of l)) here in (
      files_moved to c.loop-i.stop fs objects i f g o inside c.loop-i-test.true c.index-objects-i.is moved c.in_ok-stop.stop _ ends c.loop-i.invariant.0,
      files_ended to c.loop-i.stop fs objects i f g o inside c.loop-i-test.true c.index-objects-i.is moved c.in_ok-stop.stop _ ends c.loop-i.invariant.1,
      c.in_ok-stop.ensures.moved.2,
      files_each to c.loop-i.stop fs objects i f g o inside c.loop-i-test.true c.index-objects-i.is moved _ c.loop-i.invariant.3,
    )
