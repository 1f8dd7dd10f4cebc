use Rattle.std.proofs.Common.{◌++◌, List, map, sym, ap, ◌∙◌}
use Rattle.std.specs.Global.{Vec}
use Rattle.std.specs.List.{slice_get}
use Rattle.rv_list_laws.proofs.MapLemmas.{inside_same_maps}
use Rattle.rv_link_laws.specs.Moves.{Move}
use Rattle.rv_shorten.specs.declared.object.ShortObject.{ShortObject}
use Rattle.rv_relax.specs.declared.section_paddings.SectionPaddings.{SectionPaddings}
use Rattle.rv_relax.specs.Kept.{kept_in, moves_of}
use Rattle.rv_relax.specs.Told.{told_sections}
use Rattle.rv_relax.proofs.ToldLemmas.{same_at, passed_one, found_one, told_in}
use Rattle.rv_relax.proofs.told.found_in_all.Goals as goal

abbrev of_plans : Vec SectionPaddings → List (List Move)
of_plans f = map moves_of f.items

abbrev of_object : ShortObject → List (List Move)
of_object o = map kept_in o.sections.items

pub bounds-plans-i : goal.bounds-plans-i
bounds-plans-i c = inside_same_maps of_plans of_object c.args.plans.now c.args.objects.now c.requires c.loop-i.i c.loop-i-test.true

pub found_among-requires : goal.found_among-requires
found_among-requires c =
    ap (map moves_of) c.as_slice.ensures.value
    ∙ same_at of_plans of_object c.args.plans.now c.args.objects.now c.requires c.loop-i.i c.index-plans-i.result c.index-objects-i.result c.loop-i-test.true c.index-plans-i.is c.index-objects-i.is
    ∙ sym (ap (map kept_in) (c.as_slice-sections.ensures.value ∙ ap (λ (o : ShortObject). o.sections.items) (sym c.index-objects-i.is)))

pub returns-in-Some : goal.returns-in-Some
returns-in-Some c = λ more.
    let o = c.index-objects-i.result in
    let same = c.as_slice-sections.ensures.value ∙ ap (λ (o : ShortObject). o.sections.items) (sym c.index-objects-i.is) in
    found_one (told_in c.args.counted) c.args.objects.now c.loop-i.i o c.loop-i-test.true c.index-objects-i.is c.args.left.now c.loop-i.left c.loop-i.invariant c.in-Some.bytes
    (λ m. ap (λ l. slice_get (told_sections c.args.counted l ++ m) c.loop-i.left) (sym same) ∙ c.in-Some.ensures m) more

pub loop-i-preserved : goal.loop-i-preserved
loop-i-preserved c = λ more.
    let o = c.index-objects-i.result in
    let same = c.as_slice-sections.ensures.value ∙ ap (λ (o : ShortObject). o.sections.items) (sym c.index-objects-i.is) in
    passed_one (told_in c.args.counted) c.args.objects.now c.loop-i.i o c.loop-i-test.true c.index-objects-i.is c.args.left.now c.loop-i.left c.loop-i.invariant c.found_among.new.left
    (λ m. ap (λ l. slice_get (told_sections c.args.counted l ++ m) c.loop-i.left) (sym same) ∙ c.in-None.ensures m) more
