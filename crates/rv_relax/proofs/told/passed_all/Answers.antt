use Rattle.std.proofs.Common.{List, map, sym, ap, ◌∙◌}
use Rattle.std.specs.Global.{Vec}
use Rattle.rv_list_laws.proofs.MapLemmas.{inside_same_maps}
use Rattle.rv_link_laws.specs.Moves.{Move}
use Rattle.rv_shorten.specs.declared.object.ShortObject.{ShortObject}
use Rattle.rv_relax.specs.declared.section_paddings.SectionPaddings.{SectionPaddings}
use Rattle.rv_relax.specs.Kept.{kept_in, moves_of}
use Rattle.rv_relax.proofs.ToldLemmas.{same_at}
use Rattle.rv_relax.proofs.told.passed_all.Goals as goal

abbrev of_plans : Vec SectionPaddings → List (List Move)
of_plans f = map moves_of f.items

abbrev of_object : ShortObject → List (List Move)
of_object o = map kept_in o.sections.items

pub bounds-plans-i : goal.bounds-plans-i
bounds-plans-i c = inside_same_maps of_plans of_object c.args.plans.now c.args.objects.now c.requires.plans c.loop-i.i c.loop-i-test.true

pub passed_among-requires-clause-plans : goal.passed_among-requires-clause-plans
passed_among-requires-clause-plans c =
    ap (map moves_of) c.as_slice.ensures.value
    ∙ same_at of_plans of_object c.args.plans.now c.args.objects.now c.requires.plans c.loop-i.i c.index-plans-i.result c.index-objects-i.result c.loop-i-test.true c.index-plans-i.is c.index-objects-i.is
    ∙ sym (ap (map kept_in) (c.as_slice-sections.ensures.value ∙ ap (λ (o : ShortObject). o.sections.items) (sym c.index-objects-i.is)))
