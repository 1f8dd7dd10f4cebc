use Rattle.std.proofs.Common.{◌<◌, ◌∙◌, length, map, rules, ap, sym}
use Rattle.rv_object_types.specs.Parts.{relocation_of}
use Rattle.rv_object_types.specs.View.{object_of}
use Rattle.rv_collect.specs.Drops.{id_at}
use Rattle.rv_collect.specs.Targets.{leads_in}
use Rattle.rv_collect.specs.Walk.{Referred}
use Rattle.rv_collect.proofs.LoadedLemmas.{object_there, section_inside, refers_code}
use Rattle.rv_collect.proofs.walk.Walk.mark_targets.Goals as goal

pub index-section-requires : goal.index-section-requires
index-section-requires c =
    let x = c.index-objects-file.result in
    let inside : c.args.index.0 < length x.sections.items = section_inside c.args.objects.now c.args.file.0 c.args.index.0 x c.requires.has c.index-objects-file.is in
    search rules

pub mark_all-requires-clause-object : goal.mark_all-requires-clause-object
mark_all-requires-clause-object c = object_there c.args.objects.now c.args.file.0 c.args.index.0 c.index-objects-file.result c.requires.has c.index-objects-file.is

pub mark_all-requires-clause-reached : goal.mark_all-requires-clause-reached
mark_all-requires-clause-reached c = λ t leads.
    let xs = c.args.objects.now in
    let x = c.index-objects-file.result in
    let s = c.index-section.result.now in
    Referred (id_at c.args.file.0 c.args.index.0) c.requires.marked
    (refers_code xs c.args.file.0 c.args.index.0 x s c.requires.has c.index-objects-file.is c.index-section.ensures t
    ∙ sym (ap (λ l. leads_in (map object_of xs) c.args.file.0 (object_of x) t (map relocation_of l)) c.as_slice.ensures.value) ∙ leads)

pub returns-clause-followed : goal.returns-clause-followed
returns-clause-followed c = λ t leads has.
    let xs = c.args.objects.now in
    let x = c.index-objects-file.result in
    let s = c.index-section.result.now in
    c.in_ok-mark_all.ensures.marked t
    (ap (λ l. leads_in (map object_of xs) c.args.file.0 (object_of x) t (map relocation_of l)) c.as_slice.ensures.value
    ∙ sym (refers_code xs c.args.file.0 c.args.index.0 x s c.requires.has c.index-objects-file.is c.index-section.ensures t) ∙ leads) has
