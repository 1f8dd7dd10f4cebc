use Rattle.std.proofs.Common.{◌++◌, map, take, refl, sym, ap, subst, ◌∙◌, IsPermutation}
use Rattle.std.specs.Prelude.{filter}
use Rattle.std.proofs.lemmas.List.{take_all}
use Rattle.std.proofs.lemmas.List.Sorted.{IsPermutation-map}
use Rattle.rv_object_types.specs.Parts.{relocation_of}
use Rattle.rv_object_types.specs.Sections.{section_of}
use Rattle.rv_link_laws.specs.CallSites as laws
use Rattle.rv_link_sites.specs.Between.{Rise, IsBefore}
use Rattle.rv_link_sites.specs.Text.{objects_of, input_of}
use Rattle.rv_link_sites.proofs.SortedLemmas.{rise_sorted, sorted_changes}
use Rattle.rv_link_sites.proofs.ChangedLemmas.{fine_at, field_low, section_apart, taken, whole_sliced, change_more}
use Rattle.rv_link_sites.proofs.changes.put_changes.Goals as goal

pub put_change-requires-clause-lying : goal.put_change-requires-clause-lying
put_change-requires-clause-lying c = (fine_at c.args.input.now.section.now c.args.sorted.now c.loop-i.i c.requires.given.text c.requires.same c.loop-i-test.true).lying

pub and-before-requires : goal.and-before-requires
and-before-requires c = λ some.
    let s = section_of c.args.input.now.section.now in
    let x = fine_at c.args.input.now.section.now c.args.sorted.now c.loop-i.i c.requires.given.text c.requires.same c.loop-i-test.true in
    field_low s _ x c.requires.sized some

pub loop-i-preserved : goal.loop-i-preserved
loop-i-preserved c =
    let os = objects_of c.args.text.now in
    let i = input_of c.args.input.now in
    let k = c.loop-i.i in
    let ys = c.args.sorted.now in
    let inside = c.loop-i-test.true in
    let before = c.loop-i.invariant.1 in
    let all = whole_sliced ys k inside in
    let rise = subst (Rise 0) (sym all) (rise_sorted ys c.requires.rise) in
    let same = subst (IsPermutation i.section.relocations) (sym all) (IsPermutation-map relocation_of c.args.input.now.section.now.relocations.items ys c.requires.same) in (
      change_more ys k inside os i c.args.first c.args.sites.now.items c.loop-i.sites.items c.put_change.new.sites.items c.loop-i.invariant.0
          (c.in_ok-put_change.ensures (map relocation_of (take k ys)) before rise same),
      subst (λ l. IsBefore l c.and-before.result) (sym (taken ys k inside)) (c.and-before.ensures (map relocation_of (take k ys)) before),
    )

pub returns : goal.returns
returns c =
    let os = objects_of c.args.text.now in
    let i = input_of c.args.input.now in
    let xs = c.args.input.now.section.now.relocations.items in
    let ys = c.args.sorted.now in
    c.loop-i.invariant.0
    ∙ ap (λ l. c.args.sites.now.items ++ map (laws.site_of os i c.args.first) l)
    (ap (λ l. filter (laws.may_change os i) (map relocation_of l)) (take_all c.loop-i.i ys c.loop-i-test.false)
    ∙ sorted_changes os i xs ys refl (section_apart c.args.input.now.section.now c.requires.given.text) c.requires.rise c.requires.stable)
