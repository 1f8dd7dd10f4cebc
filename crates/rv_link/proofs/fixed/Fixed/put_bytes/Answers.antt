use Rattle.std.proofs.Common.{rules, ◌≡◌, ◌-◌, ◌++◌, [], length, take, drop, ℕ, List, refl, subst, sym, ap, ◌∙◌, arith}
use Rattle.std.proofs.lemmas.List.{drop_all, length-drop}
use Rattle.std.specs.List.{AllByRecursion}
use borrow.Rule.Slice.PartMut.{post_of}
use Rattle.rv_shorten.specs.Sections.{short_section_of}
use Rattle.rv_link_laws.specs.Moves.{Move, moves, kept, new_offset}
use Rattle.rv_link_laws.specs.Values.{applied, initial_bytes}
use Rattle.rv_link_laws.specs.Untaken.{worth}
use Rattle.rv_relax.specs.Kept.{moves_of}
use Rattle.rv_link.specs.Filled.{IsInside, objects_of, input_of, linked_in}
use Rattle.rv_placement.specs.Placement.{layout_of}
use Rattle.rv_link.proofs.StepsLemmas.{part_is, part_new, all_inside}
use Rattle.rv_link.proofs.fixed.Fixed.put_bytes.Goals as goal

pub relocate-requires-clause-inside : goal.relocate-requires-clause-inside
relocate-requires-clause-inside c =
    let x = c.args.input.now in
    let s = short_section_of x.section.now in
    let ms : List Move = moves_of x.placed.now.plan.now in
    let k : List ℕ = kept 0 ms (initial_bytes s.contents) in
    let from : c.len-from.result ≡ length c.args.out.now.items = search rules in
    let part : take (length c.deref_mut.result.now - c.len-from.result) (drop c.len-from.result c.deref_mut.result.now) ≡ k =
    part_is c.args.out.now.items k c.deref_mut.result.now c.len-from.result (c.deref_mut.ensures.value ∙ c.in_ok-put_contents.ensures) from in
    let here : AllByRecursion (IsInside ms (length k)) s.relocations = all_inside s x.placed.now.start ms k c.requires.input.planned c.requires.input.room x.section.now.paddings x.section.now.inside refl in
    subst (λ l. AllByRecursion (IsInside ms (length l)) s.relocations) (sym part) here

pub returns-clause-bytes : goal.returns-clause-bytes
returns-clause-bytes c =
    let x = c.args.input.now in
    let s = short_section_of x.section.now in
    let ms : List Move = moves_of x.placed.now.plan.now in
    let k : List ℕ = kept 0 ms (initial_bytes s.contents) in
    let old = c.args.out.now.items in
    let all = c.deref_mut.result.now in
    let n = c.len-from.result in
    let new = c.relocate.new.bytes in
    let w = worth (objects_of c.args.self.now) (layout_of c.args.self.now.placement.now) (input_of c.args.self.now x) in
    let from : n ≡ length old = search rules in
    let whole : all ≡ old ++ k = c.deref_mut.ensures.value ∙ c.in_ok-put_contents.ensures in
    let part : take (length all - n) (drop n all) ≡ k = part_is old k all n whole from in
    let made : new ≡ applied (new_offset ms) w s.relocations (take (length all - n) (drop n all)) = c.in_ok-relocate.ensures.applied in
    let there : ms ≡ moves x.placed.now.start s = c.requires.input.planned in
    let linked : new ≡ linked_in (objects_of c.args.self.now) c.args.self.now.placement.now (input_of c.args.self.now x) =
    made ∙ ap (λ l. applied (new_offset ms) w s.relocations l) part ∙ ap (λ m. applied (new_offset m) w s.relocations (kept 0 m (initial_bytes s.contents))) (there ∙ ap (λ a. moves a s) (sym c.requires.input.start)) in
    let same : length new ≡ length k = search rules ∙ ap length part in
    let past : List ℕ = post_of n (length all - n) all in
    let none : past ≡ [] = drop_all (length all - n) (drop n all) (omega (arith, length-drop n all)) in
    let total : c.put_contents.new.out.len ≡ length all = search rules in
    let written : take c.put_contents.new.out.len (take n all ++ (new ++ past) ++ drop (length (take n all ++ (new ++ past))) all) ≡ old ++ new = part_new old k all new past n c.put_contents.new.out.len whole from same none total in
    subst (λ l. take c.put_contents.new.out.len (take n all ++ (new ++ past) ++ drop (length (take n all ++ (new ++ past))) l) ≡ old ++ new) c.deref_mut.ensures.value written
    ∙ ap (λ l. old ++ l) linked
