use Rattle.std.proofs.Common.{◌≡◌, ◌++◌, ◌∷◌, ◌+◌, List, [], map, drop, refl, sym, ap, subst, ◌∙◌}
use Rattle.std.proofs.lemmas.List.{drop_more, map_push, append_assoc}
use Rattle.rv_object_types.specs.declared.section.Section.{Section as DeclaredSection}
use Rattle.rv_object_types.specs.Sections.{section_of}
use Rattle.rv_object_types.specs.View.{object_of}
use Rattle.rv_link_laws.specs.Moves.{Move}
use Rattle.rv_cut_laws.specs.Cutting.{AllCut, cut_sections, cut_object}
use Rattle.rv_shorten.specs.Sections.{moves_in_all}
use Rattle.rv_shorten.specs.Cuts.{no_cuts}
use Rattle.rv_shorten.specs.View.{moves_by_section, short_object_of, whole_object_of}
use Rattle.rv_cut_laws.proofs.UncutLemmas.{none_in, none_cut, same_sections, same_object}
use Rattle.rv_shorten.proofs.lent.whole.Goals as goal

none_again : (xs : List DeclaredSection) → map (λ s. []) (map section_of xs) ≡ none_in xs
none_again [] = refl
none_again (x ∷ xs) = ap (λ (l : List (List Move)). [] ∷ l) (none_again xs)

pub of-requires-clause-whole : goal.of-requires-clause-whole
of-requires-clause-whole c = c.in_ok-sections.ensures.whole ∙ ap (λ l. map section_of l) c.deref.ensures.value

pub of-requires-clause-cuts : goal.of-requires-clause-cuts
of-requires-clause-cuts c =
    let xs = c.object-item.result.sections.items in
    let none : moves_in_all c.in_ok-sections.sections.items ≡ none_in xs = c.in_ok-sections.ensures.none ∙ ap (λ l. none_in l) c.deref.ensures.value in
    subst (λ (l : List (List Move)). AllCut (map section_of xs) l) (sym none) (none_cut section_of xs)

pub of-requires-clause-left : goal.of-requires-clause-left
of-requires-clause-left c =
    let xs = c.object-item.result.sections.items in
    let none : moves_in_all c.in_ok-sections.sections.items ≡ none_in xs = c.in_ok-sections.ensures.none ∙ ap (λ l. none_in l) c.deref.ensures.value in
    c.in_ok-sections.ensures.same ∙ ap (λ l. map section_of l) c.deref.ensures.value ∙ sym (same_sections section_of xs) ∙ sym (ap (λ (l : List (List Move)). cut_sections l (map section_of xs)) none)

pub loop-object-preserved : goal.loop-object-preserved
loop-object-preserved c =
    let item = c.object-item.result in
    let xs = item.sections.items in
    let i = c.loop-object.object-index in
    let left = c.loop-object.left.items in
    let new = c.of.result in
    let more = drop (i + 1) c.args.objects.now in
    let now : drop i c.args.objects.now ≡ item ∷ more = drop_more c.args.objects.now i item c.loop-object-test.true ∙ ap (λ x. x ∷ more) (sym c.object-item.is) in
    let none : moves_in_all c.in_ok-sections.sections.items ≡ none_in xs = c.in_ok-sections.ensures.none ∙ ap (λ l. none_in l) c.deref.ensures.value in
    let is : short_object_of new ≡ object_of item = c.of.ensures.left ∙ ap (λ (l : List (List Move)). cut_object l (object_of item)) none ∙ same_object section_of xs (object_of item) refl in
    let shown : map short_object_of c.push.new.self.items ≡ map short_object_of left ++ short_object_of new ∷ [] = ap (λ l. map short_object_of l) c.in_ok-push.ensures.items ∙ map_push short_object_of left new in
    let lent : map whole_object_of c.push.new.self.items ≡ map whole_object_of left ++ whole_object_of new ∷ [] = ap (λ l. map whole_object_of l) c.in_ok-push.ensures.items ∙ map_push whole_object_of left new in
    let bare : moves_by_section new ≡ map (λ s. []) (object_of item).sections = c.of.ensures.cuts ∙ none ∙ sym (none_again xs) in
    let moved : map moves_by_section c.push.new.self.items ≡ map moves_by_section left ++ moves_by_section new ∷ [] = ap (λ l. map moves_by_section l) c.in_ok-push.ensures.items ∙ map_push moves_by_section left new in
    record {
      whole = ap (λ l. l ++ map object_of more) lent
          ∙ append_assoc (map whole_object_of left) (whole_object_of new ∷ []) (map object_of more)
          ∙ ap (λ o. map whole_object_of left ++ (o ∷ map object_of more)) c.of.ensures.whole
          ∙ sym (ap (λ l. map whole_object_of left ++ map object_of l) now) ∙ c.loop-object.invariant.whole;
      same = ap (λ l. l ++ map object_of more) shown
          ∙ append_assoc (map short_object_of left) (short_object_of new ∷ []) (map object_of more)
          ∙ ap (λ o. map short_object_of left ++ (o ∷ map object_of more)) is
          ∙ sym (ap (λ l. map short_object_of left ++ map object_of l) now) ∙ c.loop-object.invariant.same;
      none = ap (λ l. l ++ no_cuts (map object_of more)) moved
          ∙ append_assoc (map moves_by_section left) (moves_by_section new ∷ []) (no_cuts (map object_of more))
          ∙ ap (λ m. map moves_by_section left ++ (m ∷ no_cuts (map object_of more))) bare
          ∙ sym (ap (λ l. map moves_by_section left ++ no_cuts (map object_of l)) now) ∙ c.loop-object.invariant.none;
    }
