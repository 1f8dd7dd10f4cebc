use Rattle.std.proofs.Common.{◌≡◌, ◌++◌, ◌∷◌, ◌+◌, [], map, drop, sym, ap, ◌∙◌}
use Rattle.std.proofs.lemmas.List.{drop_more, map_push, append_assoc}
use Rattle.rv_object_types.specs.Sections.{section_of}
use Rattle.rv_shorten.specs.Cut.{move_of}
use Rattle.rv_shorten.specs.Sections.{moves_in, moves_in_all, short_section_of, whole_section_of}
use Rattle.rv_cut_laws.proofs.ShortLemmas.{nothing_cut}
use Rattle.rv_cut_laws.proofs.UncutLemmas.{none_in}
use Rattle.rv_shorten.proofs.lent.whole_sections.Goals as goal

pub loop-section-preserved : goal.loop-section-preserved
loop-section-preserved c =
    let item = c.section-item.result in
    let i = c.loop-section.section-index in
    let left = c.loop-section.left.items in
    let new = c.of.result in
    let more = drop (i + 1) c.args.sections.now in
    let now : drop i c.args.sections.now ≡ item ∷ more = drop_more c.args.sections.now i item c.loop-section-test.true ∙ ap (λ x. x ∷ more) (sym c.section-item.is) in
    let shown : map short_section_of c.push.new.self.items ≡ map short_section_of left ++ short_section_of new ∷ [] = ap (λ l. map short_section_of l) c.in_ok-push.ensures.items ∙ map_push short_section_of left new in
    let pushed : moves_in_all c.push.new.self.items ≡ moves_in_all left ++ moves_in new ∷ [] = ap moves_in_all c.in_ok-push.ensures.items ∙ map_push moves_in left new in
    let lent : map whole_section_of c.push.new.self.items ≡ map whole_section_of left ++ whole_section_of new ∷ [] = ap (λ l. map whole_section_of l) c.in_ok-push.ensures.items ∙ map_push whole_section_of left new in
    record {
      whole = ap (λ l. l ++ map section_of more) lent
          ∙ append_assoc (map whole_section_of left) (whole_section_of new ∷ []) (map section_of more)
          ∙ ap (λ s. map whole_section_of left ++ (s ∷ map section_of more)) c.of.ensures.whole
          ∙ sym (ap (λ l. map whole_section_of left ++ map section_of l) now) ∙ c.loop-section.invariant.whole;
      same = ap (λ l. l ++ map section_of more) shown
          ∙ append_assoc (map short_section_of left) (short_section_of new ∷ []) (map section_of more)
          ∙ ap (λ s. map short_section_of left ++ (s ∷ map section_of more)) (c.of.ensures.left ∙ nothing_cut (section_of item) (map move_of c.new.result.items) (ap (λ l. map move_of l) c.new.ensures.items))
          ∙ sym (ap (λ l. map short_section_of left ++ map section_of l) now) ∙ c.loop-section.invariant.same;
      none = ap (λ l. l ++ none_in more) pushed
          ∙ append_assoc (moves_in_all left) (moves_in new ∷ []) (none_in more)
          ∙ ap (λ m. moves_in_all left ++ (m ∷ none_in more)) (c.of.ensures.cuts ∙ ap (λ l. map move_of l) c.new.ensures.items)
          ∙ sym (ap (λ l. moves_in_all left ++ none_in l) now) ∙ c.loop-section.invariant.none;
    }
