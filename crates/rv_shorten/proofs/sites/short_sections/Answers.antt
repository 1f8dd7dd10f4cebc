use Rattle.std.proofs.Common.{◌≡◌, ℕ, ◌∷◌, ◌+◌, ◌-◌, ◌≤◌, ◌++◌, [], true, List, length, map, take, drop, sym, ap, subst, ◌∙◌, arith}
use Rattle.std.proofs.lemmas.List.{drop_more, drop-drop, length-drop, take_all, map_push, append_assoc}
use Rattle.rv_size_laws.specs.declared.site.Site.{Site}
use Rattle.rv_object_laws.specs.Object.{Section, stored}
use Rattle.rv_object_types.specs.Sections.{section_of}
use Rattle.rv_shorten.specs.Cut.{move_of}
use Rattle.rv_cut_laws.specs.Cutting.{AreCuts, AllCut, are_cuts, cut_section, cut_sections}
use Rattle.rv_shorten.specs.Sections.{moves_in, moves_in_all, short_section_of, whole_section_of}
use Rattle.rv_cut_laws.specs.Walk.{own_moves, section_moves, object_moves, passed, passed_all}
use Rattle.rv_shorten.proofs.StepsLemmas.{stored_order, one_of_object, one_left}
use Rattle.rv_shorten.proofs.sites.short_sections.Goals.{After-passed-count, In_ok-cuts}
use Rattle.rv_shorten.proofs.sites.short_sections.Goals as goal

-- The section, those behind it, and the sites and lengths that are left for them.
module _ (c : After-passed-count) where
  abbrev section : Section
  section = section_of c.section-item.result

  abbrev rest : List Section
  rest = map section_of (drop (c.loop-section.section-index + 1) c.args.sections.now)

  abbrev sites_left : List Site
  sites_left = drop c.loop-section.at c.args.sites.now

  abbrev kept_left : List ℕ
  kept_left = drop c.loop-section.at c.args.kept.now

  now : map section_of (drop c.loop-section.section-index c.args.sections.now) ≡ section ∷ rest
  now = ap (λ l. map section_of l) (drop_more c.args.sections.now c.loop-section.section-index c.section-item.result c.loop-section-test.true ∙ ap (λ x. x ∷ drop (c.loop-section.section-index + 1) c.args.sections.now) (sym c.section-item.is))

  cuts : AllCut (section ∷ rest) (object_moves (section ∷ rest) sites_left kept_left)
  cuts = subst (λ (l : List Section). AllCut l (object_moves l sites_left kept_left)) now c.loop-section.invariant.cuts

  all_left : take (length c.args.sites.now - c.loop-section.at) sites_left ≡ sites_left
  all_left = let long = length-drop c.loop-section.at c.args.sites.now in take_all (length c.args.sites.now - c.loop-section.at) sites_left (omega (arith, long))

  passed_is : c.passed-count.result ≡ passed section sites_left
  passed_is = c.passed-count.ensures.value ∙ ap (passed section) all_left

  count : c.loop-section.at + c.passed-count.result - c.loop-section.at ≡ passed section sites_left
  count = omega (arith, passed_is)

-- The section's own cuts are its moves.
own : (c : In_ok-cuts) → c.loop-section.at + c.passed-count.result - c.loop-section.at ≡ passed (section_of c.section-item.result) (drop c.loop-section.at c.args.sites.now)
    → map move_of c.in_ok-cuts.cuts.items ≡ section_moves (section_of c.section-item.result) (drop c.loop-section.at c.args.sites.now) (drop c.loop-section.at c.args.kept.now)
own c counted = c.in_ok-cuts.ensures.moves ∙ ap (λ m. own_moves (stored (section_of c.section-item.result).contents) (take m (drop c.loop-section.at c.args.sites.now)) (take m (drop c.loop-section.at c.args.kept.now))) counted

pub section_cuts-requires-clause-cuts : goal.section_cuts-requires-clause-cuts
section_cuts-requires-clause-cuts c =
    let h = (goal.at.section_cuts-requires-clause-cuts c).After-passed-count in
    let bytes = stored (section h).contents in
    subst (λ (n : ℕ). are_cuts 0 (length bytes) (own_moves bytes (take n (sites_left h)) (take n (kept_left h))) ≡ true) (sym (count h))
    (stored_order (section h) (section_moves (section h) (sites_left h) (kept_left h)) c.section-item.result.inside (cuts h).0)

pub of-requires-clause-cuts : goal.of-requires-clause-cuts
of-requires-clause-cuts c =
    let h = (goal.at.of-requires-clause-cuts c).After-passed-count in
    subst (λ l. AreCuts (section h) l) (sym (own (goal.at.of-requires-clause-cuts c).In_ok-cuts (count h))) (cuts h).0

pub loop-section-preserved : goal.loop-section-preserved
loop-section-preserved c =
    let h = (goal.at.loop-section-preserved c).After-passed-count in
    let s = section h in
    let rest = rest h in
    let at = c.loop-section.at in
    let ys = sites_left h in
    let ks = kept_left h in
    let n = c.passed-count.result in
    let now = now h in
    let value = passed_is h in
    let moved = own (goal.at.loop-section-preserved c).In_ok-cuts (count h) in
    let left = c.loop-section.left.items in
    let new = c.of.result in
    let moves = object_moves (map section_of c.args.sections.now) c.args.sites.now c.args.kept.now in
    let pushed : moves_in_all c.push.new.self.items ≡ moves_in_all left ++ moves_in new ∷ [] = ap moves_in_all c.in_ok-push.ensures.items ∙ map_push moves_in left new in
    let shown : map short_section_of c.push.new.self.items ≡ map short_section_of left ++ short_section_of new ∷ [] = ap (λ l. map short_section_of l) c.in_ok-push.ensures.items ∙ map_push short_section_of left new in
    let sites : drop (at + n) c.args.sites.now ≡ drop n ys = sym (drop-drop n at c.args.sites.now) in
    let kept : drop (at + n) c.args.kept.now ≡ drop n ks = sym (drop-drop n at c.args.kept.now) in
    let same_sites : drop (at + n) c.args.sites.now ≡ drop (passed s ys) ys = sites ∙ ap (λ m. drop m ys) value in
    let same_kept : drop (at + n) c.args.kept.now ≡ drop (passed s ys) ks = kept ∙ ap (λ m. drop m ks) value in
    let short : n ≤ length ys = subst (λ (l : List Site). n ≤ length l) (all_left h) c.passed-count.ensures.low in
    let long = length-drop at c.args.sites.now in
    let so_far = c.loop-section.invariant.passed in
    let total = ap (λ l. passed_all l ys) now in
    let ahead = ap (λ l. passed_all rest l) same_sites in
    let lent : map whole_section_of c.push.new.self.items ≡ map whole_section_of left ++ whole_section_of new ∷ [] = ap (λ l. map whole_section_of l) c.in_ok-push.ensures.items ∙ map_push whole_section_of left new in
    record {
      whole = ap (λ l. l ++ rest) lent
          ∙ append_assoc (map whole_section_of left) (whole_section_of new ∷ []) rest
          ∙ ap (λ x. map whole_section_of left ++ (x ∷ rest)) c.of.ensures.whole
          ∙ sym (ap (λ l. map whole_section_of left ++ l) now) ∙ c.loop-section.invariant.whole;
      made = ap (λ l. l ++ object_moves rest (drop (at + n) c.args.sites.now) (drop (at + n) c.args.kept.now)) pushed
          ∙ ap (λ l. (moves_in_all left ++ moves_in new ∷ []) ++ object_moves rest l (drop (at + n) c.args.kept.now)) sites
          ∙ ap (λ l. (moves_in_all left ++ moves_in new ∷ []) ++ object_moves rest (drop n ys) l) kept
          ∙ one_of_object s rest ys ks n (moves_in new) (moves_in_all left) moves value (c.of.ensures.cuts ∙ moved)
          (sym (ap (λ (l : List Section). moves_in_all left ++ object_moves l ys ks) now) ∙ c.loop-section.invariant.made);
      left = ap (λ l. l ++ cut_sections (object_moves rest (drop (at + n) c.args.sites.now) (drop (at + n) c.args.kept.now)) rest) shown
          ∙ ap (λ l. (map short_section_of left ++ short_section_of new ∷ []) ++ cut_sections (object_moves rest l (drop (at + n) c.args.kept.now)) rest) sites
          ∙ ap (λ l. (map short_section_of left ++ short_section_of new ∷ []) ++ cut_sections (object_moves rest (drop n ys) l) rest) kept
          ∙ one_left s rest ys ks n (short_section_of new) (map short_section_of left) (cut_sections moves (map section_of c.args.sections.now)) value (c.of.ensures.left ∙ ap (λ l. cut_section l s) moved)
          (sym (ap (λ (l : List Section). map short_section_of left ++ cut_sections (object_moves l ys ks) l) now) ∙ c.loop-section.invariant.left);
      cuts = subst (λ l. AllCut rest (object_moves rest l (drop (at + n) c.args.kept.now))) (sym same_sites) (subst (λ l. AllCut rest (object_moves rest (drop (passed s ys) ys) l)) (sym same_kept) (cuts h).1);
      passed = omega (arith, so_far, total, ahead, value);
      low = omega (arith, short, long, c.loop-section.invariant.low);
    }
