-- One section more of the sections so far.

use Rattle.std.proofs.Common.{◌≡◌, ℕ, ◌+◌, ◌<◌, List, [], ◌∷◌, ◌++◌, length, drop, map, sym, ap, ◌∙◌, subst, get_or, append_assoc}
use Rattle.std.proofs.lemmas.List.{length-set, map-append}
use Rattle.std.specs.Global.{Vec}
use Rattle.std.specs.List.{AllByRecursion}
use Rattle.std.specs.Prelude.{slice_set}
use Rattle.rv_list_laws.proofs.TakeDropLemmas.{drop_read, drop_slice_set}
use Rattle.rv_unit.specs.declared.section.Extent.{Extent}
use Rattle.rv_unit.specs.Sections.{extent_section}
use Rattle.rv_object_types.specs.declared.relocation.Relocation.{Relocation as DeclaredRelocation}
use Rattle.rv_object_types.specs.declared.section.Section.{Section as DeclaredSection}
use Rattle.rv_object_laws.specs.Object.{Section}
use Rattle.rv_object_types.specs.Sections.{section_of}
use Rattle.rv_assemble.specs.Making.{list_of, section_by, IsMakeable, sections_by, AreEach}

-- the sections of those that are left: some vectors were taken
pub record IsSoFar (i : ℕ) (es : List Extent) (ns : List ℕ) (bs : List (Vec ℕ)) (rs : List (Vec DeclaredRelocation))
    (vs : List (Vec ℕ)) (ls : List (Vec DeclaredRelocation)) (made : List DeclaredSection) : Type 0 where
  pub each : AreEach es ns vs ls
  pub makeable : AllByRecursion IsMakeable (sections_by (drop i es) (drop i ns) (drop i vs) (drop i ls))
  pub whole : map section_of made ++ sections_by (drop i es) (drop i ns) (drop i vs) (drop i ls) ≡ sections_by es ns bs rs

module _ (i : ℕ) (es : List Extent) (ns : List ℕ) (bs : List (Vec ℕ)) (rs : List (Vec DeclaredRelocation)) (vs : List (Vec ℕ)) (ls : List (Vec DeclaredRelocation)) (made : List DeclaredSection)
    (h : IsSoFar i es ns bs rs vs ls made) (inside : i < length es) (e : Extent) (n : ℕ) (v : Vec ℕ) (l : Vec DeclaredRelocation)
    (e_is : e ≡ get_or es i e) (n_is : n ≡ get_or ns i n) (v_is : v ≡ get_or vs i v) (l_is : l ≡ get_or ls i l) where
  abbrev own : Section
  own = section_by (extent_section e) e.alignment n v.items (list_of l)

  within_n : i < length ns
  within_n = subst (λ m. i < m) (sym h.each.0) inside

  within_v : i < length vs
  within_v = subst (λ m. i < m) (sym h.each.1) inside

  within_l : i < length ls
  within_l = subst (λ m. i < m) (sym h.each.2) inside

  front : sections_by (drop i es) (drop i ns) (drop i vs) (drop i ls) ≡ own ∷ sections_by (drop (i + 1) es) (drop (i + 1) ns) (drop (i + 1) vs) (drop (i + 1) ls)
  front =
      ap (λ x. sections_by x (drop i ns) (drop i vs) (drop i ls)) (drop_read es i e inside e_is)
      ∙ ap (λ x. sections_by (e ∷ drop (i + 1) es) x (drop i vs) (drop i ls)) (drop_read ns i n within_n n_is)
      ∙ ap (λ x. sections_by (e ∷ drop (i + 1) es) (n ∷ drop (i + 1) ns) x (drop i ls)) (drop_read vs i v within_v v_is)
      ∙ ap (λ x. sections_by (e ∷ drop (i + 1) es) (n ∷ drop (i + 1) ns) (v ∷ drop (i + 1) vs) x) (drop_read ls i l within_l l_is)

  both : IsMakeable own × AllByRecursion IsMakeable (sections_by (drop (i + 1) es) (drop (i + 1) ns) (drop (i + 1) vs) (drop (i + 1) ls))
  both = subst (λ xs. AllByRecursion IsMakeable xs) front h.makeable

  pub makeable_here : IsMakeable own
  makeable_here = both.0

  pub next : (x : Vec ℕ) (y : Vec DeclaredRelocation) (s : DeclaredSection) → section_of s ≡ own → IsSoFar (i + 1) es ns bs rs (slice_set vs i x) (slice_set ls i y) (made ++ s ∷ [])
  next x y s is =
      let rest = sections_by (drop (i + 1) es) (drop (i + 1) ns) (drop (i + 1) vs) (drop (i + 1) ls) in
      let same : sections_by (drop (i + 1) es) (drop (i + 1) ns) (drop (i + 1) (slice_set vs i x)) (drop (i + 1) (slice_set ls i y)) ≡ rest =
      ap (λ z. sections_by (drop (i + 1) es) (drop (i + 1) ns) z (drop (i + 1) (slice_set ls i y))) (drop_slice_set vs i x)
      ∙ ap (λ z. sections_by (drop (i + 1) es) (drop (i + 1) ns) (drop (i + 1) vs) z) (drop_slice_set ls i y) in
      record {
        each = (h.each.0, length-set vs i x ∙ h.each.1, length-set ls i y ∙ h.each.2);
        makeable = subst (λ xs. AllByRecursion IsMakeable xs) (sym same) both.1;
        whole = ap (λ xs. map section_of (made ++ s ∷ []) ++ xs) same ∙ ap (λ xs. xs ++ rest) (map-append section_of made (s ∷ [])) ∙ append_assoc (map section_of made) (section_of s ∷ []) rest
            ∙ ap (λ (z : Section). map section_of made ++ z ∷ rest) is ∙ ap (λ xs. map section_of made ++ xs) (sym front) ∙ h.whole;
      }
