-- The statements of a section follow one another and end where its bytes end, whatever the parts of each are; and the sections of an
-- object stand in the order of its source's, whatever relates one to the other.

use Rattle.std.proofs.Common.{◌≡◌, ℕ, zero, suc, ◌+◌, List, [], ◌∷◌, length, refl, ap, ◌∙◌, subst, arith, length-append, Some}
use Rattle.std.specs.Prelude.{⊤, flat_map}
use Rattle.std.specs.List.{slice_get}
use Rattle.rv_unit_laws.specs.Sections.{Section as SourceSection}
use Rattle.rv_unit_laws.specs.Tables.{Tables}
use Rattle.rv_object_laws.specs.Object.{Section, Symbol}
use Rattle.rv_assemble_laws.specs.LaidStatements.{LaidStatement, LaidPart, part_bytes, laid_in, end_of}
use Rattle.rv_assemble_laws.specs.IsObjectOf.{Numbering, IsSectionOf, AreSectionsOf}
use Rattle.rv_assemble_laws.proofs.FilledLemmas.{bytes_append}

-- ---- statements

abbrev pub Follow : (LaidStatement → List LaidPart) → ℕ → List LaidStatement → Type 0
Follow parts_of offset [] = ⊤
Follow parts_of offset (s ∷ ss) = (s.offset ≡ offset) × (s.bytes ≡ length (flat_map part_bytes (parts_of s))) × Follow parts_of (offset + s.bytes) ss

pub filled : (parts_of : LaidStatement → List LaidPart) (offset : ℕ) (laid : List LaidStatement) → Follow parts_of offset laid → end_of offset laid ≡ offset + length (flat_map part_bytes (flat_map parts_of laid))
filled parts_of offset [] h = omega arith
filled parts_of offset (s ∷ ss) (at, bytes, h) =
    let own = flat_map part_bytes (parts_of s) in
    let rest = flat_map part_bytes (flat_map parts_of ss) in
    let joined : length (flat_map part_bytes (flat_map parts_of (s ∷ ss))) ≡ length own + length rest =
    ap length (bytes_append (parts_of s) (flat_map parts_of ss)) ∙ length-append own rest in
    let ih = filled parts_of (offset + s.bytes) ss h in omega (arith, joined, bytes, ih)

-- ---- sections

-- each section is that of the source's at its index, with the statements there of all
abbrev pub AreInOrder : (ℕ → SourceSection → List LaidStatement → Section → Type 0) → List LaidStatement → ℕ → List SourceSection → List Section → Type 0
AreInOrder R all index [] [] = ⊤
AreInOrder R all index [] (x ∷ xs) = ⊥
AreInOrder R all index (section ∷ sections) [] = ⊥
AreInOrder R all index (section ∷ sections) (x ∷ xs) = R index section (laid_in index all) x × AreInOrder R all (suc index) sections xs

module _ (R : ℕ → SourceSection → List LaidStatement → Section → Type 0) (all : List LaidStatement) where
  section_from : (index j : ℕ) (sections : List SourceSection) (xs : List Section) (s : SourceSection) → AreInOrder R all index sections xs → slice_get sections j ≡ Some s
      → (x : Section) × (slice_get xs j ≡ Some x) × R (index + j) s (laid_in (index + j) all) x
  section_from index j [] [] s h e = absurd (cc)
  section_from index j [] (x ∷ xs) s h e = absurd h
  section_from index j (y ∷ ys) [] s h e = absurd h
  section_from index zero (y ∷ ys) (x ∷ xs) s (h, hs) e =
      let same : y ≡ s = cc in
      let i : index ≡ index + 0 = omega arith in
      (x, refl, subst (λ n. R n s (laid_in n all) x) i (subst (λ y. R index y (laid_in index all) x) same h))
  section_from index (suc j) (y ∷ ys) (x ∷ xs) s (h, hs) e =
      let found = section_from (suc index) j ys xs s hs e in
      let i : suc index + j ≡ index + suc j = omega arith in
      (found.0, found.1, subst (λ n. R n s (laid_in n all) found.0) i found.2)

  source_from : (index j : ℕ) (sections : List SourceSection) (xs : List Section) (x : Section) → AreInOrder R all index sections xs → slice_get xs j ≡ Some x
      → (s : SourceSection) × (slice_get sections j ≡ Some s) × R (index + j) s (laid_in (index + j) all) x
  source_from index j [] [] x h e = absurd (cc)
  source_from index j [] (y ∷ ys) x h e = absurd h
  source_from index j (s ∷ ss) [] x h e = absurd h
  source_from index zero (s ∷ ss) (y ∷ ys) x (h, hs) e =
      let same : y ≡ x = cc in
      let i : index ≡ index + 0 = omega arith in
      (s, refl, subst (λ n. R n s (laid_in n all) x) i (subst (λ y. R index s (laid_in index all) y) same h))
  source_from index (suc j) (s ∷ ss) (y ∷ ys) x (h, hs) e =
      let found = source_from (suc index) j ss ys x hs e in
      let i : suc index + j ≡ index + suc j = omega arith in
      (found.0, found.1, subst (λ n. R n found.0 (laid_in n all) x) i found.2)

  -- the section of an object at an index is that of the source's section
  pub its_section : (j : ℕ) (sections : List SourceSection) (xs : List Section) (s : SourceSection) → AreInOrder R all 0 sections xs → slice_get sections j ≡ Some s
      → (x : Section) × (slice_get xs j ≡ Some x) × R j s (laid_in j all) x
  its_section j sections xs s h e =
      let found = section_from 0 j sections xs s h e in
      let i : 0 + j ≡ j = omega arith in
      (found.0, found.1, subst (λ n. R n s (laid_in n all) found.0) i found.2)

  pub its_source : (j : ℕ) (sections : List SourceSection) (xs : List Section) (x : Section) → AreInOrder R all 0 sections xs → slice_get xs j ≡ Some x
      → (s : SourceSection) × (slice_get sections j ≡ Some s) × R j s (laid_in j all) x
  its_source j sections xs x h e =
      let found = source_from 0 j sections xs x h e in
      let i : 0 + j ≡ j = omega arith in
      (found.0, found.1, subst (λ n. R n found.0 (laid_in n all) x) i found.2)

-- so do those of an object of a source
pub in_order : (t : Tables) (all : List LaidStatement) (number : Numbering) (symbols : List Symbol) (index : ℕ) (sections : List SourceSection) (xs : List Section)
    → AreSectionsOf t all number symbols index sections xs → AreInOrder (IsSectionOf t all number symbols) all index sections xs
in_order t all number symbols index [] [] h = tt
in_order t all number symbols index [] (x ∷ xs) h = h
in_order t all number symbols index (s ∷ ss) [] h = h
in_order t all number symbols index (s ∷ ss) (x ∷ xs) (h, hs) = (h, in_order t all number symbols (suc index) ss xs hs)
