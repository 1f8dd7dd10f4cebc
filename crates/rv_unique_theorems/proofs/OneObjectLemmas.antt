-- The statements of a source have one object.

use Rattle.std.proofs.Common.{◌≡◌, ℕ, suc, Bool, true, false, List, [], ◌∷◌, map, refl, sym, ap, ◌∙◌, subst, Some, None}
use Rattle.std.specs.Prelude.{flat_map, slice_get, if◌then◌else◌}
use Rattle.std.specs.List.{AllByRecursion}
use Rattle.rv_statement_laws.specs.Statement.{Statement}
use Rattle.rv_unit_laws.specs.Sections.{Section as SourceSection}
use Rattle.rv_unit_laws.specs.Tables.{Tables, at_start, tables, opened_of}
use Rattle.rv_unit_laws.specs.Faults.{first_unit_fault}
use Rattle.rv_source_laws.specs.Located.{Located, located_from}
use Rattle.rv_object_laws.specs.Object.{Contents, Relocation, Section, Object}
use Rattle.rv_assemble_laws.specs.LaidStatements.{LaidStatement, part_bytes, parts, laid_in, end_of}
use Rattle.rv_assemble_laws.specs.Symbols.{symbols_of}
use Rattle.rv_assemble_laws.specs.ShownNames.{HasNames}
use Rattle.rv_assemble_laws.specs.IsObjectOf.{contents_of, relocations_from, ArePartsNumbered, IsSectionOf, AreSectionsOf, IsObjectOf}
use Rattle.rv_assemble_laws.proofs.FaultlessLemmas.{no_first_fault}
use Rattle.rv_unique_theorems.proofs.CodeSizesLemmas.{one_code_sizes}
use Rattle.rv_unique_theorems.proofs.OneSizeLemmas.{SameCode, section_bytes}
use Rattle.rv_unique_theorems.proofs.PairsLemmas.{Pairs, SameLocated, SameBytes, located_pairs, pairs_by, pairs_in, pairs_all}
use Rattle.rv_unique_theorems.proofs.RecodedLemmas.{Recoded, SameOffset, AreSaid, offsets_one, recoded, parts_same, rows_same, ends_same, section_same, compressed_same}
use Rattle.rv_unique_theorems.proofs.SaidLemmas.{IsSaid, code_bytes, at_home, section_in, said_in, sizes_of_code, least_of_code}
use Rattle.rv_unique_theorems.proofs.OneTableLemmas.{symbols_same}
use Rattle.rv_unique_theorems.proofs.OneNumberLemmas.{relocations_one}

-- ---- both objects

said_pairs : (t : Tables) (home : SourceSection) (a b : ℕ) (xs ys : List LaidStatement) → Pairs SameOffset xs ys → AllByRecursion (λ s. (s.located.home ≡ home) × IsSaid t a s) xs
    → AllByRecursion (λ s. (s.located.home ≡ home) × IsSaid t b s) ys → Pairs (AreSaid t) xs ys
said_pairs t home a b [] [] l h k = tt
said_pairs t home a b [] (y ∷ ys) l h k = absurd l
said_pairs t home a b (x ∷ xs) [] l h k = absurd l
said_pairs t home a b (x ∷ xs) (y ∷ ys) (l, ls) ((is, h), hs) ((js, k), ks) = ((l, (a, h), (b, k)), said_pairs t home a b xs ys ls hs ks)

abbrev record_of : List ℕ → Bool → Bool → Bool → Contents → ℕ → List Relocation → Section
record_of name loaded executable writable contents alignment relocations = record {
  name = name;
  loaded = loaded;
  executable = executable;
  writable = writable;
  contents = contents;
  alignment = alignment;
  relocations = relocations;
}

module _ (ss : List Statement) (names : HasNames ss) (o p : Object) (h : IsObjectOf ss o) (k : IsObjectOf ss p) where
  abbrev t : Tables
  t = tables ss

  abbrev xs : List LaidStatement
  xs = h.laid

  abbrev ys : List LaidStatement
  ys = k.laid

  abbrev ls : List Located
  ls = located_from 1 1 (at_start ss) ss

  abbrev sections : List SourceSection
  sections = (opened_of t).sections

  free : first_unit_fault ss ≡ None
  free = no_first_fault ss h.good

  same : Pairs SameLocated xs ys
  same = located_pairs xs ys (h.located ∙ sym k.located)

  -- in sections of code both have the least sizes
  same_code : Pairs SameCode xs ys
  same_code =
      pairs_by code_bytes xs ys same
      (one_code_sizes t ls (map code_bytes xs) (map code_bytes ys) (sizes_of_code ss o h) (sizes_of_code ss p k) (least_of_code ss o h) (least_of_code ss p k))

  module _ (j : ℕ) (home : SourceSection) (at : slice_get sections j ≡ Some home) where
    first : (x : Section) × IsSectionOf t xs h.number o.symbols j home (laid_in j xs) x
    first = section_in ss o h j home at

    second : (x : Section) × IsSectionOf t ys k.number p.symbols j home (laid_in j ys) x
    second = section_in ss p k j home at

    bytes_in : Pairs SameBytes (laid_in j xs) (laid_in j ys)
    bytes_in =
        section_bytes t home (section_in ss o h j home at).0.alignment (section_in ss p k j home at).0.alignment (laid_in j xs) (laid_in j ys)
        (pairs_in SameCode (λ x y e. e.0) j xs ys same_code) first.1.tile second.1.tile (said_in ss o h j home at) (said_in ss p k j home at)

    alike_in : Pairs (AreSaid t) (laid_in j xs) (laid_in j ys)
    alike_in =
        said_pairs t home (section_in ss o h j home at).0.alignment (section_in ss p k j home at).0.alignment (laid_in j xs) (laid_in j ys)
        (offsets_one t 0 0 refl (laid_in j xs) (laid_in j ys) bytes_in first.1.tile second.1.tile) (said_in ss o h j home at) (said_in ss p k j home at)

  recoded_all : Recoded t xs ys
  recoded_all = recoded t xs ys (pairs_all (AreSaid t) sections xs ys same (at_home ss o h) alike_in)

  one_table : symbols_of t ys ≡ symbols_of t xs
  one_table = symbols_same t xs ys recoded_all

  -- ---- sections

  first_symbols : o.symbols ≡ symbols_of t xs
  first_symbols = h.symbols

  second_symbols : p.symbols ≡ symbols_of t xs
  second_symbols = k.symbols ∙ one_table

  relocations_same : (j : ℕ) (loaded : Bool) → (loaded ≡ true → ArePartsNumbered t xs h.number o.symbols (parts t (laid_in j xs))) → (loaded ≡ true → ArePartsNumbered t ys k.number p.symbols (parts t (laid_in j ys)))
      → (if loaded then relocations_from h.number 0 (parts t (laid_in j xs)) else []) ≡ (if loaded then relocations_from k.number 0 (parts t (laid_in j ys)) else [])
  relocations_same j true f g =
      let whole : parts t (laid_in j ys) ≡ parts t (laid_in j xs) = parts_same t (laid_in j xs) (laid_in j ys) (section_same t j xs ys recoded_all) in
      let a = subst (λ l. ArePartsNumbered t xs h.number l (parts t (laid_in j xs))) first_symbols (f refl) in
      let b = subst (λ l. ArePartsNumbered t ys k.number l (parts t (laid_in j xs))) second_symbols (subst (λ ps. ArePartsNumbered t ys k.number p.symbols ps) whole (g refl)) in
      relocations_one ss names free xs ys h.located recoded_all h.number k.number 0 (parts t (laid_in j xs)) a b ∙ ap (relocations_from k.number 0) (sym whole)
  relocations_same j false f g = refl

  one_section : (j : ℕ) (home : SourceSection) (x y : Section) → IsSectionOf t xs h.number o.symbols j home (laid_in j xs) x → IsSectionOf t ys k.number p.symbols j home (laid_in j ys) y → x ≡ y
  one_section j home x y f g =
      let whole : parts t (laid_in j ys) ≡ parts t (laid_in j xs) = parts_same t (laid_in j xs) (laid_in j ys) (section_same t j xs ys recoded_all) in
      let end : end_of 0 (laid_in j ys) ≡ end_of 0 (laid_in j xs) = ends_same t 0 (laid_in j xs) (laid_in j ys) (section_same t j xs ys recoded_all) in
      let contents : x.contents ≡ y.contents =
      f.contents
      ∙ ap (λ n. contents_of home.section_type n (flat_map part_bytes (parts t (laid_in j xs)))) (sym end)
      ∙ ap (λ ps. contents_of home.section_type (end_of 0 (laid_in j ys)) (flat_map part_bytes ps)) (sym whole)
      ∙ sym g.contents in
      let relocations : x.relocations ≡ y.relocations = f.relocations ∙ relocations_same j home.loaded f.numbered g.numbered ∙ sym g.relocations in
      ap (λ n. record_of n x.loaded x.executable x.writable x.contents x.alignment x.relocations) (f.name ∙ sym g.name)
      ∙ ap (λ l. record_of y.name l x.executable x.writable x.contents x.alignment x.relocations) (f.loaded ∙ sym g.loaded)
      ∙ ap (λ e. record_of y.name y.loaded e x.writable x.contents x.alignment x.relocations) (f.executable ∙ sym g.executable)
      ∙ ap (λ w. record_of y.name y.loaded y.executable w x.contents x.alignment x.relocations) (f.writable ∙ sym g.writable)
      ∙ ap (λ c. record_of y.name y.loaded y.executable y.writable c x.alignment x.relocations) contents
      ∙ ap (λ a. record_of y.name y.loaded y.executable y.writable y.contents a x.relocations) (f.alignment ∙ sym g.alignment)
      ∙ ap (λ r. record_of y.name y.loaded y.executable y.writable y.contents y.alignment r) relocations

  all_sections : (j : ℕ) (places : List SourceSection) (cs bs : List Section) → AreSectionsOf t xs h.number o.symbols j places cs → AreSectionsOf t ys k.number p.symbols j places bs → cs ≡ bs
  all_sections j [] [] [] f g = refl
  all_sections j [] [] (b ∷ bs) f g = absurd g
  all_sections j [] (a ∷ cs) bs f g = absurd f
  all_sections j (home ∷ places) [] bs f g = absurd f
  all_sections j (home ∷ places) (a ∷ cs) [] f g = absurd g
  all_sections j (home ∷ places) (a ∷ cs) (b ∷ bs) (f, fs) (g, gs) =
      ap (λ z. z ∷ cs) (one_section j home a b f g) ∙ ap (λ l. b ∷ l) (all_sections (suc j) places cs bs fs gs)

  -- ---- the whole

  pub one_object : o ≡ p
  one_object =
      let parts_are : o.sections ≡ p.sections = all_sections 0 sections o.sections p.sections h.sections k.sections in
      let symbols : o.symbols ≡ p.symbols = first_symbols ∙ sym second_symbols in
      let rows : o.rows ≡ p.rows = h.rows ∙ sym (rows_same t xs ys recoded_all) ∙ sym k.rows in
      let rvc : o.rvc ≡ p.rvc = h.rvc ∙ sym (compressed_same t xs ys recoded_all) ∙ sym k.rvc in
      ap (λ z. record { sections = z; symbols = o.symbols; rows = o.rows; rvc = o.rvc }) parts_are
      ∙ ap (λ z. record { sections = p.sections; symbols = z; rows = o.rows; rvc = o.rvc }) symbols
      ∙ ap (λ z. record { sections = p.sections; symbols = p.symbols; rows = z; rvc = o.rvc }) rows
      ∙ ap (λ z. record { sections = p.sections; symbols = p.symbols; rows = p.rows; rvc = z }) rvc
