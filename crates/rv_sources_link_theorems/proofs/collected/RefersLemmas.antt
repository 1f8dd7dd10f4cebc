-- Objects refer to sections as their sources do.

use Rattle.std.proofs.Common.{◌≡◌, inl, inr, ℕ, suc, ◌<◌, Bool, true, false, ◌==◌, refl, ap, sym, subst, ◌∙◌, arith, List, [], ◌∷◌, map}
use Rattle.std.proofs.Math.Bool.{or-false}
use Rattle.std.specs.Prelude.{⊤, ◌||◌, ◌&&◌, if◌then◌else◌}
use Rattle.std.specs.List.{list_any}
use Rattle.std.proofs.lemmas.Bool.{cases_eq, eq-eqb, ne_eqb, true≢false, and_right}
use Rattle.std.proofs.lemmas.List.{map-append}
use Rattle.std.proofs.lemmas.List.Folds.{list_any-append}
use Rattle.rv_list_laws.proofs.NumbersLemmas.{eq_suc}
use Rattle.rv_map_laws.specs.declared.map.SectionId.{SectionId}
use Rattle.rv_collect_laws.specs.Graph.{is_same, is_one_of}
use Rattle.rv_statement_laws.specs.Statement.{Statement}
use Rattle.rv_unit_laws.specs.Sections.{Section as SourceSection}
use Rattle.rv_unit_laws.specs.Tables.{Tables, tables, at_start, after, opened_of}
use Rattle.rv_source_laws.specs.Located.{located_now, located_from, located_of}
use Rattle.rv_source_laws.specs.Program.{MaybeMapped, Program}
use Rattle.rv_source_laws.specs.Collected.{is_at as stands_at, statement_refers, refers as sources_refer}
use Rattle.rv_object_laws.specs.Object.{Section, Object}
use Rattle.rv_link_laws.specs.Inputs.{InputSection, inputs_from, inputs_of, inputs}
use Rattle.rv_link_laws.specs.IsLinkOf.{is_loaded}
use Rattle.rv_link_laws.specs.Collects.{id_of, loaded_sections, leads_to, is_at, refers as objects_refer}
use Rattle.rv_link_laws.proofs.DanglingLemmas.{any_id}
use Rattle.rv_assemble_laws.specs.LaidStatements.{LaidStatement, laid_in}
use Rattle.rv_assemble_laws.specs.IsObjectOf.{AreSectionsOf, IsObjectOf}
use Rattle.rv_sources_link_theorems.specs.Joins.{AreObjectsOf}
use Rattle.rv_sources_link_theorems.proofs.collected.HereLemmas.{bare, seen, own_are, IsHere, AreHere}
use Rattle.rv_sources_link_theorems.proofs.collected.SectionEdgesLemmas.{AreMeant, refers_by, section_leads}

-- ---- what is not in a file, or not in an index

in_none : (D : InputSection → Bool) (k : ℕ) (o : Object) → ((n : ℕ) (x : Section) → D (record { file = k; object = o; index = n; section = x }) ≡ false)
    → (n : ℕ) (xs : List Section) → list_any D (inputs_from is_loaded k o n xs) ≡ false
in_none D k o no_one n [] = refl
in_none D k o no_one n (x ∷ xs) = go x.loaded (in_none D k o no_one (suc n) xs)
  where
    it : InputSection
    it = record { file = k; object = o; index = n; section = x }

    more : List InputSection
    more = inputs_from is_loaded k o (suc n) xs

    go : (b : Bool) → list_any D more ≡ false → list_any D (if b then it ∷ more else more) ≡ false
    go true h = ap (λ b. b || list_any D more) (no_one n x) ∙ h
    go false h = h

of_none : (D : InputSection → Bool) (least k : ℕ) → ((i : InputSection) → least < i.file → D i ≡ false) → least < k → (us : List Object) → list_any D (inputs_of is_loaded k us) ≡ false
of_none D least k no_one lt [] = refl
of_none D least k no_one lt (o ∷ us) =
    list_any-append D (inputs_from is_loaded k o 0 o.sections) (inputs_of is_loaded (suc k) us)
    ∙ ap (λ b. b || list_any D (inputs_of is_loaded (suc k) us)) (in_none D k o (λ n x. no_one (record { file = k; object = o; index = n; section = x }) lt) 0 o.sections)
    ∙ of_none D least (suc k) no_one (omega (arith, lt)) us

later_none : (D : InputSection → Bool) (k j : ℕ) (o : Object) → ((n : ℕ) (x : Section) → j < n → D (record { file = k; object = o; index = n; section = x }) ≡ false)
    → (n : ℕ) (xs : List Section) → j < n → list_any D (inputs_from is_loaded k o n xs) ≡ false
later_none D k j o no_one n [] lt = refl
later_none D k j o no_one n (x ∷ xs) lt = go x.loaded (later_none D k j o no_one (suc n) xs (omega (arith, lt)))
  where
    it : InputSection
    it = record { file = k; object = o; index = n; section = x }

    more : List InputSection
    more = inputs_from is_loaded k o (suc n) xs

    go : (b : Bool) → list_any D more ≡ false → list_any D (if b then it ∷ more else more) ≡ false
    go true h = ap (λ b. b || list_any D more) (no_one n x lt) ∙ h
    go false h = h

-- ---- all files

-- what relocations name, of all files from a number on
abbrev pub AllMeant : Program → List Object → (k : ℕ) (sources : List (List Statement)) (us : List Object) → AreObjectsOf sources us → Type 0
AllMeant p os k [] [] h = ⊤
AllMeant p os k [] (o ∷ us) h = absurd h
AllMeant p os k (ss ∷ sources) [] h = absurd h
AllMeant p os k (ss ∷ sources) (o ∷ us) (is, h) = AreMeant p os k ss o is × AllMeant p os (suc k) sources us h

module _ (p : Program) (os : List Object) (s T : SectionId) (apart : is_same s T ≡ false) where
  abbrev A : InputSection → Bool
  A i = is_at s i && list_any (leads_to os T i) i.section.relocations

  abbrev C : MaybeMapped → Bool
  C e = statement_refers p T e.located e.located.kind

  abbrev B : MaybeMapped → Bool
  B e = stands_at s e.located && C e

  abbrev H : InputSection → Bool
  H i = is_same s (id_of i)

  from_none : (k o : ℕ) (t : Tables) (ss : List Statement) → (k ≡ s.file → ⊥) → list_any B (map bare (located_from k o t ss)) ≡ false
  from_none k o t [] h = refl
  from_none k o t (x ∷ ss) h =
      let l = located_now k o t x in
      ap (λ b. (b && (suc l.section == s.section)) && C (bare l) || list_any B (map bare (located_from k (suc o) (after t o x.kind) ss))) (ne_eqb k s.file h)
      ∙ from_none k (suc o) (after t o x.kind) ss h

  both_lists : (k : ℕ) (ss : List Statement) (sources : List (List Statement))
      → list_any B (map bare (located_of k (ss ∷ sources))) ≡ (list_any B (map bare (located_from k 1 (at_start ss) ss)) || list_any B (map bare (located_of (suc k) sources)))
  both_lists k ss sources =
      ap (list_any B) (map-append bare (located_from k 1 (at_start ss) ss) (located_of (suc k) sources))
      ∙ list_any-append B (map bare (located_from k 1 (at_start ss) ss)) (map bare (located_of (suc k) sources))

  located_none : (k : ℕ) (sources : List (List Statement)) → s.file < k → list_any B (map bare (located_of k sources)) ≡ false
  located_none k [] lt = refl
  located_none k (ss ∷ sources) lt =
      both_lists k ss sources
      ∙ ap (λ b. b || list_any B (map bare (located_of (suc k) sources))) (from_none k 1 (at_start ss) ss (λ e. omega (arith, lt, e)))
      ∙ located_none (suc k) sources (omega (arith, lt))

  other_file : (k n : ℕ) (c : Bool) → (k ≡ s.file → ⊥) → (((k == s.file) && (suc n == s.section)) && c) ≡ false
  other_file k n c h = ap (λ b. (b && (suc n == s.section)) && c) (ne_eqb k s.file h)

  other_has : (k n : ℕ) → (k ≡ s.file → ⊥) → ((s.file == k) && (s.section == suc n)) ≡ false
  other_has k n h = ap (λ b. b && (s.section == suc n)) (ne_eqb s.file k (λ e. h (sym e)))

  other_index : (k n : ℕ) (c : Bool) → (suc n ≡ s.section → ⊥) → (((k == s.file) && (suc n == s.section)) && c) ≡ false
  other_index k n c h = ap (λ b. ((k == s.file) && b) && c) (ne_eqb (suc n) s.section h) ∙ ap (λ b. b && c) (and_right (k == s.file) false refl)

  other_index_has : (k n : ℕ) → (suc n ≡ s.section → ⊥) → ((s.file == k) && (s.section == suc n)) ≡ false
  other_index_has k n h = and_right (s.file == k) (s.section == suc n) (ne_eqb s.section (suc n) (λ e. h (sym e)))

  module _ (ss : List Statement) (o : Object) (is : IsObjectOf ss o) (here : IsHere p s.file ss o is) (meant : AreMeant p os s.file ss o is) where
    abbrev own : LaidStatement → Bool
    own z = refers_by p os T s.file ss o is here meant z

    laid_same : (j : ℕ) → s.section ≡ suc j → (zs : List LaidStatement) → list_any B (map (seen s.file) zs) ≡ list_any own (laid_in j zs)
    laid_same j e [] = refl
    laid_same j e (z ∷ zs) =
        ap (λ b. (b && (suc z.located.section == s.section)) && own z || list_any B (map (seen s.file) zs)) (eq-eqb s.file s.file refl)
        ∙ ap (λ m. (suc z.located.section == m) && own z || list_any B (map (seen s.file) zs)) e
        ∙ ap (λ b. b && own z || list_any B (map (seen s.file) zs)) (eq_suc z.located.section j)
        ∙ ap (λ b. (z.located.section == j) && own z || b) (laid_same j e zs)
        ∙ go (z.located.section == j)
      where
        go : (b : Bool) → (b && own z || list_any own (laid_in j zs)) ≡ list_any own (if b then z ∷ laid_in j zs else laid_in j zs)
        go true = refl
        go false = refl

    in_file_same : (n : ℕ) (xs : List SourceSection) (ys : List Section) → AreSectionsOf (tables ss) is.laid is.number o.symbols n xs ys
        → list_any H (inputs_from is_loaded s.file o n ys) ≡ true → list_any A (inputs_from is_loaded s.file o n ys) ≡ list_any B (map (seen s.file) is.laid)
    in_file_same n [] [] h has = absurd (true≢false (sym has))
    in_file_same n [] (y ∷ ys) h has = absurd h
    in_file_same n (x ∷ xs) [] h has = absurd h
    in_file_same n (x ∷ xs) (y ∷ ys) (h, hs) has = go y.loaded refl has (in_file_same (suc n) xs ys hs)
      where
        it : InputSection
        it = record { file = s.file; object = o; index = n; section = y }

        more : List InputSection
        more = inputs_from is_loaded s.file o (suc n) ys

        here_it : y.loaded ≡ true → suc n ≡ s.section → list_any A (it ∷ more) ≡ list_any B (map (seen s.file) is.laid)
        here_it loaded e =
            ap (λ b. (b && (suc n == s.section)) && list_any (leads_to os T it) y.relocations || list_any A more) (eq-eqb s.file s.file refl)
            ∙ ap (λ b. b && list_any (leads_to os T it) y.relocations || list_any A more) (eq-eqb (suc n) s.section e)
            ∙ ap (λ b. list_any (leads_to os T it) y.relocations || b)
            (later_none A s.file n o (λ m z lt. other_index s.file m (list_any (leads_to os T (record { file = s.file; object = o; index = m; section = z })) z.relocations) (λ q. omega (arith, lt, q, e))) (suc n) ys (omega arith))
            ∙ or-false (list_any (leads_to os T it) y.relocations)
            ∙ section_leads p os T s.file ss o is here meant it refl refl n x h (sym h.loaded ∙ loaded) (ap (λ m. (s.file == T.file) && (m == T.section)) e ∙ apart)
            ∙ sym (laid_same n (sym e) is.laid)

        go : (b : Bool) → y.loaded ≡ b → list_any H (if b then it ∷ more else more) ≡ true → (list_any H more ≡ true → list_any A more ≡ list_any B (map (seen s.file) is.laid))
            → list_any A (if b then it ∷ more else more) ≡ list_any B (map (seen s.file) is.laid)
        go false e k ih = ih k
        go true e k ih = elim (cases_eq (suc n) s.section) [
          | inl same ↦ here_it e same
          | inr other ↦
              ap (λ b. b || list_any A more) (other_index s.file n (list_any (leads_to os T it) y.relocations) other)
              ∙ ih (sym (ap (λ b. b || list_any H more) (other_index_has s.file n other)) ∙ k)
        ]

    file_same : list_any H (inputs_from is_loaded s.file o 0 o.sections) ≡ true → list_any A (inputs_from is_loaded s.file o 0 o.sections) ≡ list_any B (map bare (located_from s.file 1 (at_start ss) ss))
    file_same has = in_file_same 0 (opened_of (tables ss)).sections o.sections is.sections has ∙ ap (list_any B) (sym (own_are s.file ss o is))

  pub files_same : (k : ℕ) (sources : List (List Statement)) (us : List Object) (h : AreObjectsOf sources us) → AreHere p k sources us h → AllMeant p os k sources us h
      → list_any H (inputs_of is_loaded k us) ≡ true → list_any A (inputs_of is_loaded k us) ≡ list_any B (map bare (located_of k sources))
  files_same k [] [] h a m has = absurd (true≢false (sym has))
  files_same k [] (o ∷ us) h a m has = absurd h
  files_same k (ss ∷ sources) [] h a m has = absurd h
  files_same k (ss ∷ sources) (o ∷ us) (is, h) (a, as') (m, ms) has =
      list_any-append A mine others
      ∙ elim (cases_eq k s.file) [
        | inl same ↦
            ap (λ b. list_any A mine || b) (none_later same) ∙ or-false (list_any A mine)
            ∙ equal k same a m (sym (or-false (list_any H mine)) ∙ sym (ap (λ b. list_any H mine || b) (no_has same)) ∙ has_both)
            ∙ sym (ap (λ b. list_any B own || b) (located_none (suc k) sources (omega (arith, same))) ∙ or-false (list_any B own))
        | inr other ↦
            ap (λ b. b || list_any A others) (in_none A k o (λ n x. other_file k n (list_any (leads_to os T (record { file = k; object = o; index = n; section = x })) x.relocations) other) 0 o.sections)
            ∙ files_same (suc k) sources us h as' ms (sym (ap (λ b. b || list_any H others) (in_none H k o (λ n x. other_has k n other) 0 o.sections)) ∙ has_both)
            ∙ sym (ap (λ b. b || list_any B (map bare (located_of (suc k) sources))) (from_none k 1 (at_start ss) ss other))
      ]
      ∙ sym (both_lists k ss sources)
    where
      mine : List InputSection
      mine = inputs_from is_loaded k o 0 o.sections

      others : List InputSection
      others = inputs_of is_loaded (suc k) us

      own : List MaybeMapped
      own = map bare (located_from k 1 (at_start ss) ss)

      has_both : (list_any H mine || list_any H others) ≡ true
      has_both = sym (list_any-append H mine others) ∙ has

      none_later : k ≡ s.file → list_any A others ≡ false
      none_later e = of_none A s.file (suc k) (λ i lt. other_file i.file i.index (list_any (leads_to os T i) i.section.relocations) (λ q. omega (arith, lt, q))) (omega (arith, e)) us

      no_has : k ≡ s.file → list_any H others ≡ false
      no_has e = of_none H s.file (suc k) (λ i lt. other_has i.file i.index (λ q. omega (arith, lt, q))) (omega (arith, e)) us

      equal : (k : ℕ) → k ≡ s.file → IsHere p k ss o is → AreMeant p os k ss o is → list_any H (inputs_from is_loaded k o 0 o.sections) ≡ true
          → list_any A (inputs_from is_loaded k o 0 o.sections) ≡ list_any B (map bare (located_from k 1 (at_start ss) ss))
      equal k e =
          subst
          (λ k. IsHere p k ss o is → AreMeant p os k ss o is → list_any H (inputs_from is_loaded k o 0 o.sections) ≡ true
          → list_any A (inputs_from is_loaded k o 0 o.sections) ≡ list_any B (map bare (located_from k 1 (at_start ss) ss)))
          (sym e) (λ a m. file_same ss o is a m)

has_ids : (os : List Object) (s : SectionId) → is_one_of (loaded_sections os) s ≡ true → list_any (λ i. is_same s (id_of i)) (inputs is_loaded os) ≡ true
has_ids os s has = any_id (is_same s) (inputs is_loaded os) ∙ has

pub refers_alike : (p : Program) (sources : List (List Statement)) (os : List Object) (h : AreObjectsOf sources os) (s T : SectionId) (apart : is_same s T ≡ false)
    → p.statements ≡ map bare (located_of 1 sources) → AreHere p 1 sources os h → AllMeant p os 1 sources os h
    → is_one_of (loaded_sections os) s ≡ true → objects_refer os s T ≡ sources_refer p s T
refers_alike p sources os h s T apart statements a m has =
    files_same p os s T apart 1 sources os h a m (has_ids os s has)
    ∙ ap (list_any (λ e. stands_at s e.located && statement_refers p T e.located e.located.kind)) (sym statements)
