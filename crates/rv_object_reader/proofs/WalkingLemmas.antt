-- Over the sections of a file, one after the other.

use Rattle.std.proofs.Common.{◌≡◌, ◌⊎◌, inl, inr, ℕ, zero, suc, ◌+◌, ◌-◌, ◌<◌, Bool, true, false, List, [], ◌∷◌, ◌++◌, length, get_or, set, filter, Some, None, refl, ap, sym, subst, ◌∙◌, arith, append_assoc, take, drop, drop_of_length-le, take_all}
use Rattle.rv_object_reader.specs.SectionsFrom.{from_cut, from_more}
use Rattle.std.specs.Prelude.{Result, MatchResult, IfSome, ◌==◌, ◌||◌, ◌&&◌}
use Rattle.std.specs.List.{list_any, slice_get}
use Rattle.std.specs.declared.result.Result.TheVariants.{Ok, Err}
use Rattle.std.proofs.lemmas.Bool.{cond-true, cond-false, eqb-true, eq-eqb}
use Rattle.std.proofs.lemmas.Bool.Decides.{nat_tests}
use Rattle.std.proofs.lemmas.List.Elements.{filter-append, filter_map-append}
use Rattle.std.proofs.lemmas.List.Folds.{list_any-append}
use Rattle.std.proofs.lemmas.Option.{slice_get_read}
use Rattle.rv_list_laws.proofs.TruthLemmas.{or_false}
use Rattle.std.proofs.lemmas.List.{append-nil, length-set}
use Rattle.rv_list_laws.proofs.ElementsLemmas.{get_set, get_set_other}
use Rattle.rv_list_laws.proofs.OptionsLemmas.{if_some, of_if_some}
use Rattle.rv_fault.specs.declared.file_fault.FileFault.{FileFault}
use Rattle.rv_fault.specs.declared.file_fault.FileFault.TheVariants.{OutOfMemory}
use Rattle.rv_elf_laws.specs.declared.section_header.SectionHeader.{SectionHeader}
use Rattle.rv_elf_laws.specs.FirstFault.{first_true}
use Rattle.rv_elf_laws.specs.Sections.{section_count, section_header_of, file_contents, relas_in}
use Rattle.rv_object_laws.specs.Object.{Relocation}
use Rattle.rv_object_file_laws.specs.FirstFault.{section_tests, records_tests, rela_tests, relocations_tests, sections_tests, symbol_count}
use Rattle.rv_object_file_laws.specs.Parts.{FileSection, is_symbol_table, is_rela, is_rows, is_loaded, relocates, relas_of, relocation_in, relocations_in}
use Rattle.rv_object_reader.specs.declared.places.Places.{Places}
use Rattle.rv_object_reader.specs.Found.{section_at, sections_from}
use Rattle.rv_object_reader.specs.Held.{fields_of}
use Rattle.rv_object_reader.specs.Stretches.{HoldsCode, AreHeld}
use Rattle.rv_object_reader.specs.Tests.{tests_behind, size_tests, link_tests}
use Rattle.rv_object_reader.specs.Walk.{relocations_before, HoldsOf, HoldBefore, AreEmpty}
use Rattle.rv_elf_laws.specs.FirstTrue.{first_true_none, first_true_some}

-- ---- one section further

pub section_tests_are : (file : List ℕ) (before : List FileSection) (h : SectionHeader) →
    section_tests file before h ≡ tests_behind file (list_any (λ s. is_symbol_table s.header) before) (list_any (λ s. is_rows file s.header) before) h
unfolding section_tests size_tests link_tests
section_tests_are file before h = refl

module _ (file : List ℕ) (n i : ℕ) (below : i < n) where
  rest : List FileSection
  rest = sections_from file (n - (i + 1)) (i + 1 + 1)

  cut : first_true (sections_tests file (sections_from file i 1) (sections_from file (n - i) (i + 1)))
      ≡ first_true (section_tests file (sections_from file i 1) (section_header_of file (i + 1))
      ++ (records_tests file (sections_from file i 1) (section_header_of file (i + 1))
      ++ sections_tests file (sections_from file i 1 ++ section_at file (i + 1) ∷ []) (sections_from file (n - (i + 1)) (i + 1 + 1))))
  cut = ap (λ ss. first_true (sections_tests file (sections_from file i 1) ss)) (from_cut file n i below)

  walk_step : first_true (section_tests file (sections_from file i 1) (section_header_of file (i + 1))) ≡ None →
      first_true (records_tests file (sections_from file i 1) (section_header_of file (i + 1))) ≡ None →
      first_true (sections_tests file (sections_from file i 1) (sections_from file (n - i) (i + 1)))
      ≡ first_true (sections_tests file (sections_from file (i + 1) 1) (sections_from file (n - (i + 1)) (i + 1 + 1)))
  walk_step header records =
      cut ∙ first_true_none (section_tests file (sections_from file i 1) (section_header_of file (i + 1))) _ header
      ∙ first_true_none (records_tests file (sections_from file i 1) (section_header_of file (i + 1))) _ records
      ∙ ap (λ before. first_true (sections_tests file before (sections_from file (n - (i + 1)) (i + 1 + 1)))) (sym (from_more file i))

  walk_stop : (fault : FileFault) → first_true (section_tests file (sections_from file i 1) (section_header_of file (i + 1))) ≡ Some fault →
      first_true (sections_tests file (sections_from file i 1) (sections_from file (n - i) (i + 1))) ≡ Some fault
  walk_stop fault header = cut ∙ first_true_some (section_tests file (sections_from file i 1) (section_header_of file (i + 1))) _ fault header

  walk_stop_within : (fault : FileFault) → first_true (section_tests file (sections_from file i 1) (section_header_of file (i + 1))) ≡ None →
      first_true (records_tests file (sections_from file i 1) (section_header_of file (i + 1))) ≡ Some fault →
      first_true (sections_tests file (sections_from file i 1) (sections_from file (n - i) (i + 1))) ≡ Some fault
  walk_stop_within fault header records =
      cut ∙ first_true_none (section_tests file (sections_from file i 1) (section_header_of file (i + 1))) _ header
      ∙ first_true_some (records_tests file (sections_from file i 1) (section_header_of file (i + 1))) _ fault records

  -- the same, by what the code has of the sections before and of the header
  module _ (symbols rows : Bool) (h : SectionHeader) (with_symbols : symbols ≡ list_any (λ s. is_symbol_table s.header) (sections_from file i 1))
      (with_rows : rows ≡ list_any (λ s. is_rows file s.header) (sections_from file i 1)) (at : h ≡ section_header_of file (i + 1)) where
    tests_at : first_true (section_tests file (sections_from file i 1) (section_header_of file (i + 1))) ≡ first_true (tests_behind file symbols rows h)
    tests_at = ap (λ g. first_true (section_tests file (sections_from file i 1) g)) (sym at) ∙ ap first_true (section_tests_are file (sections_from file i 1) h)
        ∙ ap (λ b. first_true (tests_behind file b (list_any (λ s. is_rows file s.header) (sections_from file i 1)) h)) (sym with_symbols)
        ∙ ap (λ b. first_true (tests_behind file symbols b h)) (sym with_rows)

    records_at : first_true (records_tests file (sections_from file i 1) (section_header_of file (i + 1))) ≡ first_true (records_tests file (sections_from file i 1) h)
    records_at = ap (λ g. first_true (records_tests file (sections_from file i 1) g)) (sym at)

    pub walk_on : first_true (tests_behind file symbols rows h) ≡ None → first_true (records_tests file (sections_from file i 1) h) ≡ None →
        first_true (sections_tests file (sections_from file i 1) (sections_from file (n - i) (i + 1)))
        ≡ first_true (sections_tests file (sections_from file (i + 1) 1) (sections_from file (n - (i + 1)) (i + 1 + 1)))
    walk_on header records = walk_step (tests_at ∙ header) (records_at ∙ records)

    pub walk_ends : (fault : FileFault) → first_true (tests_behind file symbols rows h) ≡ Some fault →
        first_true (sections_tests file (sections_from file i 1) (sections_from file (n - i) (i + 1))) ≡ Some fault
    walk_ends fault header = walk_stop fault (tests_at ∙ header)

    pub walk_ends_within : (fault : FileFault) → first_true (tests_behind file symbols rows h) ≡ None → first_true (records_tests file (sections_from file i 1) h) ≡ Some fault →
        first_true (sections_tests file (sections_from file i 1) (sections_from file (n - i) (i + 1))) ≡ Some fault
    walk_ends_within fault header records = walk_stop_within fault (tests_at ∙ header) (records_at ∙ records)

-- whether one of the sections passes a test, one section further
pub any_more : (P : FileSection → Bool) (file : List ℕ) (i : ℕ) (old new here : Bool) → old ≡ list_any P (sections_from file i 1) →
    here ≡ P (section_at file (i + 1)) → new ≡ (old || here) → new ≡ list_any P (sections_from file (i + 1) 1)
any_more P file i old new here was is follows =
    follows ∙ ap (λ b. b || here) was ∙ ap (λ b. list_any P (sections_from file i 1) || b) (is ∙ sym (or_false _))
    ∙ sym (list_any-append P (sections_from file i 1) (section_at file (i + 1) ∷ []))
    ∙ ap (list_any P) (sym (from_more file i))

-- ---- what relocations hold

relas_more : (file : List ℕ) (ss us : List FileSection) → relas_of file (ss ++ us) ≡ relas_of file ss ++ relas_of file us
relas_more file [] us = refl
relas_more file (s ∷ ss) us = ap (λ rs. relas_in (file_contents file s.header) ++ rs) (relas_more file ss us)
    ∙ sym (append_assoc (relas_in (file_contents file s.header)) (relas_of file ss) (relas_of file us))

module _ (file : List ℕ) (before : List FileSection) (s : FileSection) (t : ℕ) where
  pub before_more : relocates t s ≡ true → relocations_before file (before ++ s ∷ []) t ≡ relocations_before file before t ++ relocations_in (relas_in (file_contents file s.header))
  before_more here =
      let mine = filter (relocates t) before in
      ap (λ ss. relocations_in (relas_of file ss)) (filter-append (relocates t) before (s ∷ []) ∙ ap (λ us. mine ++ us) (cond-true _ (s ∷ []) [] here))
      ∙ ap relocations_in (relas_more file mine (s ∷ []) ∙ ap (λ rs. relas_of file mine ++ rs) (append-nil (relas_in (file_contents file s.header))))
      ∙ filter_map-append relocation_in (relas_of file mine) (relas_in (file_contents file s.header))

  pub before_same : relocates t s ≡ false → relocations_before file (before ++ s ∷ []) t ≡ relocations_before file before t
  before_same other =
      ap (λ ss. relocations_in (relas_of file ss)) (filter-append (relocates t) before (s ∷ []) ∙ ap (λ us. filter (relocates t) before ++ us) (cond-false _ (s ∷ []) [] other)
      ∙ append-nil (filter (relocates t) before))

module _ (file : List ℕ) (before : List FileSection) (s : FileSection) (all : List Places) where
  -- a section that relocates this one
  pub hold_more : (target : ℕ) (new : Places) → target < section_count file → is_rela s.header ≡ true → s.header.sh_info ≡ target →
      HoldsOf file target (relocations_before file before target ++ relocations_in (relas_in (file_contents file s.header))) new →
      HoldBefore file before all → HoldBefore file (before ++ s ∷ []) (set all target new)
  hold_more target new inside rela info holds was = record {
    long = length-set all target new ∙ was.long;
    held = λ t below loaded. go t below loaded (t == target) refl;
  }
    where
      go : (t : ℕ) → t < section_count file → is_loaded (section_header_of file t) ≡ true → (b : Bool) → (t == target) ≡ b →
          IfSome (slice_get (set all target new) t) (HoldsOf file t (relocations_before file (before ++ s ∷ []) t))
      go t below loaded true e =
          let same = eqb-true t target e in
          let here : relocates target s ≡ true = ap (λ b. b && (s.header.sh_info == target)) rela ∙ eq-eqb s.header.sh_info target info in
          subst (λ u. IfSome (slice_get (set all target new) u) (HoldsOf file u (relocations_before file (before ++ s ∷ []) u))) (sym same)
          (if_some (HoldsOf file target (relocations_before file (before ++ s ∷ []) target)) _ new (get_set all target new (omega (arith, was.long)))
          (subst (λ rs. HoldsOf file target rs new) (sym (before_more file before s target here)) holds))
      go t below loaded false e =
          let other : relocates t s ≡ false = ap (λ b. b && (s.header.sh_info == t)) rela ∙ not_here t target s.header.sh_info info e in
          subst (λ o. IfSome o (HoldsOf file t (relocations_before file (before ++ s ∷ []) t))) (sym (get_set_other all target t new (λ h. differ t target h e)))
          (subst (λ rs. IfSome (slice_get all t) (HoldsOf file t rs)) (sym (before_same file before s t other)) (was.held t below loaded))
        where
          not_here : (t target info : ℕ) → info ≡ target → (t == target) ≡ false → (info == t) ≡ false
          not_here t target info is e = grind (arith, nat_tests)

          differ : (t target : ℕ) → t ≡ target → (t == target) ≡ false → ⊥
          differ t target h e = grind (arith, nat_tests)

-- a check of relocations, and what it answers of those before them
abbrev Answers : {X : Type 0} → SectionHeader → ℕ → List ℕ → Places → Places → Result X FileFault → Type 0
Answers target symbols bytes old new result =
    (rs : List Relocation) → HoldsCode target old.paddings.by_end.entries (fields_of old) rs → MatchResult result
    (λ _. (first_true (relocations_tests target symbols rs (relas_in bytes)) ≡ None)
    × HoldsCode target new.paddings.by_end.entries (fields_of new) (rs ++ relocations_in (relas_in bytes)))
    (λ fault. (fault ≡ OutOfMemory) ⊎ (first_true (relocations_tests target symbols rs (relas_in bytes)) ≡ Some fault))

-- what a check of relocations answers is what one of their section does
pub target_done : {X : Type 0} (file : List ℕ) (before : List FileSection) (i : ℕ) (h target : SectionHeader) (symbols : ℕ) (bytes : List ℕ) (all : List Places) (old new : Places) (result : Result X FileFault) →
    is_rela h ≡ true → h.sh_info < section_count file → target ≡ section_header_of file h.sh_info → is_loaded target ≡ true →
    symbols ≡ symbol_count file h → bytes ≡ file_contents file h → old ≡ get_or all h.sh_info old →
    Answers target symbols bytes old new result →
    HoldBefore file before all → MatchResult result
    (λ _. (first_true (rela_tests file before h) ≡ None) × HoldBefore file (before ++ record { index = i; header = h } ∷ []) (set all h.sh_info new))
    (λ fault. (fault ≡ OutOfMemory) ⊎ (first_true (rela_tests file before h) ≡ Some fault))
target_done {X = X} file before i h target symbols bytes all old new result rela inside is there counted are read checked was =
    go result (subst (λ g. Answers g symbols bytes old new result) is checked (relocations_before file before h.sh_info)
    (of_if_some (HoldsOf file h.sh_info (relocations_before file before h.sh_info)) (slice_get all h.sh_info) old
    (slice_get_read all (length all) h.sh_info old refl (omega (arith, was.long)) read) (was.held h.sh_info inside loaded)))
  where
    loaded : is_loaded (section_header_of file h.sh_info) ≡ true
    loaded = ap is_loaded (sym is) ∙ there

    these : first_true (rela_tests file before h) ≡ first_true (relocations_tests (section_header_of file h.sh_info) symbols (relocations_before file before h.sh_info) (relas_in bytes))
    these = ap first_true (cond-true _ _ _ loaded)
        ∙ ap (λ n. first_true (relocations_tests (section_header_of file h.sh_info) n (relocations_before file before h.sh_info) (relas_in (file_contents file h)))) (sym counted)
        ∙ ap (λ bs. first_true (relocations_tests (section_header_of file h.sh_info) symbols (relocations_before file before h.sh_info) (relas_in bs))) (sym are)

    go : (r : Result X FileFault) → MatchResult r
        (λ _. (first_true (relocations_tests (section_header_of file h.sh_info) symbols (relocations_before file before h.sh_info) (relas_in bytes)) ≡ None) × HoldsOf file h.sh_info (relocations_before file before h.sh_info ++ relocations_in (relas_in bytes)) new)
        (λ fault. (fault ≡ OutOfMemory) ⊎ (first_true (relocations_tests (section_header_of file h.sh_info) symbols (relocations_before file before h.sh_info) (relas_in bytes)) ≡ Some fault)) →
        MatchResult r
        (λ _. (first_true (rela_tests file before h) ≡ None) × HoldBefore file (before ++ record { index = i; header = h } ∷ []) (set all h.sh_info new))
        (λ fault. (fault ≡ OutOfMemory) ⊎ (first_true (rela_tests file before h) ≡ Some fault))
    go (Ok x) done = (
      these ∙ done.0,
      hold_more file before (record { index = i; header = h }) all h.sh_info new inside rela refl
          (subst (λ bs. HoldsOf file h.sh_info (relocations_before file before h.sh_info ++ relocations_in (relas_in bs)) new) are done.1) was,
    )
    go (Err fault) (inl memory) = inl memory
    go (Err fault) (inr found) = inr (these ∙ found)

-- records of relocations are all records of their section
pub relas_done : {X : Type 0} (Held : Type 0) (file : List ℕ) (before : List FileSection) (h : SectionHeader) (result : Result X FileFault) →
    is_symbol_table h ≡ false → is_rela h ≡ true →
    MatchResult result (λ _. (first_true (rela_tests file before h) ≡ None) × Held)
    (λ fault. (fault ≡ OutOfMemory) ⊎ (first_true (rela_tests file before h) ≡ Some fault)) →
    MatchResult result (λ _. (first_true (records_tests file before h) ≡ None) × Held)
    (λ fault. (fault ≡ OutOfMemory) ⊎ (first_true (records_tests file before h) ≡ Some fault))
relas_done {X = X} Held file before h result other rela done =
    let are : rela_tests file before h ≡ records_tests file before h = sym (cond-false _ _ _ other ∙ cond-true _ _ _ rela) in
    subst (λ ts. MatchResult result (λ _. (first_true ts ≡ None) × Held) (λ fault. (fault ≡ OutOfMemory) ⊎ (first_true ts ≡ Some fault))) are done

-- what is lent of a vector is written back
written_back : {X : Type 0} (all new : List X) (n : ℕ) → n ≡ length all → length new ≡ length all → take n (new ++ drop (length new) all) ≡ new
written_back all new n count long =
    ap (λ rest. take n (new ++ rest)) (drop_of_length-le all (omega (arith, long))) ∙ ap (take n) (append-nil new) ∙ take_all n new (omega (arith, count, long))

pub hold_on : (file : List ℕ) (i : ℕ) (h : SectionHeader) (all new : List Places) (n : ℕ) → h ≡ section_header_of file (i + 1) → n ≡ length all → length all ≡ section_count file →
    HoldBefore file (sections_from file i 1 ++ record { index = i + 1; header = h } ∷ []) new →
    HoldBefore file (sections_from file (i + 1) 1) (take n (new ++ drop (length new) all))
hold_on file i h all new n at count long done =
    subst (HoldBefore file (sections_from file (i + 1) 1)) (sym (written_back all new n count (done.long ∙ sym long)))
    (subst (λ ss. HoldBefore file ss new) (ap (λ g. sections_from file i 1 ++ record { index = i + 1; header = g } ∷ []) at ∙ sym (from_more file i)) done)

-- ---- nothing is held before the first section

pub empty_more : (ps : List Places) (p : Places) → AreEmpty ps → AreHeld p.paddings.by_end.entries (fields_of p) [] → AreEmpty (ps ++ p ∷ [])
empty_more [] p all one = (one, tt)
empty_more (q ∷ ps) p all one = (all.0, empty_more ps p all.1 one)

empty_at : (file : List ℕ) (ps : List Places) (t u : ℕ) → u < length ps → AreEmpty ps → IfSome (slice_get ps u) (HoldsOf file t [])
empty_at file [] t u low all = absurd (omega arith)
empty_at file (p ∷ ps) t zero low all = λ code. all.0
empty_at file (p ∷ ps) t (suc u) low all = empty_at file ps t u (omega arith) all.1

pub hold_first : (file : List ℕ) (ps : List Places) → length ps ≡ section_count file → AreEmpty ps → HoldBefore file [] ps
hold_first file ps long all = record { long = long; held = λ t below loaded. empty_at file ps t t (omega (arith, long)) all }
