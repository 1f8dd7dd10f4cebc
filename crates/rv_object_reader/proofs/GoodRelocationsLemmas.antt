-- The relocations of a section that has passed its tests.

use Rattle.std.proofs.Common.{◌≡◌, ℕ, zero, suc, ◌-◌, ◌==◌, nat_le, Bool, true, false, not, ◌&&◌, ◌||◌, List, [], ◌∷◌, ◌++◌, length, filter, Option, Some, None, refl, ap, sym, ◌∙◌, subst, arith, if◌then◌else◌, append_assoc}
use Rattle.std.specs.List.{list_all, list_any, cons_option}
use Rattle.std.proofs.lemmas.Bool.{and_parts, and_from, or_parts, cond-true, cond-false, eqb-true, true≢false, not-false}
use Rattle.std.proofs.lemmas.Bool.Decides.{nat_tests}
use Rattle.std.proofs.lemmas.List.{append-nil}
use Rattle.std.proofs.lemmas.List.Elements.{filter-append, filter_map-append}
use Rattle.std.proofs.lemmas.List.Concat.{flat_map-append}
use Rattle.rv_list_laws.proofs.TestsLemmas.{all_more}
use Rattle.rv_isa.specs.declared.kind.Kind.{Kind}
use Rattle.rv_elf_laws.specs.declared.section_header.SectionHeader.{SectionHeader}
use Rattle.rv_elf_laws.specs.declared.rela.Rela.{Rela}
use Rattle.rv_elf_laws.specs.FirstFault.{first_true}
use Rattle.rv_elf_laws.specs.Sections.{section_header_of, file_contents, relas_in}
use Rattle.rv_object_laws.specs.Object.{Relocation}
use Rattle.rv_object_laws.specs.Valid.{fits_inside, is_padding, are_apart, are_all_apart, is_below}
use Rattle.rv_object_file_laws.specs.Parts.{FileSection, sections, is_loaded, is_executable, is_symbol_table, is_rela, extent_of, symbol_records, relocates, relas_of, kind_numbered, symbol_index, relocation_by, relocation_in, relocations_in}
use Rattle.rv_object_file_laws.specs.FirstFault.{is_none, is_misplaced, relocation_tests, relocations_tests, records_tests, symbol_count, first_fault}
use Rattle.rv_elf_laws.specs.FirstTrue.{no_fault_parts}
use Rattle.rv_object_reader.proofs.FirstTrueLemmas.{all_false}
use Rattle.rv_object_reader.proofs.WalkLemmas.{Passed, AllPassed, fine, header_says}
use Rattle.rv_object_reader.proofs.SymbolCountLemmas.{no_symbols, symbols_counted}

-- relocations of a section with this header, in a file with so many symbols
pub record Good (h : SectionHeader) (symbols : ℕ) (rs : List Relocation) : Type 0 where
  pub inside : list_all (fits_inside (extent_of h)) rs ≡ true
  pub padded : list_all (is_padding (is_executable h) (extent_of h)) rs ≡ true
  pub apart : is_executable h ≡ true → are_all_apart rs ≡ true
  pub below : list_all (λ r. is_below (symbols - 1) r.symbol) rs ≡ true

apart_more : (rs : List Relocation) (q : Relocation) → are_all_apart rs ≡ true → list_any (λ p. not (are_apart p q)) rs ≡ false → are_all_apart (rs ++ q ∷ []) ≡ true
apart_more [] q all none = refl
apart_more (r ∷ rs) q all none =
    let both = and_parts (list_all (are_apart r) rs) (are_all_apart rs) all in
    let other = or_parts (not (are_apart r q)) (list_any (λ p. not (are_apart p q)) rs) none in
    and_from _ _ (all_more (are_apart r) rs q both.0 (not-false (are_apart r q) other.0)) (apart_more rs q both.1 other.1)

other_side : (a b : Bool) → a && b ≡ false → a ≡ true → b ≡ false
other_side true b e t = e
other_side false b e t = absurd (true≢false (sym t))

good_none : (h : SectionHeader) (symbols : ℕ) → Good h symbols []
good_none h symbols = record { inside = refl; padded = refl; apart = λ e. refl; below = refl }

pub symbol_below : (n symbols : ℕ) → (not (n == 0) && nat_le symbols n) ≡ false → is_below (symbols - 1) (symbol_index n) ≡ true
symbol_below zero symbols e = refl
symbol_below (suc n) symbols e = grind (arith, nat_tests)

with_kind : (h : SectionHeader) (symbols : ℕ) (before : List Relocation) (r : Rela) (k : Option Kind) → is_misplaced h before (relocation_by r k) ≡ false →
    (not (r.r_sym == 0) && nat_le symbols r.r_sym) ≡ false → is_none k ≡ false → Good h symbols before → Good h symbols (before ++ cons_option (relocation_by r k) [])
with_kind h symbols before r None placed index known good = absurd (true≢false known)
with_kind h symbols before r (Some kind) placed index known good =
    let q : Relocation = record { place = r.r_offset; kind = kind; symbol = symbol_index r.r_sym; addend = r.r_addend } in
    let meets = is_executable h && list_any (λ p. not (are_apart p q)) before in
    let one = or_parts (not (fits_inside (extent_of h) q) || not (is_padding (is_executable h) (extent_of h) q)) meets placed in
    let two = or_parts (not (fits_inside (extent_of h) q)) (not (is_padding (is_executable h) (extent_of h) q)) one.0 in
    record {
      inside = all_more (fits_inside (extent_of h)) before q good.inside (not-false _ two.0);
      padded = all_more (is_padding (is_executable h) (extent_of h)) before q good.padded (not-false _ two.1);
      apart = λ e. apart_more before q (good.apart e) (other_side (is_executable h) (list_any (λ p. not (are_apart p q)) before) one.1 e);
      below = all_more (λ r. is_below (symbols - 1) r.symbol) before q good.below (symbol_below r.r_sym symbols index);
    }

one_more : (h : SectionHeader) (symbols : ℕ) (before : List Relocation) (r : Rela) → first_true (relocation_tests h symbols before r) ≡ None → Good h symbols before →
    Good h symbols (before ++ relocations_in (r ∷ []))
unfolding relocation_tests
one_more h symbols before r none good =
    let a = all_false (relocation_tests h symbols before r) none in
    with_kind h symbols before r (kind_numbered r.r_type) a.0 a.1.0 a.1.1.0 good

relocations_good : (h : SectionHeader) (symbols : ℕ) (before : List Relocation) (rs : List Rela) → first_true (relocations_tests h symbols before rs) ≡ None → Good h symbols before →
    Good h symbols (before ++ relocations_in rs)
relocations_good h symbols before [] none good = subst (Good h symbols) (sym (append-nil before)) good
relocations_good h symbols before (r ∷ rs) none good =
    let here = relocations_in (r ∷ []) in
    let both = no_fault_parts (relocation_tests h symbols before r) (relocations_tests h symbols (before ++ here) rs) none in
    let rest = relocations_good h symbols (before ++ here) rs both.1 (one_more h symbols before r both.0 good) in
    subst (Good h symbols) (append_assoc before here (relocations_in rs) ∙ ap (λ qs. before ++ qs) (sym (filter_map-append relocation_in (r ∷ []) rs))) rest

-- the relocations of the section of an index, in these sections
abbrev pub collected : List ℕ → ℕ → List FileSection → List Relocation
collected file i ss = relocations_in (relas_of file (filter (relocates i) ss))

pub collected_append : (file : List ℕ) (i : ℕ) (xs ys : List FileSection) → collected file i (xs ++ ys) ≡ collected file i xs ++ collected file i ys
collected_append file i xs ys =
    ap (λ ss. relocations_in (relas_of file ss)) (filter-append (relocates i) xs ys)
    ∙ ap relocations_in (flat_map-append (λ s. relas_in (file_contents file s.header)) (filter (relocates i) xs) (filter (relocates i) ys))
    ∙ filter_map-append relocation_in (relas_of file (filter (relocates i) xs)) (relas_of file (filter (relocates i) ys))

-- one section adds its own, if it names the section
pub collected_here : (file : List ℕ) (i : ℕ) (s : FileSection) → relocates i s ≡ true → collected file i (s ∷ []) ≡ relocations_in (relas_in (file_contents file s.header))
collected_here file i s e =
    ap (λ ss. relocations_in (relas_of file ss)) (cond-true (relocates i s) (s ∷ []) [] e)
    ∙ ap relocations_in (append-nil (relas_in (file_contents file s.header)))

pub collected_other : (file : List ℕ) (i : ℕ) (s : FileSection) → relocates i s ≡ false → collected file i (s ∷ []) ≡ []
collected_other file i s e = ap (λ ss. relocations_in (relas_of file ss)) (cond-false (relocates i s) (s ∷ []) [] e)

-- the tests of the relocations of a loaded section
tests_are : (file : List ℕ) (before : List FileSection) (h : SectionHeader) (i : ℕ) → is_rela h ≡ true → h.sh_info ≡ i → is_loaded (section_header_of file i) ≡ true →
    symbol_count file h ≡ length (symbol_records file) →
    records_tests file before h ≡ relocations_tests (section_header_of file i) (length (symbol_records file)) (collected file i before) (relas_in (file_contents file h))
tests_are file before h i rela info loaded count =
    cond-false (is_symbol_table h) _ _ (no_symbols h.sh_type rela)
    ∙ cond-true (is_rela h) _ _ rela
    ∙ ap (λ j. if is_loaded (section_header_of file j)
    then relocations_tests (section_header_of file j) (symbol_count file h) (collected file j before) (relas_in (file_contents file h)) else []) info
    ∙ cond-true (is_loaded (section_header_of file i)) _ [] loaded
    ∙ ap (λ n. relocations_tests (section_header_of file i) n (collected file i before) (relas_in (file_contents file h))) count

section_more : (file : List ℕ) → first_fault file ≡ None → (i : ℕ) (before : List FileSection) (s : FileSection) → is_loaded (section_header_of file i) ≡ true → Passed file before s →
    Good (section_header_of file i) (length (symbol_records file)) (collected file i before) →
    Good (section_header_of file i) (length (symbol_records file)) (collected file i (before ++ s ∷ []))
section_more file none i before s loaded passes good = go (relocates i s) refl
  where
    go : (b : Bool) → relocates i s ≡ b → Good (section_header_of file i) (length (symbol_records file)) (collected file i (before ++ s ∷ []))
    go false e =
        subst (Good (section_header_of file i) (length (symbol_records file)))
        (sym (collected_append file i before (s ∷ []) ∙ ap (λ qs. collected file i before ++ qs) (collected_other file i s e) ∙ append-nil (collected file i before))) good
    go true e =
        let both = and_parts (is_rela s.header) (s.header.sh_info == i) e in
        let info = eqb-true s.header.sh_info i both.1 in
        let count = symbols_counted file none s.header (header_says file before s.header passes.heading).links both.0 (ap (λ j. is_loaded (section_header_of file j)) info ∙ loaded) in
        let tests = tests_are file before s.header i both.0 info loaded count in
        subst (Good (section_header_of file i) (length (symbol_records file)))
        (sym (collected_append file i before (s ∷ []) ∙ ap (λ qs. collected file i before ++ qs) (collected_here file i s e)))
        (relocations_good (section_header_of file i) (length (symbol_records file)) (collected file i before) (relas_in (file_contents file s.header)) (ap first_true (sym tests) ∙ passes.inner) good)

target_good : (file : List ℕ) → first_fault file ≡ None → (i : ℕ) (before ss : List FileSection) → is_loaded (section_header_of file i) ≡ true → AllPassed file before ss →
    Good (section_header_of file i) (length (symbol_records file)) (collected file i before) →
    Good (section_header_of file i) (length (symbol_records file)) (collected file i (before ++ ss))
target_good file none i before [] loaded all good =
    subst (λ ss. Good (section_header_of file i) (length (symbol_records file)) (collected file i ss)) (sym (append-nil before)) good
target_good file none i before (s ∷ ss) loaded all good =
    subst (λ xs. Good (section_header_of file i) (length (symbol_records file)) (collected file i xs)) (append_assoc before (s ∷ []) ss)
    (target_good file none i (before ++ s ∷ []) ss loaded all.1 (section_more file none i before s loaded all.0 good))

-- all relocations of a loaded section are good
pub all_good : (file : List ℕ) (i : ℕ) → first_fault file ≡ None → is_loaded (section_header_of file i) ≡ true →
    Good (section_header_of file i) (length (symbol_records file)) (collected file i (sections file))
all_good file i none loaded =
    target_good file none i [] (sections file) loaded (fine file none).walk (good_none (section_header_of file i) (length (symbol_records file)))
