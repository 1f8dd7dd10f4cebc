-- Symbols and rows of a file without a fault are those of an object.

use Rattle.std.proofs.Common.{◌≡◌, ℕ, ◌+◌, ◌-◌, ◌/◌, ◌==◌, nat_le, Bool, true, false, not, ◌&&◌, ◌||◌, List, [], length, map, drop, Option, Some, None, refl, ap, sym, ◌∙◌, arith, if◌then◌else◌, unwrap_or}
use Rattle.std.specs.List.{list_all, find, slice_get, AllByRecursion}
use Rattle.std.proofs.lemmas.Bool.{and_parts, cond-true, cond-false, eqb-true, true≢false, lt-ltb, not-false}
use Rattle.std.proofs.lemmas.Bool.Decides.{nat_tests}
use Rattle.std.proofs.lemmas.List.{length-drop, length-map}
use Rattle.std.proofs.lemmas.List.Folds.{list_all-map}
use Rattle.rv_list_laws.proofs.FindLemmas.{find_test, find_filter}
use Rattle.rv_list_laws.proofs.MapLemmas.{get_map}
use Rattle.std.proofs.lemmas.Option.{slice_get_within}
use Rattle.rv_list_laws.proofs.TestsLemmas.{all_by}
use Rattle.rv_list_laws.proofs.EachLemmas.{all_from_each}
use Rattle.rv_map_laws.specs.Name.{is_name}
use Rattle.rv_elf_laws.specs.declared.symbol.Symbol.{Symbol as SymbolRecord}
use Rattle.rv_elf_laws.specs.FirstFault.{first_true}
use Rattle.rv_elf_laws.specs.Sections.{indexed_contents, file_contents, symbols_in}
use Rattle.rv_object_laws.specs.declared.symbol.Binding.TheVariants.{Local, Global, Weak}
use Rattle.rv_object_laws.specs.declared.symbol.Definition.TheVariants.{Undefined, Absolute}
use Rattle.rv_object_laws.specs.Object.{Section, Symbol}
use Rattle.rv_object_laws.specs.Valid.{is_string, is_shown, is_defined_in, is_row_in, are_indexed, are_defined, are_rows}
use Rattle.rv_object_file_laws.specs.Parts.{FileSection, sections, kept, is_kept, is_index, is_loaded, is_symbol_table, is_rela, is_rows, kept_at, kept_before, name_at, symbol_table, symbols_of, symbol_records, row_records_of, row_records}
use Rattle.rv_object_file_laws.specs.Rows.{RowRecord, rows_in}
use Rattle.rv_object_file_laws.specs.FirstFault.{is_shared_record, is_bad_name, has_binding, has_home, symbol_tests, is_row_of, row_tests, first_fault}
use Rattle.rv_object_file_laws.specs.ObjectOf.{section_in, names_of, definition_by, symbol_in, row_in}
use Rattle.rv_object_reader.proofs.FirstTrueLemmas.{all_false, flat_map_parts}
use Rattle.rv_object_reader.proofs.WalkLemmas.{fine, passed_find, header_says}
use Rattle.rv_object_reader.proofs.KeptLemmas.{kept_place}
use Rattle.rv_object_reader.proofs.ContentsLemmas.{name_string, size_says}
use Rattle.rv_object_reader.proofs.ValidSectionsLemmas.{below_symbols, indexed}

-- ---- symbols

-- the tests of a symbol of the file find nothing
abbrev pub IsGoodSymbol : List ℕ → SymbolRecord → Type 0
IsGoodSymbol file s = first_true (symbol_tests file (names_of file (symbol_table file)) s) ≡ None

pub good_symbols : (file : List ℕ) → first_fault file ≡ None → AllByRecursion (IsGoodSymbol file) (drop 1 (symbol_records file))
good_symbols file none = go (symbol_table file) refl
  where
    go : (o : Option FileSection) → symbol_table file ≡ o →
        AllByRecursion (λ s. first_true (symbol_tests file (names_of file o) s) ≡ None) (drop 1 (symbols_of file o))
    go None e = tt
    go (Some t) e =
        let found = passed_find file (λ s. is_symbol_table s.header) t [] (sections file) (fine file none).walk e in
        flat_map_parts (symbol_tests file (indexed_contents file t.header.sh_link)) (drop 1 (symbols_in (file_contents file t.header)))
        (ap first_true (sym (cond-true (is_symbol_table t.header) _ _ found.test)) ∙ found.passes.inner)

shown_name : (o : Option (List ℕ)) (s : SymbolRecord) → is_bad_name s o ≡ false → is_shared_record s ≡ true → is_name (unwrap_or o []) ≡ true
shown_name None s h e = absurd (true≢false h)
shown_name (Some name) s h e = not-false (is_name name) (sym (ap (λ b. b && not (is_name name)) e) ∙ h)

other_true : (a b : Bool) → (a || b) ≡ true → a ≡ false → b ≡ true
other_true true b h e = absurd (true≢false e)
other_true false b h e = h

shown_by : (b weak : Bool) (name : List ℕ) → is_string name ≡ true → (b ≡ false → is_name name ≡ true) → is_shown (if b then Local else if weak then Weak else Global) name ≡ true
shown_by true weak name string shown = string
shown_by false true name string shown = shown refl
shown_by false false name string shown = shown refl

pub symbol_shown : (file : List ℕ) (s : SymbolRecord) → IsGoodSymbol file s → is_shown (symbol_in file s).binding (symbol_in file s).name ≡ true
unfolding symbol_tests
symbol_shown file s good =
    let names = names_of file (symbol_table file) in
    let a = all_false (symbol_tests file names s) good in
    let both = and_parts (has_binding s) (has_home file s) (not-false (has_binding s && has_home file s) a.1.0) in
    shown_by (s.st_info / 16 == 0) (s.st_info / 16 == 2) (unwrap_or (name_at names s.st_name) []) (name_string names s.st_name)
    (λ e. shown_name (name_at names s.st_name) s a.0 (other_true (s.st_info / 16 == 0) (is_shared_record s) both.0 e))

-- ---- definitions

defined_by : (file : List ℕ) (s : SymbolRecord) (j : ℕ) (o : Option FileSection) → kept_at file j ≡ o → is_defined_in (length (map (section_in file) (kept file))) (definition_by file s o) ≡ true
defined_by file s j None e = refl
defined_by file s j (Some t) e =
    let same = eqb-true t.index j (find_test (is_index j) (kept file) t e) in
    let below = slice_get_within (kept file) (kept_before file j) t (kept_place file j t e) in
    lt-ltb (kept_before file t.index) (length (map (section_in file) (kept file))) (omega (arith, length-map (kept file) (section_in file), ap (kept_before file) same, below))

pub symbol_defined : (file : List ℕ) (s : SymbolRecord) → is_defined_in (length (map (section_in file) (kept file))) (symbol_in file s).definition ≡ true
symbol_defined file s = go (s.st_shndx == 0) (s.st_shndx == 0xFFF1)
  where
    go : (a b : Bool) → is_defined_in (length (map (section_in file) (kept file)))
        (if a then Undefined else if b then Absolute s.st_value else definition_by file s (kept_at file s.st_shndx)) ≡ true
    go true b = refl
    go false true = refl
    go false false = defined_by file s s.st_shndx (kept_at file s.st_shndx) refl

-- ---- rows

abbrev pub IsGoodRow : List ℕ → RowRecord → Type 0
IsGoodRow file r = first_true (row_tests file r) ≡ None

no_symbols : (type : ℕ) → (type == 1) ≡ true → (type == 2) ≡ false
no_symbols type e = grind (arith, nat_tests)

no_relas : (type : ℕ) → (type == 1) ≡ true → (type == 4) ≡ false
no_relas type e = grind (arith, nat_tests)

pub good_rows : (file : List ℕ) → first_fault file ≡ None → AllByRecursion (IsGoodRow file) (row_records file)
good_rows file none = go (find (λ s. is_rows file s.header) (sections file)) refl
  where
    go : (o : Option FileSection) → find (λ s. is_rows file s.header) (sections file) ≡ o → AllByRecursion (IsGoodRow file) (row_records_of file o)
    go None e = tt
    go (Some t) e =
        let found = passed_find file (λ s. is_rows file s.header) t [] (sections file) (fine file none).walk e in
        let bytes = and_parts (t.header.sh_type == 1) _ found.test in
        flat_map_parts (row_tests file) (rows_in (file_contents file t.header))
        (ap first_true (sym (cond-false (is_symbol_table t.header) _ _ (no_symbols t.header.sh_type bytes.0)
        ∙ cond-false (is_rela t.header) _ _ (no_relas t.header.sh_type bytes.0)
        ∙ cond-true (is_rows file t.header) _ _ found.test)) ∙ found.passes.inner)

row_by : (file : List ℕ) → first_fault file ≡ None → (r : RowRecord) (o : Option FileSection) → kept_at file r.r_section ≡ o → is_row_of r o ≡ true →
    is_row_in (row_in file r) (slice_get (map (section_in file) (kept file)) (kept_before file r.r_section)) ≡ true
row_by file none r None e h = absurd (true≢false (sym h))
row_by file none r (Some t) e h =
    let place = get_map (section_in file) (kept file) (kept_before file r.r_section) t (kept_place file r.r_section t e) in
    let found = passed_find file (λ s. is_kept file s && is_index r.r_section s) t [] (sections file) (fine file none).walk
    (sym (find_filter (is_index r.r_section) (is_kept file) (sections file)) ∙ e) in
    let size = size_says file t.header (header_says file found.earlier t.header found.passes.heading) in
    ap (is_row_in (row_in file r)) place ∙ ap (λ n. is_loaded t.header && nat_le (r.r_offset + r.r_bytes) n) size ∙ h

pub row_lies : (file : List ℕ) → first_fault file ≡ None → (r : RowRecord) → IsGoodRow file r →
    is_row_in (row_in file r) (slice_get (map (section_in file) (kept file)) (kept_before file r.r_section)) ≡ true
unfolding row_tests
row_lies file none r good =
    let a = all_false (row_tests file r) good in
    let both = and_parts (is_row_of r (kept_at file r.r_section)) (r.r_reserved == 0) (not-false (is_row_of r (kept_at file r.r_section) && (r.r_reserved == 0)) a.0) in
    row_by file none r (kept_at file r.r_section) refl both.0

-- ---- the whole

abbrev pub sections_in : List ℕ → List Section
sections_in file = map (section_in file) (kept file)

abbrev pub symbols_made : List ℕ → List Symbol
symbols_made file = map (symbol_in file) (drop 1 (symbol_records file))

pub object_indexed : (file : List ℕ) → first_fault file ≡ None → are_indexed (symbols_made file) (sections_in file) ≡ true
object_indexed file none =
    let count : length (symbols_made file) ≡ length (symbol_records file) - 1 =
    length-map (drop 1 (symbol_records file)) (symbol_in file) ∙ length-drop 1 (symbol_records file) in
    ap (λ n. list_all (below_symbols n) (sections_in file)) count ∙ indexed file none

pub object_defined : (file : List ℕ) → are_defined (sections_in file) (symbols_made file) ≡ true
object_defined file =
    list_all-map (λ s. is_defined_in (length (sections_in file)) s.definition) (symbol_in file) (drop 1 (symbol_records file))
    ∙ all_by (λ s. is_defined_in (length (sections_in file)) (symbol_in file s).definition) (symbol_defined file) (drop 1 (symbol_records file))

pub object_rows : (file : List ℕ) → first_fault file ≡ None → are_rows (sections_in file) (map (row_in file) (row_records file)) ≡ true
object_rows file none =
    list_all-map (λ r. is_row_in r (slice_get (sections_in file) r.section)) (row_in file) (row_records file)
    ∙ all_from_each (IsGoodRow file) (λ r. is_row_in (row_in file r) (slice_get (sections_in file) (kept_before file r.r_section))) (row_lies file none) (row_records file) (good_rows file none)
