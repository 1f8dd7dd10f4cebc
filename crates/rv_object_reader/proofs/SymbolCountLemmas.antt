-- A file without a fault has one symbol table at most: how many symbols it has is how many the table has that
-- a section of relocations names.

use Rattle.std.proofs.Common.{◌≡◌, ℕ, zero, suc, ◌+◌, ◌-◌, ◌/◌, ◌<◌, ◌≤◌, ◌==◌, Bool, true, false, not, ◌&&◌, ◌||◌, List, [], ◌∷◌, ◌++◌, length, Some, None, refl, ap, sym, ◌∙◌, subst, arith, cond}
use Rattle.std.specs.List.{find, list_any}
use Rattle.std.proofs.lemmas.Bool.{and_parts, and_from, cond-true, cond-false, eqb-true, true≢false}
use Rattle.std.proofs.lemmas.Bool.Decides.{nat_tests}
use Rattle.rv_list_laws.proofs.NumbersLemmas.{not_equal}
use Rattle.rv_elf_laws.specs.declared.section_header.SectionHeader.{SectionHeader}
use Rattle.rv_elf_laws.specs.FirstFault.{first_true}
use Rattle.rv_elf_laws.specs.Records.{symbol_at}
use Rattle.rv_elf_laws.specs.Sections.{records, section_count, section_header_of, file_contents}
use Rattle.rv_object_reader.specs.Found.{section_at, sections_from}
use Rattle.rv_object_file_laws.specs.FirstFault.{section_tests, is_linked, is_rela_linked, symbol_count, first_fault}
use Rattle.rv_object_file_laws.specs.Parts.{FileSection, is_section, is_loaded, is_symbol_table, is_rela, symbol_table, symbols_of, symbol_records}
use Rattle.rv_object_reader.proofs.SectionsFromLemmas.{sections_are}
use Rattle.rv_object_reader.proofs.ContentsLemmas.{stored_length}
use Rattle.rv_object_reader.proofs.FirstTrueLemmas.{all_false}
use Rattle.rv_object_reader.proofs.KeptLemmas.{says_at}
use Rattle.rv_object_reader.proofs.WalkLemmas.{AllPassed, fine}

abbrev is_table : FileSection → Bool
is_table s = is_symbol_table s.header

-- ---- one symbol table

first_table : (file : List ℕ) (before : List FileSection) (h : SectionHeader) → first_true (section_tests file before h) ≡ None → (is_symbol_table h && list_any is_table before) ≡ false
unfolding section_tests
first_table file before h none = (all_false (section_tests file before h) none).1.0

any_last : (p : FileSection → Bool) (ss : List FileSection) (s : FileSection) → p s ≡ true → list_any p (ss ++ s ∷ []) ≡ true
any_last p [] s e = ap (λ b. b || false) e
any_last p (x ∷ ss) s e = go (p x) (any_last p ss s e)
  where
    go : (b : Bool) → list_any p (ss ++ s ∷ []) ≡ true → (b || list_any p (ss ++ s ∷ [])) ≡ true
    go true h = refl
    go false h = h

any_before : (p : FileSection → Bool) (ss : List FileSection) (s : FileSection) → list_any p ss ≡ true → list_any p (ss ++ s ∷ []) ≡ true
any_before p [] s e = absurd (true≢false (sym e))
any_before p (x ∷ ss) s e = go (p x) e (any_before p ss s)
  where
    go : (b : Bool) → (b || list_any p ss) ≡ true → (list_any p ss ≡ true → list_any p (ss ++ s ∷ []) ≡ true) → (b || list_any p (ss ++ s ∷ [])) ≡ true
    go true h rest = refl
    go false h rest = rest h

-- behind one stands no other
none_behind : (file : List ℕ) (before : List FileSection) (n k i : ℕ) → AllPassed file before (sections_from file n k) → list_any is_table before ≡ true →
    is_symbol_table (section_header_of file i) ≡ true → k ≤ i → i < k + n → ⊥
none_behind file before zero k i all some table low high = omega (arith, low, high)
none_behind file before (suc n) k i all some table low high =
    go (k == i) refl (none_behind file (before ++ section_at file k ∷ []) n (suc k) i all.1 (any_before is_table before (section_at file k) some) table)
  where
    go : (b : Bool) → (k == i) ≡ b → (suc k ≤ i → i < suc k + n → ⊥) → ⊥
    go true e rest =
        let here : is_symbol_table (section_header_of file k) ≡ true = ap (λ j. is_symbol_table (section_header_of file j)) (eqb-true k i e) ∙ table in
        true≢false (sym (and_from _ _ here some) ∙ first_table file before (section_header_of file k) all.0.heading)
    go false e rest = let other = not_equal k i e in rest (omega arith) (omega arith)

-- the first is that of any index
table_found : (file : List ℕ) (before : List FileSection) (n k i : ℕ) → AllPassed file before (sections_from file n k) →
    is_symbol_table (section_header_of file i) ≡ true → k ≤ i → i < k + n → find is_table (sections_from file n k) ≡ Some (section_at file i)
table_found file before zero k i all table low high = absurd (omega (arith, low, high))
table_found file before (suc n) k i all table low high =
    go (is_symbol_table (section_header_of file k)) refl (k == i) refl (table_found file (before ++ section_at file k ∷ []) n (suc k) i all.1 table)
  where
    go : (b : Bool) → is_symbol_table (section_header_of file k) ≡ b → (c : Bool) → (k == i) ≡ c →
        (suc k ≤ i → i < suc k + n → find is_table (sections_from file n (suc k)) ≡ Some (section_at file i)) →
        cond b (Some (section_at file k)) (find is_table (sections_from file n (suc k))) ≡ Some (section_at file i)
    go true here true same rest = ap (λ j. Some (section_at file j)) (eqb-true k i same)
    go true here false apart rest =
        let other = not_equal k i apart in
        absurd (none_behind file (before ++ section_at file k ∷ []) n (suc k) i all.1 (any_last is_table before (section_at file k) here) table (omega arith) (omega arith))
    go false here true same rest =
        absurd (true≢false (sym table ∙ ap (λ j. is_symbol_table (section_header_of file j)) (sym (eqb-true k i same)) ∙ here))
    go false here false apart rest = let other = not_equal k i apart in rest (omega arith) (omega arith)

-- ---- its symbols

records_long : {X : Type 0} (f : ℕ → List ℕ → X) (size n place : ℕ) (bytes : List ℕ) → length (records f size n place bytes) ≡ n
records_long f size zero place bytes = refl
records_long f size (suc n) place bytes = ap suc (records_long f size n (place + size) bytes)

stored : (type : ℕ) → (type == 2) ≡ true → (type == 8) ≡ false
stored type e = grind (arith, nat_tests)

some_index : (file : List ℕ) (i : ℕ) → is_section file i ≡ true → (0 < i) × (i < section_count file)
some_index file i e = grind (arith, nat_tests)

counted_at : (file : List ℕ) → first_fault file ≡ None → (i : ℕ) → 0 < i → i < section_count file → is_symbol_table (section_header_of file i) ≡ true →
    (section_header_of file i).sh_size / 24 ≡ length (symbol_records file)
counted_at file none i low high table =
    let h = section_header_of file i in
    let walk = subst (AllPassed file []) (sections_are file) (fine file none).walk in
    let found : symbol_table file ≡ Some (section_at file i) =
    ap (find is_table) (sections_are file) ∙ table_found file [] (section_count file - 1) 1 i walk table (omega arith) (omega arith) in
    ap (λ n. n / 24) (sym (stored_length file h (says_at file none i low high) (stored h.sh_type table)))
    ∙ sym (records_long symbol_at 24 (length (file_contents file h) / 24) 0 (file_contents file h))
    ∙ ap (λ s. length (symbols_of file s)) (sym found)

implied : (a b : Bool) → (not a || b) ≡ true → a ≡ true → b ≡ true
implied true b e h = e
implied false b e h = absurd (true≢false (sym h))

-- a section of relocations is none of symbols
pub no_symbols : (type : ℕ) → (type == 4) ≡ true → (type == 2) ≡ false
no_symbols type e = grind (arith, nat_tests)

-- relocations of a loaded section name the one table
pub symbols_counted : (file : List ℕ) → first_fault file ≡ None → (h : SectionHeader) → is_linked file h ≡ true → is_rela h ≡ true → is_loaded (section_header_of file h.sh_info) ≡ true →
    symbol_count file h ≡ length (symbol_records file)
symbols_counted file none h links rela loaded =
    let these : is_rela_linked file h ≡ true = sym (cond-false (is_symbol_table h) _ _ (no_symbols h.sh_type rela) ∙ cond-true (is_rela h) _ _ rela) ∙ links in
    let parts = and_parts (is_section file h.sh_link && is_section file h.sh_info) _ these in
    let index = some_index file h.sh_link (and_parts (is_section file h.sh_link) (is_section file h.sh_info) parts.0).0 in
    counted_at file none h.sh_link index.0 index.1 (implied (is_loaded (section_header_of file h.sh_info)) _ parts.1 loaded)
