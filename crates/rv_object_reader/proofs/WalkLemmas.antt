-- What the sections of a file have passed where no test is true.

use Rattle.std.proofs.Common.{◌≡◌, ℕ, ◌%◌, ◌==◌, Bool, true, false, not, ◌&&◌, ◌||◌, List, [], ◌∷◌, ◌++◌, Some, None, refl, subst, cond}
use Rattle.std.specs.List.{find}
use Rattle.std.proofs.lemmas.Bool.{not-false}
use Rattle.rv_elf_laws.specs.declared.section_header.SectionHeader.{SectionHeader}
use Rattle.rv_elf_laws.specs.Fields.{number_in, e_type}
use Rattle.rv_elf_laws.specs.FirstFault.{first_true, header_tests, table_tests}
use Rattle.rv_elf_laws.specs.Numbers.{et_rel, sht_nobits}
use Rattle.rv_elf_laws.specs.Sections.{is_past}
use Rattle.rv_object_laws.specs.Valid.{is_section_alignment}
use Rattle.rv_object_file_laws.specs.Parts.{FileSection, sections, is_executable, name_of}
use Rattle.rv_object_file_laws.specs.FirstFault.{is_none, is_linked, section_tests, records_tests, sections_tests, object_tests, first_fault}
use Rattle.rv_elf_laws.specs.FirstTrue.{no_fault_parts}
use Rattle.rv_object_reader.proofs.FirstTrueLemmas.{passed, all_false}

-- a section has passed its tests, behind these
pub record Passed (file : List ℕ) (earlier : List FileSection) (s : FileSection) : Type 0 where
  pub heading : first_true (section_tests file earlier s.header) ≡ None
  pub inner : first_true (records_tests file earlier s.header) ≡ None

abbrev pub AllPassed : List ℕ → List FileSection → List FileSection → Type 0
AllPassed file before [] = Unit {0}
AllPassed file before (s ∷ ss) = Passed file before s × AllPassed file (before ++ s ∷ []) ss

pub all_passed : (file : List ℕ) (before ss : List FileSection) → first_true (sections_tests file before ss) ≡ None → AllPassed file before ss
all_passed file before [] h = tt
all_passed file before (s ∷ ss) h =
    let one = no_fault_parts (section_tests file before s.header) (records_tests file before s.header ++ sections_tests file (before ++ s ∷ []) ss) h in
    let two = no_fault_parts (records_tests file before s.header) (sections_tests file (before ++ s ∷ []) ss) one.1 in
    (record { heading = one.0; inner = two.0 }, all_passed file (before ++ s ∷ []) ss two.1)

-- what a file without a fault has passed
pub record Fine (file : List ℕ) : Type 0 where
  pub head : first_true (header_tests file) ≡ None
  pub object : not (number_in e_type 0 file == et_rel) ≡ false
  pub tables : first_true (table_tests file) ≡ None
  pub walk : AllPassed file [] (sections file)

pub fine : (file : List ℕ) → first_fault file ≡ None → Fine file
unfolding object_tests
fine file h =
    let rest = table_tests file ++ sections_tests file [] (sections file) in
    let one = no_fault_parts (header_tests file) _ h in
    let two = passed (not (number_in e_type 0 file == et_rel)) _ (first_true rest) one.1 in
    let three = no_fault_parts (table_tests file) (sections_tests file [] (sections file)) two.1 in
    record { head = one.0; object = two.0; tables = three.0; walk = all_passed file [] (sections file) three.1 }

-- a section that a search finds has passed
pub record FoundPassed (file : List ℕ) (p : FileSection → Bool) (s : FileSection) : Type 0 where
  pub earlier : List FileSection
  pub passes : Passed file earlier s
  pub test : p s ≡ true

pub passed_find : (file : List ℕ) (p : FileSection → Bool) (s : FileSection) (before ss : List FileSection) → AllPassed file before ss → find p ss ≡ Some s → FoundPassed file p s
passed_find file p s before [] h e = cc
passed_find file p s before (x ∷ ss) h e = go (p x) refl e (passed_find file p s (before ++ x ∷ []) ss h.1)
  where
    go : (b : Bool) → p x ≡ b → cond b (Some x) (find p ss) ≡ Some s → (find p ss ≡ Some s → FoundPassed file p s) → FoundPassed file p s
    go true t e rest =
        let same : x ≡ s = cc in
        subst (λ y. FoundPassed file p y) same (record { earlier = before; passes = h.0; test = t })
    go false t e rest = rest e

-- what the header of a section says
pub record HeaderSays (file : List ℕ) (h : SectionHeader) : Type 0 where
  pub stands : (not (h.sh_type == sht_nobits) && is_past file h.sh_offset h.sh_size) ≡ false
  pub alignment : (not (h.sh_addralign == 0 || is_section_alignment h.sh_addralign)) ≡ false
  pub even : (is_executable h && not (h.sh_size % 2 == 0)) ≡ false
  pub named : is_none (name_of file h) ≡ false
  pub links : is_linked file h ≡ true

pub header_says : (file : List ℕ) (before : List FileSection) (h : SectionHeader) → first_true (section_tests file before h) ≡ None → HeaderSays file h
unfolding section_tests
header_says file before h none =
    let a = all_false (section_tests file before h) none in
    record { stands = a.0; alignment = a.1.1.1.1.0; even = a.1.1.1.1.1.0; named = a.1.1.1.1.1.1.0; links = not-false (is_linked file h) a.1.1.1.1.1.1.1.0 }
