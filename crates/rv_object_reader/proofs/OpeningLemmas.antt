-- The tests of a file before its sections, and all of them.

use Rattle.std.proofs.Common.{◌≡◌, ◌⊎◌, inl, inr, ℕ, zero, suc, ◌<◌, Bool, true, false, not, ◌&&◌, nat_le, List, [], ◌∷◌, ◌++◌, drop, Some, None, refl, sym, ap, ◌∙◌, arith, append_assoc}
use Rattle.std.specs.Prelude.{◌==◌}
use Rattle.std.proofs.lemmas.Bool.{cond-true, cond-false}
use Rattle.std.proofs.lemmas.Bool.Decides.{nat_tests}
use Rattle.rv_fault.specs.declared.file_fault.FileFault.{FileFault}
use Rattle.rv_fault.specs.declared.file_fault.FileFault.TheVariants.{OutOfMemory, NotObject, BadTable}
use Rattle.rv_elf_laws.specs.Fields.{number_in, e_type}
use Rattle.rv_elf_laws.specs.FirstFault.{first_true, header_tests, table_tests, open_tests}
use Rattle.rv_elf_laws.specs.FirstTrue.{first_true_none, first_true_some, no_fault_parts}
use Rattle.rv_elf_laws.specs.Numbers.{et_rel}
use Rattle.rv_elf_laws.specs.Sections.{section_count, names_section}
use Rattle.rv_object_file_laws.specs.FirstFault.{object_tests, sections_tests, first_fault}
use Rattle.rv_object_file_laws.specs.Parts.{sections}
use Rattle.rv_object_reader.specs.Opening.{opening_tests}

-- ---- lists of tests, none of which is true

passed_at : (n : ℕ) (tests : List (Bool × FileFault)) → first_true tests ≡ None → first_true (drop n tests) ≡ None
passed_at zero tests e = e
passed_at (suc n) [] e = refl
passed_at (suc n) ((false, fault) ∷ tests) e = passed_at n tests e
passed_at (suc n) ((true, fault) ∷ tests) e = cc

first_false : (test : Bool) (fault : FileFault) (tests : List (Bool × FileFault)) → first_true ((test, fault) ∷ tests) ≡ None → test ≡ false
first_false false fault tests e = refl
first_false true fault tests e = cc

-- ---- before the sections

module _ (file : List ℕ) where
  pub header_stops : (fault : FileFault) → first_true (header_tests file) ≡ Some fault → first_true (opening_tests file) ≡ Some fault
  unfolding opening_tests
  header_stops fault found = first_true_some (header_tests file) _ fault found

  pub type_stops : first_true (header_tests file) ≡ None → (number_in e_type 0 file == et_rel) ≡ false → first_true (opening_tests file) ≡ Some NotObject
  unfolding opening_tests
  type_stops header other = first_true_none (header_tests file) _ header ∙ cond-true _ _ _ (ap not other)

  -- of a file of that type
  pub tables_are : first_true (header_tests file) ≡ None → (number_in e_type 0 file == et_rel) ≡ true → first_true (opening_tests file) ≡ first_true (open_tests file)
  unfolding opening_tests
  tables_are header is = first_true_none (header_tests file) _ header ∙ cond-false _ _ _ (ap not is) ∙ sym (first_true_none (header_tests file) (table_tests file) header)

  names_tested : first_true (table_tests file) ≡ None → 0 < names_section file → names_section file < section_count file
  unfolding table_tests
  names_tested found some =
      let test : Bool = not (names_section file == 0) && nat_le (section_count file) (names_section file) in
      let fine : test ≡ false = first_false test BadTable (drop 5 (table_tests file)) (passed_at 4 (table_tests file) found) in
      grind (arith, nat_tests, fine, some)

  -- the section of names is one of the file's
  pub names_inside : first_true (open_tests file) ≡ None → 0 < names_section file → names_section file < section_count file
  names_inside found = names_tested (no_fault_parts (header_tests file) (table_tests file) found).1

-- ---- and all

module _ (file : List ℕ) where
  all_are : object_tests file ≡ opening_tests file ++ sections_tests file [] (sections file)
  unfolding object_tests opening_tests
  all_are = sym (append_assoc (header_tests file) ((not (number_in e_type 0 file == et_rel), NotObject) ∷ table_tests file) (sections_tests file [] (sections file)))

  pub opening_fails : (fault : FileFault) → first_true (opening_tests file) ≡ Some fault → first_fault file ≡ Some fault
  opening_fails fault found = ap first_true all_are ∙ first_true_some (opening_tests file) _ fault found

  module _ (other : List ℕ) (same : other ≡ file) (opened : first_true (opening_tests file) ≡ None) where
    sections_left : first_fault file ≡ first_true (sections_tests other [] (sections other))
    sections_left = ap first_true all_are ∙ first_true_none (opening_tests file) _ opened ∙ ap (λ bytes. first_true (sections_tests bytes [] (sections bytes))) (sym same)

    pub sections_pass : first_true (sections_tests other [] (sections other)) ≡ None → first_fault other ≡ None
    sections_pass found = ap first_fault same ∙ sections_left ∙ found

    pub sections_fail : (fault : FileFault) → (fault ≡ OutOfMemory) ⊎ (first_true (sections_tests other [] (sections other)) ≡ Some fault) →
        (fault ≡ OutOfMemory) ⊎ (first_fault file ≡ Some fault)
    sections_fail fault (inl memory) = inl memory
    sections_fail fault (inr found) = inr (sections_left ∙ found)
