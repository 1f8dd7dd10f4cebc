-- The program headers from one on.

use Rattle.std.proofs.Common.{◌≡◌, ◌∙◌, ℕ, suc, ◌+◌, ◌*◌, ◌-◌, ◌<◌, ◌≤◌, Bool, true, false, ◌&&◌, List, ◌∷◌, Some, ap, arith}
use Rattle.std.specs.List.{find, list_all}
use Rattle.std.proofs.lemmas.Bool.{cond-false, cond-true}
use Rattle.std.proofs.lemmas.Bool.Decides.{nat_tests}
use Rattle.rv_list_laws.proofs.FindLemmas.{find_test}
use Rattle.rv_map_laws.specs.declared.map.Region.{Region}
use Rattle.rv_debug_laws.specs.Stored.{has_bytes}
use Rattle.rv_elf_laws.specs.declared.program_header.ProgramHeader.{ProgramHeader}
use Rattle.rv_elf_laws.specs.Records.{program_header_at}
use Rattle.rv_elf_laws.specs.Sections.{records}

abbrev pub programs_from : ℕ → ℕ → List ℕ → List ProgramHeader
programs_from count place file = records program_header_at 56 count place file

-- the headers from one on are that one and those after it
programs_cut : (count i place : ℕ) (file : List ℕ) → i < count →
    programs_from (count - i) (place + 56 * i) file
    ≡ program_header_at (place + 56 * i) file ∷ programs_from (count - (i + 1)) (place + 56 * (i + 1)) file
programs_cut count i place file below =
    let left : count - i ≡ suc (count - (i + 1)) = omega arith in
    let next : place + 56 * i + 56 ≡ place + 56 * (i + 1) = omega arith in
    ap (λ n. programs_from n (place + 56 * i) file) left
    ∙ ap (λ p. program_header_at (place + 56 * i) file ∷ programs_from (count - (i + 1)) p file) next

-- one that passes a test that all are to pass
pub all_passed : (test : ProgramHeader → Bool) (count i place : ℕ) (file : List ℕ) → i < count →
    test (program_header_at (place + 56 * i) file) ≡ true →
    list_all test (programs_from (count - i) (place + 56 * i) file)
    ≡ list_all test (programs_from (count - (i + 1)) (place + 56 * (i + 1)) file)
all_passed test count i place file below passes =
    ap (list_all test) (programs_cut count i place file below)
    ∙ ap (λ b. b && list_all test (programs_from (count - (i + 1)) (place + 56 * (i + 1)) file)) passes

pub all_failed : (test : ProgramHeader → Bool) (count i place : ℕ) (file : List ℕ) → i < count →
    test (program_header_at (place + 56 * i) file) ≡ false →
    list_all test (programs_from (count - i) (place + 56 * i) file) ≡ false
all_failed test count i place file below fails =
    ap (list_all test) (programs_cut count i place file below)
    ∙ ap (λ b. b && list_all test (programs_from (count - (i + 1)) (place + 56 * (i + 1)) file)) fails

-- one that a search passes over, and one that it finds
pub find_passed : (test : ProgramHeader → Bool) (count i place : ℕ) (file : List ℕ) → i < count →
    test (program_header_at (place + 56 * i) file) ≡ false →
    find test (programs_from (count - i) (place + 56 * i) file)
    ≡ find test (programs_from (count - (i + 1)) (place + 56 * (i + 1)) file)
find_passed test count i place file below fails =
    ap (find test) (programs_cut count i place file below)
    ∙ cond-false (test (program_header_at (place + 56 * i) file)) (Some (program_header_at (place + 56 * i) file))
    (find test (programs_from (count - (i + 1)) (place + 56 * (i + 1)) file)) fails

pub find_found : (test : ProgramHeader → Bool) (count i place : ℕ) (file : List ℕ) → i < count →
    test (program_header_at (place + 56 * i) file) ≡ true →
    find test (programs_from (count - i) (place + 56 * i) file) ≡ Some (program_header_at (place + 56 * i) file)
find_found test count i place file below passes =
    ap (find test) (programs_cut count i place file below)
    ∙ cond-true (test (program_header_at (place + 56 * i) file)) (Some (program_header_at (place + 56 * i) file))
    (find test (programs_from (count - (i + 1)) (place + 56 * (i + 1)) file)) passes

-- a region with bytes in a segment begins where that does, or later
pub starts_before : (r : Region) (programs : List ProgramHeader) (p : ProgramHeader) → find (has_bytes r) programs ≡ Some p → p.p_vaddr ≤ r.start
starts_before r programs p found = in_segment r p (find_test (has_bytes r) programs p found)
  where
    in_segment : (r : Region) (p : ProgramHeader) → has_bytes r p ≡ true → p.p_vaddr ≤ r.start
    in_segment r p has = grind (arith, nat_tests)
