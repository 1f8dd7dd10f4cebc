-- Tables of program headers: one more at the end, and what ends below an address.

use Rattle.std.proofs.Common.{◌≡◌, ℕ, zero, suc, ◌+◌, ◌*◌, ◌-◌, ◌≤◌, ◌<◌, ◌||◌, Some, None, Bool, true, false, List, [], ◌∷◌, ◌++◌, refl, ap, sym, ◌∙◌, arith}
use Rattle.std.proofs.lemmas.Bool.{and_parts, or_from, and_from}
use Rattle.std.proofs.lemmas.List.Folds.{list_all-append}
use Rattle.rv_fault.specs.declared.file_fault.FileFault.{FileFault}
use Rattle.rv_elf_laws.specs.FirstTrue.{first_true_none, first_true_some}
use Rattle.std.specs.List.{list_any, list_all}
use Rattle.std.proofs.lemmas.Bool.Decides.{nat_tests}
use Rattle.rv_elf_laws.specs.declared.program_header.ProgramHeader.{ProgramHeader}
use Rattle.rv_elf_laws.specs.Records.{program_header_at}
use Rattle.rv_elf_laws.specs.FirstFault.{first_true}
use Rattle.rv_image_laws.specs.FirstFault.{do_overlap, ends_by, programs_tests, program_tests, programs_from}

pub programs_from_more : (i place : ℕ) (file : List ℕ) → programs_from (suc i) place file ≡ programs_from i place file ++ program_header_at (place + 56 * i) file ∷ []
programs_from_more zero place file = let same : place + 56 * 0 ≡ place = omega arith in rw same refl
programs_from_more (suc i) place file =
    let next : place + 56 + 56 * i ≡ place + 56 * suc i = omega arith in
    ap (λ ps. program_header_at place file ∷ ps) (programs_from_more i (place + 56) file) ∙ ap (λ p. program_header_at place file ∷ (programs_from i (place + 56) file ++ program_header_at p file ∷ [])) next

one_meets_not : (p q : ProgramHeader) (highest : ℕ) → ends_by highest q ≡ true → highest ≤ p.p_vaddr → do_overlap p q ≡ false
one_meets_not p q highest h below = grind (arith, nat_tests)

-- nothing that ends by an address meets what begins there or above
pub none_meets : (p : ProgramHeader) (qs : List ProgramHeader) (highest : ℕ) → list_all (ends_by highest) qs ≡ true → highest ≤ p.p_vaddr → list_any (do_overlap p) qs ≡ false
none_meets p [] highest h below = refl
none_meets p (q ∷ qs) highest h below =
    let both = and_parts (ends_by highest q) (list_all (ends_by highest) qs) h in
    or_from _ _ (one_meets_not p q highest both.0 below) (none_meets p qs highest both.1 below)

-- the table from the header i on is that header and the table after it
pub programs_from_cut : (count i place : ℕ) (file : List ℕ) → i < count →
    programs_from (count - i) (place + 56 * i) file ≡ program_header_at (place + 56 * i) file ∷ programs_from (count - (i + 1)) (place + 56 * (i + 1)) file
programs_from_cut count i place file below =
    let left : count - i ≡ suc (count - (i + 1)) = omega arith in
    let next : place + 56 * i + 56 ≡ place + 56 * (i + 1) = omega arith in
    ap (λ n. programs_from n (place + 56 * i) file) left ∙ ap (λ p. program_header_at (place + 56 * i) file ∷ programs_from (count - (i + 1)) p file) next

-- a search in the table, one header further
pub any_step : (test : ProgramHeader → Bool) (count i place : ℕ) (file : List ℕ) → i < count → test (program_header_at (place + 56 * i) file) ≡ false →
    list_any test (programs_from (count - i) (place + 56 * i) file) ≡ list_any test (programs_from (count - (i + 1)) (place + 56 * (i + 1)) file)
any_step test count i place file below other =
    ap (list_any test) (programs_from_cut count i place file below) ∙ ap (λ b. b || list_any test (programs_from (count - (i + 1)) (place + 56 * (i + 1)) file)) other

-- what all headers so far have, and one more has
pub all_step : (test : ProgramHeader → Bool) (i place : ℕ) (file : List ℕ) → list_all test (programs_from i place file) ≡ true → test (program_header_at (place + 56 * i) file) ≡ true →
    list_all test (programs_from (i + 1) place file) ≡ true
all_step test i place file all one =
    let next : i + 1 ≡ suc i = omega arith in
    ap (λ n. list_all test (programs_from n place file)) next ∙ ap (list_all test) (programs_from_more i place file)
    ∙ list_all-append test (programs_from i place file) (program_header_at (place + 56 * i) file ∷ []) ∙ and_from _ _ all (and_from _ _ one refl)

ends_later : (low high : ℕ) (q : ProgramHeader) → low ≤ high → ends_by low q ≡ true → ends_by high q ≡ true
ends_later low high q up h = grind (arith, nat_tests)

-- an end of all may be raised
pub all_end_later : (low high : ℕ) (qs : List ProgramHeader) → low ≤ high → list_all (ends_by low) qs ≡ true → list_all (ends_by high) qs ≡ true
all_end_later low high [] up h = refl
all_end_later low high (q ∷ qs) up h =
    let both = and_parts (ends_by low q) (list_all (ends_by low) qs) h in
    and_from _ _ (ends_later low high q up both.0) (all_end_later low high qs up both.1)

-- the tests of the table, one header further
pub tests_step : (count i place : ℕ) (file : List ℕ) → i < count →
    first_true (program_tests file (programs_from i place file) (program_header_at (place + 56 * i) file)) ≡ None →
    first_true (programs_tests file (programs_from i place file) (programs_from (count - i) (place + 56 * i) file))
    ≡ first_true (programs_tests file (programs_from (i + 1) place file) (programs_from (count - (i + 1)) (place + 56 * (i + 1)) file))
tests_step count i place file below fine =
    let rest = programs_from (count - (i + 1)) (place + 56 * (i + 1)) file in
    let here = program_header_at (place + 56 * i) file in
    let next : suc i ≡ i + 1 = omega arith in
    ap (λ ps. first_true (programs_tests file (programs_from i place file) ps)) (programs_from_cut count i place file below)
    ∙ first_true_none (program_tests file (programs_from i place file) here) (programs_tests file (programs_from i place file ++ here ∷ []) rest) fine
    ∙ ap (λ qs. first_true (programs_tests file qs rest)) (sym (programs_from_more i place file) ∙ ap (λ n. programs_from n place file) next)

-- the tests of the table where this header has a fault
pub tests_stop : (count i place : ℕ) (file : List ℕ) (fault : FileFault) → i < count →
    first_true (program_tests file (programs_from i place file) (program_header_at (place + 56 * i) file)) ≡ Some fault →
    first_true (programs_tests file (programs_from i place file) (programs_from (count - i) (place + 56 * i) file)) ≡ Some fault
tests_stop count i place file fault below found =
    let rest = programs_from (count - (i + 1)) (place + 56 * (i + 1)) file in
    let here = program_header_at (place + 56 * i) file in
    ap (λ ps. first_true (programs_tests file (programs_from i place file) ps)) (programs_from_cut count i place file below)
    ∙ first_true_some (program_tests file (programs_from i place file) here) (programs_tests file (programs_from i place file ++ here ∷ []) rest) fault found
