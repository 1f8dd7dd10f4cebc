-- The records of a section, one after the other, and their tests.

use Rattle.std.proofs.Common.{◌≡◌, ℕ, zero, suc, ◌+◌, ◌-◌, ◌<◌, Bool, List, ◌∷◌, drop, Some, None, refl, ap, sym, ◌∙◌, arith}
use Rattle.std.specs.Prelude.{flat_map}
use Rattle.rv_fault.specs.declared.file_fault.FileFault.{FileFault}
use Rattle.rv_elf_laws.specs.FirstFault.{first_true}
use Rattle.rv_elf_laws.specs.Sections.{records}
use Rattle.rv_elf_laws.specs.FirstTrue.{first_true_none, first_true_some}

pub records_cut : {X : Type 0} (f : ℕ → List ℕ → X) (size n i p q : ℕ) (bytes : List ℕ) → i < n → q ≡ p + size →
    records f size (n - i) p bytes ≡ f p bytes ∷ records f size (n - (i + 1)) q bytes
records_cut f size n i p q bytes below next =
    let left : n - i ≡ suc (n - (i + 1)) = omega arith in
    ap (λ m. records f size m p bytes) left ∙ ap (λ place. f p bytes ∷ records f size (n - (i + 1)) place bytes) (sym next)

-- all records but the first
pub records_behind : {X : Type 0} (f : ℕ → List ℕ → X) (size n p : ℕ) (bytes : List ℕ) → p ≡ 0 + size →
    drop 1 (records f size n 0 bytes) ≡ records f size (n - 1 - 0) p bytes
records_behind f size zero p bytes first = refl
records_behind f size (suc n) p bytes first =
    let same : suc n - 1 - 0 ≡ n = omega arith in
    ap (λ place. records f size n place bytes) (sym first) ∙ ap (λ m. records f size m p bytes) (sym same)

-- the tests, one record further
pub tests_step : {X : Type 0} (T : X → List (Bool × FileFault)) (f : ℕ → List ℕ → X) (size n i p q : ℕ) (bytes : List ℕ) → i < n → q ≡ p + size →
    first_true (T (f p bytes)) ≡ None →
    first_true (flat_map T (records f size (n - i) p bytes)) ≡ first_true (flat_map T (records f size (n - (i + 1)) q bytes))
tests_step T f size n i p q bytes below next fine =
    ap (λ rs. first_true (flat_map T rs)) (records_cut f size n i p q bytes below next)
    ∙ first_true_none (T (f p bytes)) (flat_map T (records f size (n - (i + 1)) q bytes)) fine

pub tests_stop : {X : Type 0} (T : X → List (Bool × FileFault)) (f : ℕ → List ℕ → X) (size n i p q : ℕ) (bytes : List ℕ) (fault : FileFault) → i < n → q ≡ p + size →
    first_true (T (f p bytes)) ≡ Some fault →
    first_true (flat_map T (records f size (n - i) p bytes)) ≡ Some fault
tests_stop T f size n i p q bytes fault below next found =
    ap (λ rs. first_true (flat_map T rs)) (records_cut f size n i p q bytes below next)
    ∙ first_true_some (T (f p bytes)) (flat_map T (records f size (n - (i + 1)) q bytes)) fault found
