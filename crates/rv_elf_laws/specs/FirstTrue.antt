-- The first test that is true, of two lists of tests. The lemmas stand here, and not in proofs/,
-- for the crates that test files further.

use Rattle.std.proofs.Common.{◌≡◌, Bool, true, false, List, [], ◌∷◌, ◌++◌, Some, None, refl}
use Rattle.rv_fault.specs.declared.file_fault.FileFault.{FileFault}
use Rattle.rv_elf_laws.specs.FirstFault.{first_true}

pub first_true_none : (xs ys : List (Bool × FileFault)) → first_true xs ≡ None →
    first_true (xs ++ ys) ≡ first_true ys
first_true_none [] ys e = refl
first_true_none ((false, f) ∷ xs) ys e = first_true_none xs ys e
first_true_none ((true, f) ∷ xs) ys e = cc

pub first_true_some : (xs ys : List (Bool × FileFault)) (fault : FileFault) →
    first_true xs ≡ Some fault → first_true (xs ++ ys) ≡ Some fault
first_true_some [] ys fault e = cc
first_true_some ((false, f) ∷ xs) ys fault e = first_true_some xs ys fault e
first_true_some ((true, f) ∷ xs) ys fault e = e

-- no test is true, of two lists
pub no_fault_parts : (xs ys : List (Bool × FileFault)) → first_true (xs ++ ys) ≡ None →
    (first_true xs ≡ None) × (first_true ys ≡ None)
no_fault_parts [] ys e = (refl, e)
no_fault_parts ((false, f) ∷ xs) ys e = no_fault_parts xs ys e
no_fault_parts ((true, f) ∷ xs) ys e = cc
