-- Searches of lists at whose elements a test has one answer; lists of tests.

use Rattle.std.proofs.Common.{◌≡◌, Bool, List, [], ◌∷◌, flat_map, None, refl, ◌∙◌}
use Rattle.rv_elf_laws.specs.FirstTrue.{first_true_none}
use Rattle.std.specs.List.{AllByRecursion}
use Rattle.rv_fault.specs.declared.file_fault.FileFault.{FileFault}
use Rattle.rv_elf_laws.specs.FirstFault.{first_true}

-- none of the tests of each is true
pub flat_map_none : {X : Type 0} (tests : X → List (Bool × FileFault)) (xs : List X) → AllByRecursion (λ x. first_true (tests x) ≡ None) xs →
    first_true (flat_map tests xs) ≡ None
flat_map_none tests [] h = refl
flat_map_none tests (x ∷ xs) h = first_true_none (tests x) (flat_map tests xs) h.0 ∙ flat_map_none tests xs h.1
