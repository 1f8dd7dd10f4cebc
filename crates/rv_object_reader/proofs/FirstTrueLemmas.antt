-- Lists of tests of which none is true.

use Rattle.std.proofs.Common.{◌≡◌, Bool, true, false, List, [], ◌∷◌, flat_map, Option, Some, None, refl, cond}
use Rattle.std.specs.List.{AllByRecursion}
use Rattle.rv_fault.specs.declared.file_fault.FileFault.{FileFault}
use Rattle.rv_elf_laws.specs.FirstFault.{first_true}
use Rattle.rv_elf_laws.specs.FirstTrue.{no_fault_parts}

-- the first test is not true, and no other
pub passed : (b : Bool) (f : FileFault) (o : Option FileFault) → cond b (Some f) o ≡ None → (b ≡ false) × (o ≡ None)
passed false f o e = (refl, e)
passed true f o e = cc

-- no test of each is true
pub flat_map_parts : {X : Type 0} (tests : X → List (Bool × FileFault)) (xs : List X) → first_true (flat_map tests xs) ≡ None →
    AllByRecursion (λ x. first_true (tests x) ≡ None) xs
flat_map_parts tests [] h = tt
flat_map_parts tests (x ∷ xs) h =
    let both = no_fault_parts (tests x) (flat_map tests xs) h in
    (both.0, flat_map_parts tests xs both.1)

-- none of them is true
pub all_false : (ts : List (Bool × FileFault)) → first_true ts ≡ None → AllByRecursion (λ t. t.0 ≡ false) ts
all_false [] e = tt
all_false ((false, f) ∷ ts) e = (refl, all_false ts e)
all_false ((true, f) ∷ ts) e = cc
