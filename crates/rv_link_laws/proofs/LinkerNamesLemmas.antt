-- The linker's names, one after the other.

use Rattle.std.proofs.Common.{◌≡◌, ℕ, Bool, true, false, cond, Some, option_map, List, [], ◌∷◌, map, is_some, refl, sym, ap, ◌∙◌}
use Rattle.std.specs.Prelude.{◌||◌, bytes_eq}
use Rattle.std.specs.List.{find}
use Rattle.rv_list_laws.proofs.ElementsLemmas.{bytes_eq_swap}
use Rattle.rv_map_laws.specs.Globals.{global_address, is_one_of}
use Rattle.rv_map_laws.specs.Map.{Global}

-- a test of the code, of a name and a constant
pub tested : (name text constant : List ℕ) (test b : Bool) → text ≡ constant → test ≡ bytes_eq name text → test ≡ b → bytes_eq constant name ≡ b
tested name text constant test b is same outcome = bytes_eq_swap constant name ∙ ap (bytes_eq name) (sym is) ∙ sym same ∙ outcome

pub passed_over : (l : Global) (ls : List Global) (name : List ℕ) → bytes_eq l.name name ≡ false → global_address (l ∷ ls) name ≡ global_address ls name
passed_over l ls name e = ap (λ c. option_map (λ (q : Global). q.address) (cond c (Some l) (find (λ (q : Global). bytes_eq q.name name) ls))) e

pub other : (n : List ℕ) (ns : List (List ℕ)) (name : List ℕ) → bytes_eq n name ≡ false → is_one_of (n ∷ ns) name ≡ is_one_of ns name
other n ns name e = ap (λ b. b || is_one_of ns name) e

pub only : (n name : List ℕ) → is_one_of (n ∷ []) name ≡ bytes_eq n name
only n name = by (bytes_eq n name)
  where
    by : (b : Bool) → (b || false) ≡ b
    by true = refl
    by false = refl

-- a name has an address among globals where it is one of theirs
pub some_address : (ls : List Global) (name : List ℕ) → is_some (global_address ls name) ≡ is_one_of (map (λ (q : Global). q.name) ls) name
some_address [] name = refl
some_address (l ∷ ls) name = by (bytes_eq l.name name) (some_address ls name)
  where
    by : (b : Bool) → is_some (global_address ls name) ≡ is_one_of (map (λ (q : Global). q.name) ls) name
        → is_some (option_map (λ (q : Global). q.address) (cond b (Some l) (find (λ (q : Global). bytes_eq q.name name) ls))) ≡ (b || is_one_of (map (λ (q : Global). q.name) ls) name)
    by true rest = refl
    by false rest = rest
