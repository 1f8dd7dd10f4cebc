-- Where no name stands twice, there is no first one that does.

use Rattle.std.proofs.Common.{◌≡◌, ℕ, Bool, true, false, Some, None, List, [], ◌∷◌, ◌++◌, refl, sym, ap, ◌∙◌}
use Rattle.std.specs.Prelude.{◌||◌, bytes_eq, if◌then◌else◌}
use Rattle.std.specs.List.{AllByRecursion}
use Rattle.std.proofs.lemmas.List.Folds.{list_any-append}
use Rattle.std.proofs.lemmas.Slice.Eq.{bytes_eq-Decides}
use Rattle.rv_map_laws.specs.Globals.{is_one_of, AreDistinct}
use Rattle.rv_object_laws.specs.Object.{Object}
use Rattle.rv_link_laws.specs.Names.{global_names}
use Rattle.rv_link_laws.specs.Exports.{first_again, first_duplicate}

-- none of these names is among others
abbrev AreNew : List (List ℕ) → List (List ℕ) → Type 0
AreNew others names = AllByRecursion (λ n. is_one_of others n ≡ false) names

still_new : (others : List (List ℕ)) (name : List ℕ) (names : List (List ℕ)) → AreNew others names → is_one_of names name ≡ false → AreNew (others ++ name ∷ []) names
still_new others name [] h e = tt
still_new others name (n ∷ names) (new, h) e =
    (list_any-append (λ x. bytes_eq x n) others (name ∷ []) ∙ ap (λ b. b || (bytes_eq name n || false)) new ∙ last (bytes_eq name n) refl, still_new others name names h (rest (bytes_eq n name) e))
  where
    rest : (b : Bool) → (b || is_one_of names name) ≡ false → is_one_of names name ≡ false
    rest true e = absurd (cc)
    rest false e = e

    first : (b : Bool) → (b || is_one_of names name) ≡ false → b ≡ false
    first true e = absurd (cc)
    first false e = refl

    last : (b : Bool) → bytes_eq name n ≡ b → (b || false) ≡ false
    last true same =
        let back : bytes_eq n name ≡ true = (bytes_eq-Decides n name).1 (sym ((bytes_eq-Decides name n).0 same)) in
        let t : true ≡ false = sym back ∙ first (bytes_eq n name) e in
        absurd (cc)
    last false same = refl

none_again : (others names : List (List ℕ)) → AreNew others names → AreDistinct names → first_again others names ≡ None
none_again others [] h d = refl
none_again others (name ∷ names) (new, h) (alone, d) =
    ap (λ b. if b then Some name else first_again (others ++ name ∷ []) names) new ∙ none_again (others ++ name ∷ []) names (still_new others name names h alone) d

all_new : (names : List (List ℕ)) → AreNew [] names
all_new [] = tt
all_new (name ∷ names) = (refl, all_new names)

pub no_duplicate : (os : List Object) → AreDistinct (global_names os) → first_duplicate os ≡ None
no_duplicate os d = none_again [] (global_names os) (all_new (global_names os)) d
