-- A name that stands twice, and names of which none does.

use Rattle.std.proofs.Common.{◌≡◌, ℕ, Bool, true, false, Some, None, List, [], ◌∷◌, ◌++◌, refl, sym, ap, ◌∙◌}
use Rattle.std.proofs.lemmas.Bool.{false_from_ne_true}
use Rattle.std.specs.Prelude.{◌||◌, if◌then◌else◌, bytes_eq}
use Rattle.std.proofs.lemmas.List.Folds.{list_any-append}
use Rattle.std.proofs.lemmas.Slice.Eq.{bytes_eq-Decides}
use Rattle.rv_list_laws.proofs.ElementsLemmas.{same_bytes}
use Rattle.rv_map_laws.specs.Globals.{is_one_of, AreDistinct}
use Rattle.rv_link_laws.specs.Exports.{first_again}

-- where none stands before it, none of the others is among them
others_apart : (others names : List (List ℕ)) → first_again others names ≡ None → (other : List ℕ) → is_one_of others other ≡ true → is_one_of names other ≡ false
others_apart others [] e other there = refl
others_apart others (name ∷ names) e other there =
    by (is_one_of others name) refl e
    (λ h. others_apart (others ++ name ∷ []) names h other (list_any-append (λ n. bytes_eq n other) others (name ∷ []) ∙ ap (λ b. b || is_one_of (name ∷ []) other) there))
  where
    by : (b : Bool) → is_one_of others name ≡ b → (if b then Some name else first_again (others ++ name ∷ []) names) ≡ None
        → (first_again (others ++ name ∷ []) names ≡ None → is_one_of names other ≡ false)
        → (bytes_eq name other || is_one_of names other) ≡ false
    by true f h rest = absurd (cc)
    by false f h rest =
        ap (λ b. b || is_one_of names other)
        (false_from_ne_true (bytes_eq name other) (λ same. let t : is_one_of others name ≡ true = ap (is_one_of others) (same_bytes name other same) ∙ there in let u : true ≡ false = sym t ∙ f in cc))
        ∙ rest h

-- and none stands twice
pub all_apart : (others names : List (List ℕ)) → first_again others names ≡ None → AreDistinct names
all_apart others [] e = tt
all_apart others (name ∷ names) e =
    by (is_one_of others name) refl e (all_apart (others ++ name ∷ []) names)
    (λ h. others_apart (others ++ name ∷ []) names h name
    (list_any-append (λ n. bytes_eq n name) others (name ∷ []) ∙ ap (λ b. is_one_of others name || (b || false)) ((bytes_eq-Decides name name).1 refl) ∙ last (is_one_of others name)))
  where
    last : (b : Bool) → (b || (true || false)) ≡ true
    last true = refl
    last false = refl

    by : (b : Bool) → is_one_of others name ≡ b → (if b then Some name else first_again (others ++ name ∷ []) names) ≡ None
        → (first_again (others ++ name ∷ []) names ≡ None → AreDistinct names)
        → (first_again (others ++ name ∷ []) names ≡ None → is_one_of names name ≡ false)
        → (is_one_of names name ≡ false) × AreDistinct names
    by true f h rest own = absurd (cc)
    by false f h rest own = (own h, rest h)
