-- The first name that a function gives, element by element.

use Rattle.std.proofs.Common.{◌≡◌, ◌<◌, ◌+◌, ℕ, Option, Some, None, List, [], ◌∷◌, map, length, drop, get_or, refl, sym, ap, ◌∙◌}
use Rattle.std.specs.List.{AllByRecursion}
use Rattle.std.specs.Option.{option_or}
use Rattle.rv_list_laws.proofs.TakeDropLemmas.{drop_read}
use Rattle.rv_link_laws.specs.Undefined.{first_some}

module _ {X : Type 0} (f : X → Option (List ℕ)) where
  step : (x : X) (xs : List X) (n : Option (List ℕ)) → f x ≡ n → first_some f (x ∷ xs) ≡ option_or n (first_some f xs)
  step x xs n e = ap (λ r. option_or r (first_some f xs)) e

  -- of what is drop_read, where the next gives none, and where it gives one
  pub none_here : {D : Type 0} (view : D → X) (xs : List D) (i : ℕ) (x : D) → i < length xs → x ≡ get_or xs i x → f (view x) ≡ None
      → first_some f (map view (drop (i + 1) xs)) ≡ first_some f (map view (drop i xs))
  none_here view xs i x inside is none =
      sym (ap (λ l. first_some f (map view l)) (drop_read xs i x inside is) ∙ step (view x) (map view (drop (i + 1) xs)) None none)

  pub one_here : {D : Type 0} (view : D → X) (xs : List D) (i : ℕ) (x : D) (n : List ℕ) → i < length xs → x ≡ get_or xs i x → f (view x) ≡ Some n
      → Some n ≡ first_some f (map view (drop i xs))
  one_here view xs i x n inside is one =
      sym (ap (λ l. first_some f (map view l)) (drop_read xs i x inside is) ∙ step (view x) (map view (drop (i + 1) xs)) (Some n) one)

  -- where it is none, each gives none
  pub each_none : (xs : List X) → first_some f xs ≡ None → AllByRecursion (λ x. f x ≡ None) xs
  each_none [] e = tt
  each_none (x ∷ xs) e = by (f x) refl e (each_none xs)
    where
      by : (r : Option (List ℕ)) → f x ≡ r → option_or r (first_some f xs) ≡ None → (first_some f xs ≡ None → AllByRecursion (λ y. f y ≡ None) xs)
          → (f x ≡ None) × AllByRecursion (λ y. f y ≡ None) xs
      by None g h rest = (g, rest h)
      by (Some m) g h rest = absurd (cc)
