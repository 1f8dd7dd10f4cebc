-- What is taken from the end of a list that was reversed is next in that list.

use Rattle.std.proofs.Common.{◌≡◌, ℕ, ◌+◌, ◌<◌, List, [], ◌∷◌, ◌++◌, length, map, drop, reverse, get_or, sym, ap, ◌∙◌}
use Rattle.std.proofs.lemmas.List.{drop_more, reverse-append}
use Rattle.rv_list_laws.proofs.MapLemmas.{drop_map_or}

module _ {X : Type 0} (xs left rest : List X) (i : ℕ) (x : X) (inside : i < length xs) (reversed : reverse left ≡ drop i xs) (taken : left ≡ rest ++ x ∷ []) where
  both : x ∷ reverse rest ≡ get_or xs i x ∷ drop (i + 1) xs
  both = sym (reverse-append rest (x ∷ [])) ∙ ap reverse (sym taken) ∙ reversed ∙ drop_more xs i x inside

  same : x ≡ get_or xs i x
  same = cc (both)

  pub rest_is : reverse rest ≡ drop (i + 1) xs
  rest_is = cc (both)

  pub next_is : drop i xs ≡ x ∷ drop (i + 1) xs
  next_is = drop_more xs i x inside ∙ ap (λ y. y ∷ drop (i + 1) xs) (sym same)

  pub mapped_next : {Y : Type 0} (f : X → Y) → drop i (map f xs) ≡ f x ∷ drop (i + 1) (map f xs)
  mapped_next f = drop_map_or f xs i x inside ∙ ap (λ y. f y ∷ drop (i + 1) (map f xs)) (sym same)
