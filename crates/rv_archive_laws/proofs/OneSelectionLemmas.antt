-- That a link takes its objects in one way: each step is determined.

use Rattle.std.proofs.Common.{◌≡◌, ℕ, List, [], ◌∷◌, ◌++◌, Option, Some, None, refl, sym, ap, subst, ◌∙◌}
use Rattle.rv_archive_laws.specs.Taken.{Offer, ObjectNames, Position, front, behind_offer, next_offer, TakesFrom, Takes}

pub not_both : {X : Type 0} (o : Option X) (x : X) → o ≡ None → o ≡ Some x → ⊥
not_both o x none given = cc

pub one_value : {X : Type 0} (o : Option X) (x y : X) → o ≡ Some x → o ≡ Some y → x ≡ y
one_value o x y a b = cc

module _ (names_of : ℕ → ObjectNames) (wanted : List (List ℕ)) where
  one_way : (offers : List Offer) (at : Position) (taken xs ys : List ℕ)
      → TakesFrom names_of wanted offers at taken xs → TakesFrom names_of wanted offers at taken ys → xs ≡ ys
  one_way offers at taken [] [] s t = refl
  one_way offers at taken [] (y ∷ ys) s t = absurd (not_both (next_offer names_of wanted offers at taken) t.0 s t.1)
  one_way offers at taken (x ∷ xs) [] s t = absurd (not_both (next_offer names_of wanted offers at taken) s.0 t s.1)
  one_way offers at taken (x ∷ xs) (y ∷ ys) s t =
      let offer = one_value (next_offer names_of wanted offers at taken) s.0 t.0 s.1 t.1 in
      let same : x ≡ y = s.2 ∙ ap (λ (o : ℕ × Offer). o.1.object) offer ∙ sym t.2 in
      let there = subst (λ (o : ℕ × Offer). TakesFrom names_of wanted offers (behind_offer o) (taken ++ y ∷ []) ys) (sym offer) t.3 in
      let behind = subst (λ (z : ℕ). TakesFrom names_of wanted offers (behind_offer s.0) (taken ++ z ∷ []) ys) (sym same) there in
      let rest = one_way offers (behind_offer s.0) (taken ++ x ∷ []) xs ys s.3 behind in
      λ i. same i ∷ rest i

  pub one_selection : (offers : List Offer) (xs ys : List ℕ) → Takes names_of wanted offers xs → Takes names_of wanted offers ys → xs ≡ ys
  one_selection offers xs ys s t = one_way offers front [] xs ys s t
