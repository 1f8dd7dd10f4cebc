-- Rows have one order alone.

use Rattle.std.proofs.Common.{◌≡◌, ℕ, zero, suc, ◌<◌, ◌≤◌, Bool, true, false, List, [], ◌∷◌, length, get_or, filter, is_lt, refl, sym, ap, ◌∙◌, inl, inr, suc-le-suc, zero-le}
use Rattle.std.specs.Prelude.{not, flat_map}
use Rattle.std.proofs.lemmas.Bool.{cond-true, cond-false, cases_Bool, and_parts, and_from, not-true, not_from_false}
use Rattle.std.specs.Cmp.{IsStrictWeakOrder, IsTotalOrder, nat_cmp_total, on_total, then_total}
use Rattle.std.specs.List.Sorted.{IsSortedBy, IsStableBy, ties}
use Rattle.std.proofs.lemmas.List.Sorted.{ranks_by, sorted_far}
use Rattle.rv_isa_laws.specs.Reader.{Reader}
use Rattle.rv_isa_laws.specs.Word.{Spells}
use Rattle.rv_parcel.specs.Parcel.{StandsFor}
use Rattle.rv_map_laws.specs.declared.map.Row.{Row}
use Rattle.rv_map_laws.specs.Map.{Map}
use Rattle.rv_image_laws.specs.Image.{Image}
use Rattle.rv_listing_laws.specs.Order.{compared, IsInOrder}
use Rattle.rv_listing_laws.specs.Listing.{row_text, IsListing}

module _ {X : Type 0} (lt : X → X → Bool) (o : IsStrictWeakOrder lt) where
  -- nothing is less than itself
  itself : (x : X) → lt x x ≡ false
  itself x = elim (cases_Bool (lt x x)) [ inl less ↦ o.one_way x x less | inr level ↦ level ]

  same_from : (x y : X) → lt x y ≡ false → lt y x ≡ false → ties lt x y ≡ true
  same_from x y h k = and_from (not (lt x y)) (not (lt y x)) (not_from_false (lt x y) h) (not_from_false (lt y x) k)

  same_parts : (x y : X) → ties lt x y ≡ true → (lt x y ≡ false) × (lt y x ≡ false)
  same_parts x y h =
      let parts = and_parts (not (lt x y)) (not (lt y x)) h in
      (not-true (lt x y) parts.0, not-true (lt y x) parts.1)

  kept : (p : X → Bool) (y : X) (ys : List X) → p y ≡ true → filter p (y ∷ ys) ≡ y ∷ filter p ys
  kept p y ys h = cond-true _ _ _ h

  dropped : (p : X → Bool) (y : X) (ys : List X) → p y ≡ false → filter p (y ∷ ys) ≡ filter p ys
  dropped p y ys h = cond-false _ _ _ h

  abbrev AreAtLeast : X → List X → Type 0
  AreAtLeast x [] = Unit {0}
  AreAtLeast x (y ∷ ys) = (lt y x ≡ false) × AreAtLeast x ys

  abbrev Rises : List X → Type 0
  Rises [] = Unit {0}
  Rises (y ∷ ys) = AreAtLeast y ys × Rises ys

  at_least_at : (x : X) (ys : List X) (d : X) → ((j : ℕ) → j < length ys → lt (get_or ys j d) x ≡ false) → AreAtLeast x ys
  at_least_at x [] d h = tt
  at_least_at x (y ∷ ys) d h = (h zero (suc-le-suc zero-le), at_least_at x ys d (λ j l. h (suc j) (suc-le-suc l)))

  rises_far : (ys : List X) → ((i j : ℕ) (d : X) → i ≤ j → j < length ys → lt (get_or ys j d) (get_or ys i d) ≡ false) → Rises ys
  rises_far [] h = tt
  rises_far (y ∷ ys) h = (
    at_least_at y ys y (λ j l. h zero (suc j) y zero-le (suc-le-suc l)),
    rises_far ys (λ i j d le l. h (suc i) (suc j) d (suc-le-suc le) (suc-le-suc l)),
  )

  rises_sorted : (ys : List X) → IsSortedBy lt ys → Rises ys
  rises_sorted ys h = rises_far ys (sorted_far lt o ys h)

  -- an element that ties with one of a list is at least what all of that list are
  at_least_found : (low x : X) (ys : List X) (w : X) (ws : List X) → AreAtLeast low ys → filter (ties lt x) ys ≡ w ∷ ws → lt x low ≡ false
  at_least_found low x [] w ws h e = absurd (cc)
  at_least_found low x (y ∷ ys) w ws h e = elim (cases_Bool (ties lt x y)) [
    | inl with ↦ o.chain x y low (same_parts x y with).0 h.0
    | inr without ↦ at_least_found low x ys w ws h.1 (sym (dropped (ties lt x) y ys without) ∙ e)
  ]

  one_alone : (ys zs : List X) → Rises ys → Rises zs → ((x : X) → filter (ties lt x) ys ≡ filter (ties lt x) zs) → ys ≡ zs
  one_alone [] [] left right each = refl
  one_alone [] (z ∷ zs) left right each =
      let clash = each z ∙ kept (ties lt z) z zs (same_from z z (itself z) (itself z)) in absurd (cc)
  one_alone (y ∷ ys) [] left right each =
      let clash = sym (each y) ∙ kept (ties lt y) y ys (same_from y y (itself y) (itself y)) in absurd (cc)
  one_alone (y ∷ ys) (z ∷ zs) left right each =
      let at_y = kept (ties lt y) y ys (same_from y y (itself y) (itself y)) in
      let at_z = kept (ties lt z) z zs (same_from z z (itself z) (itself z)) in
      let up = at_least_found z y (z ∷ zs) y _ (itself z, right.0) (sym (each y) ∙ at_y) in
      let down = at_least_found y z (y ∷ ys) z _ (itself y, left.0) (each z ∙ at_z) in
      let heads = sym at_y ∙ each y ∙ kept (ties lt y) z zs (same_from y z up down) in
      let head : y ≡ z = cc in
      let tails : (x : X) → filter (ties lt x) ys ≡ filter (ties lt x) zs =
      λ x. elim (cases_Bool (ties lt x y)) [
        | inl with ↦
            let both = sym (kept (ties lt x) y ys with) ∙ each x ∙ kept (ties lt x) z zs (ap (ties lt x) (sym head) ∙ with) in cc
        | inr without ↦
            sym (dropped (ties lt x) y ys without) ∙ each x ∙ dropped (ties lt x) z zs (ap (ties lt x) (sym head) ∙ without)
      ] in
      ap (λ w. w ∷ ys) head ∙ ap (λ l. z ∷ l) (one_alone ys zs left.1 right.1 tails)

  -- a list has one order
  pub one_order : (xs one other : List X) → IsSortedBy lt one → IsStableBy lt xs one → IsSortedBy lt other → IsStableBy lt xs other → one ≡ other
  one_order xs one other sorted stable sorted' stable' =
      one_alone one other (rises_sorted one sorted) (rises_sorted other sorted') (λ x. stable x ∙ sym (stable' x))

-- ---- rows

pub compared_total : IsTotalOrder compared
compared_total = then_total (then_total (on_total (λ (r : Row). r.address) nat_cmp_total) (on_total (λ (r : Row). r.file) nat_cmp_total)) (on_total (λ (r : Row). r.ordinal) nat_cmp_total)

compared_ranks : IsStrictWeakOrder (λ r q. is_lt (compared r q))
compared_ranks = ranks_by compared_total (λ (r : Row). r)

one_row_order : (rows one other : List Row) → IsInOrder rows one → IsInOrder rows other → one ≡ other
one_row_order rows one other a b = one_order (λ r q. is_lt (compared r q)) compared_ranks rows one other a.sorted a.stable b.sorted b.stable

pub one_listing : (reader : Reader Spells StandsFor) (image : Image) (m : Map) (text other : List ℕ) → IsListing reader image m text → IsListing reader image m other → text ≡ other
one_listing reader image m text other a b =
    a.shows ∙ ap (flat_map (row_text reader image.segments)) (one_row_order m.rows a.rows b.rows a.order b.order) ∙ sym b.shows
