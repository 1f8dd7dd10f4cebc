-- A stable sort of rows by their ordinals gives the one list in order.

use Rattle.std.proofs.Common.{◌≡◌, ℕ, Bool, true, false, cond, List, [], ◌∷◌, nat_cmp, nat_le, refl, sym, ap, ◌∙◌}
use Rattle.std.specs.Bool.{OnTrue}
use Rattle.std.specs.Ordering.{is_le}
use Rattle.std.specs.List.{list_all, IsAllAdjacentAnswer}
use Rattle.std.specs.List.Sorted.{IsNonDecreasingBy, IsStableByKey}
use Rattle.std.proofs.lemmas.List.Sorted.{IsNonDecreasingBy-from_all_adjacent}
use Rattle.std.proofs.lemmas.Map.Keys.{le_from_is_le}
use Rattle.rv_object_laws.specs.declared.row.Row.{Row}
use Rattle.rv_link_laws.specs.IsLinkOf.{inserted_row, by_ordinal}
use Rattle.rv_shorten.specs.declared.object.ShortObject.{ShortObject}
use Rattle.rv_link_sites.proofs.StableLemmas.{inserted_by, ordered_by, sorted_is, all_ordered as all_ordered_by}
use Rattle.rv_placement.specs.Moved.{moved_row, moved_rows}

abbrev pub ordinal : Row → ℕ
ordinal r = r.ordinal

-- ---- their order is that by a key

inserted_is : (r : Row) (qs : List Row) → inserted_row r qs ≡ inserted_by ordinal r qs
inserted_is r [] = refl
inserted_is r (q ∷ qs) = ap (λ l. cond (nat_le r.ordinal q.ordinal) (r ∷ q ∷ qs) (q ∷ l)) (inserted_is r qs)

ordered_is : (rs : List Row) → by_ordinal rs ≡ ordered_by ordinal rs
ordered_is [] = refl
ordered_is (r ∷ rs) = inserted_is r (by_ordinal rs) ∙ ap (inserted_by ordinal r) (ordered_is rs)

pub sorted_rows : (xs ys : List Row) → IsNonDecreasingBy ordinal ys → IsStableByKey ordinal nat_cmp xs ys → ys ≡ by_ordinal xs
sorted_rows xs ys sorted stable = sorted_is ordinal xs ys sorted stable ∙ sym (ordered_is xs)

-- rows that stand in it stay
pub ordered_rows : (rs : List Row) (b : Bool) → IsAllAdjacentAnswer (λ x y b. b ≡ is_le (nat_cmp x.ordinal y.ordinal)) rs b → OnTrue b (by_ordinal rs ≡ rs)
ordered_rows rs true h =
    sym (sorted_rows rs rs (IsNonDecreasingBy-from_all_adjacent ordinal rs (λ k d inside. le_from_is_le _ _ (sym (h k d inside)))) (λ x. refl))
ordered_rows rs false h = tt

pub all_ordered : (p : Row → Bool) (rs : List Row) → list_all p rs ≡ true → list_all p (by_ordinal rs) ≡ true
all_ordered p rs h = ap (list_all p) (ordered_is rs) ∙ all_ordered_by ordinal p rs h

-- ---- rows that have moved

-- they keep their ordinals
inserted_moved : (o : ShortObject) (r : Row) (qs : List Row) → inserted_row (moved_row o r) (moved_rows o qs) ≡ moved_rows o (inserted_row r qs)
inserted_moved o r [] = refl
inserted_moved o r (q ∷ qs) = by (nat_le r.ordinal q.ordinal) (inserted_moved o r qs)
  where
    by : (b : Bool) → inserted_row (moved_row o r) (moved_rows o qs) ≡ moved_rows o (inserted_row r qs)
        → cond b (moved_row o r ∷ moved_row o q ∷ moved_rows o qs) (moved_row o q ∷ inserted_row (moved_row o r) (moved_rows o qs)) ≡ moved_rows o (cond b (r ∷ q ∷ qs) (q ∷ inserted_row r qs))
    by true h = refl
    by false h = ap (λ l. moved_row o q ∷ l) h

ordered_moved : (o : ShortObject) (rs : List Row) → by_ordinal (moved_rows o rs) ≡ moved_rows o (by_ordinal rs)
ordered_moved o [] = refl
ordered_moved o (r ∷ rs) = ap (inserted_row (moved_row o r)) (ordered_moved o rs) ∙ inserted_moved o r (by_ordinal rs)

pub sorted_moved : (o : ShortObject) (own rows : List Row) → own ≡ by_ordinal rows → moved_rows o own ≡ by_ordinal (moved_rows o rows)
sorted_moved o own rows e = ap (moved_rows o) e ∙ sym (ordered_moved o rows)
