-- Rows in the order of their ordinals: the last one that passes a test stands in front of those that fail it.

use Rattle.std.proofs.Common.{◌≡◌, ◌∙◌, ℕ, suc, ◌+◌, ◌<◌, ◌≤◌, Bool, true, false, List, [], ◌∷◌, ◌++◌, length, get_or, take, drop, reverse, ap, sym, append_assoc, nat_cmp, refl, arith}
use Rattle.std.specs.Prelude.{◌==◌, ◌&&◌, nat_lt}
use Rattle.std.specs.Ordering.{is_le}
use Rattle.std.specs.List.{find, IsAllAdjacentAnswer}
use Rattle.std.specs.List.Sorted.{IsNonDecreasingBy, IsPartitionPoint}
use Rattle.std.proofs.lemmas.List.Sorted.{IsNonDecreasingBy-from_all_adjacent}
use Rattle.std.proofs.lemmas.Map.Keys.{le_from_is_le}
use Rattle.std.proofs.lemmas.List.{reverse-append, get_or-drop, take-append-drop, length-drop}
use Rattle.rv_object_laws.specs.declared.row.Row.{Row}
use Rattle.rv_debug_laws.specs.Labels.{last_before, stands_before}
use Rattle.rv_labels.specs.Indices.{ordinal_of}

-- rows of which none passes
behind : (p : Row → Bool) (rows more : List Row) → ((i : ℕ) (d : Row) → i < length rows → p (get_or rows i d) ≡ false)
    → find p (reverse rows ++ more) ≡ find p more
behind p [] more none = refl
behind p (row ∷ rows) more none =
    ap (λ l. find p (l ++ more)) (reverse-append (row ∷ []) rows)
    ∙ ap (find p) (append_assoc (reverse rows) (row ∷ []) more)
    ∙ behind p rows (row ∷ more) (λ i d less. none (suc i) d (omega (arith, less)))
    ∙ rw (none 0 row (omega arith)) refl

in_front : (p : Row → Bool) (rows : List Row) (k : ℕ) → ((i : ℕ) (d : Row) → k ≤ i → i < length rows → p (get_or rows i d) ≡ false)
    → find p (reverse (take k rows)) ≡ find p (reverse rows)
in_front p rows k none =
    sym (behind p (drop k rows) (reverse (take k rows)) (λ i d less. ap p (get_or-drop k rows i d) ∙ none (k + i) d (omega arith) (omega (arith, less, length-drop k rows))))
    ∙ ap (find p) (sym (reverse-append (take k rows) (drop k rows)) ∙ ap reverse (take-append-drop k rows))

pub front_alone : (section ordinal : ℕ) (rows : List Row) (k : ℕ) → IsPartitionPoint (λ row. nat_lt row.ordinal ordinal ≡ true) (λ row. nat_lt row.ordinal ordinal ≡ false) rows k
    → last_before section ordinal (take k rows) ≡ last_before section ordinal rows
front_alone section ordinal rows k point = in_front (stands_before section ordinal) rows k (λ i d from less. failing (get_or rows i d) (point.1 i d from less))
  where
    failing : (row : Row) → nat_lt row.ordinal ordinal ≡ false → stands_before section ordinal row ≡ false
    failing row e = by (row.section == section) e
      where
        by : (b : Bool) → nat_lt row.ordinal ordinal ≡ false → (b && nat_lt row.ordinal ordinal) ≡ false
        by true f = f
        by false f = refl

-- rows that a test of neighbours finds in order
pub rising : (rows : List Row) (b : Bool) → IsAllAdjacentAnswer (λ x y t. t ≡ is_le (nat_cmp x.ordinal y.ordinal)) rows b → b ≡ true → IsNonDecreasingBy ordinal_of rows
rising rows true h e = IsNonDecreasingBy-from_all_adjacent ordinal_of rows (λ k d inside. le_from_is_le _ _ (sym (h k d inside)))
rising rows false h e = absurd (cc)
