-- The padding at a place, found where the places before it end.

use Rattle.std.proofs.Common.{◌≡◌, ℕ, zero, suc, ◌+◌, ◌-◌, ◌<◌, ◌≤◌, ◌≢◌, nat_lt, Bool, true, false, cond, List, [], ◌∷◌, Some, length, map, slice_index_or, refl, sym, ap, ◌∙◌, arith}
use Rattle.std.specs.Prelude.{◌==◌}
use Rattle.std.specs.List.{AllWithin, find}
use Rattle.std.proofs.lemmas.Bool.{eq-eqb, ne_eqb, ltb-true, ltb-false}
use Rattle.rv_link_laws.specs.Moves.{Move}
use Rattle.rv_object_laws.proofs.NopsLemmas.{length_even}
use Rattle.rv_shorten.proofs.PiecedLemmas.{rising}
use Rattle.rv_relax.specs.Kept.{kept_bytes}
use Rattle.rv_relax.specs.Paddings.{move_of, are_in_order}
use Rattle.rv_relax.specs.Pieces.{Piece}
use Rattle.rv_relax.proofs.OrderLemmas.{as_pieces, first, rest}

abbrev pub at_place : ℕ → List Piece → ℕ
at_place place ps = kept_bytes (find (λ (m : Move). m.place == place) (map move_of ps))

one : (place n : ℕ) (p : Piece) (ps : List Piece) (b : Bool) → (p.place == place) ≡ b → cond b (kept_bytes (Some (move_of p))) (at_place place ps) ≡ n → at_place place (p ∷ ps) ≡ n
one place n p ps true e h = ap (λ b. kept_bytes (cond b (Some (move_of p)) (find (λ (m : Move). m.place == place) (map move_of ps)))) e ∙ h
one place n p ps false e h = ap (λ b. kept_bytes (cond b (Some (move_of p)) (find (λ (m : Move). m.place == place) (map move_of ps)))) e ∙ h

-- none where all places differ
none_at : (place : ℕ) (ps : List Piece) → ((k : ℕ) (d : Piece) → k < length ps → (slice_index_or ps k d).place ≢ place) → at_place place ps ≡ 0
none_at place [] h = refl
none_at place (p ∷ ps) h = one place 0 p ps false (ne_eqb p.place place (h 0 p (omega arith))) (none_at place ps (λ k d inside. h (suc k) d (omega arith)))

-- the first of this place
pub found_pad : (place stop past : ℕ) (ps : List Piece) (k : ℕ) (d : Piece) → are_in_order stop past ps ≡ true → k < length ps → AllWithin (λ (p : Piece). p.place < place) ps 0 k → (slice_index_or ps k d).place ≡ place
    → (slice_index_or ps k d).left ≡ at_place place ps
found_pad place stop past [] k d order inside low is = absurd (omega arith)
found_pad place stop past (p ∷ ps) zero d order inside low is =
    sym (one place p.left p ps true (eq-eqb p.place place is) (length_even p.left (first stop past p ps order).even))
found_pad place stop past (p ∷ ps) (suc k) d order inside low is =
    let before : p.place < place = low 0 p (omega arith) (omega arith) in
    let other : p.place ≢ place = omega arith in
    sym (one place (slice_index_or ps k d).left p ps false (ne_eqb p.place place other)
    (sym (found_pad place (p.place + p.full) (past + (p.full - p.left)) ps k d (rest stop past p ps order) (omega arith) (λ j e l r. low (suc j) e (omega arith) (omega arith)) is)))

-- none of the places from an index on is one that stands before the first of them
pub absent : (place : ℕ) (ps : List Piece) (k : ℕ) → are_in_order 0 0 ps ≡ true → AllWithin (λ (p : Piece). p.place < place) ps 0 k
    → ((d : Piece) → k < length ps → place < (slice_index_or ps k d).place) → 0 ≡ at_place place ps
absent place ps k order low high = sym (none_at place ps (λ j d inside. by j d inside (nat_lt j k) (λ t. ltb-true j k t) (λ f. ltb-false j k f)))
  where
    by : (j : ℕ) (d : Piece) → j < length ps → (b : Bool) → (b ≡ true → j < k) → (b ≡ false → k ≤ j) → (slice_index_or ps j d).place ≢ place
    by j d inside true before behind = let less = low j d (omega arith) (before refl) in λ (same : (slice_index_or ps j d).place ≡ place). omega arith
    by j d inside false before behind =
        let le : k ≤ j = behind refl in
        let more = high d (omega arith) in
        let rise = rising 0 0 ps (as_pieces 0 0 ps order) k j d le inside in
        λ (same : (slice_index_or ps j d).place ≡ place). omega arith

-- an index within a list leads to one element, whatever stands past the end
pub same_at : (ps : List Piece) (k : ℕ) (d e : Piece) → k < length ps → (slice_index_or ps k e).place ≡ (slice_index_or ps k d).place
same_at [] k d e inside = absurd (omega arith)
same_at (p ∷ ps) zero d e inside = refl
same_at (p ∷ ps) (suc k) d e inside = same_at ps k d e (omega arith)
