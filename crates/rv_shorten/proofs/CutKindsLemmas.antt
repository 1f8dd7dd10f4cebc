-- The cut at a place, found where the places before it end.

use Rattle.std.proofs.Common.{◌≡◌, ℕ, zero, suc, ◌<◌, ◌≤◌, ◌≢◌, ◌⊎◌, inl, inr, nat_lt, Bool, true, false, cond, List, [], ◌∷◌, Option, Some, None, length, map, slice_index_or, refl, sym, ap, ◌∙◌, arith}
use Rattle.std.specs.Prelude.{◌==◌}
use Rattle.std.specs.List.{AllWithin}
use Rattle.std.proofs.lemmas.Bool.{eq-eqb, ne_eqb, ltb-true, ltb-false}
use Rattle.rv_isa.specs.declared.kind.Kind.{Kind}
use Rattle.rv_isa.specs.declared.kind.Kind.TheVariants as kinds
use Rattle.rv_link_laws.specs.Moves.{Move}
use Rattle.rv_shorten.specs.Cut.{Cut, move_of, are_in_order}
use Rattle.rv_cut_laws.specs.Cutting.{cut_at, kind_left}
use Rattle.rv_shorten.proofs.OrderLemmas.{length_left, as_pieces}
use Rattle.rv_shorten.proofs.PiecedLemmas.{rising}

-- none where all places differ
pub none_at : (place : ℕ) (cs : List Cut) → ((k : ℕ) (d : Cut) → k < length cs → (slice_index_or cs k d).place ≢ place) → cut_at (map move_of cs) place ≡ None
none_at place [] h = refl
none_at place (c ∷ cs) h =
    ap (λ b. cond b (Some (move_of c)) (cut_at (map move_of cs) place)) (ne_eqb c.place place (h 0 c (omega arith)))
    ∙ none_at place cs (λ k d inside. h (suc k) d (omega arith))

-- the first of this place
pub one_at : (place : ℕ) (cs : List Cut) (k : ℕ) (d : Cut) → k < length cs → AllWithin (λ (c : Cut). c.place < place) cs 0 k → (slice_index_or cs k d).place ≡ place
    → cut_at (map move_of cs) place ≡ Some (move_of (slice_index_or cs k d))
one_at place [] k d inside low is = absurd (omega arith)
one_at place (c ∷ cs) zero d inside low is = ap (λ b. cond b (Some (move_of c)) (cut_at (map move_of cs) place)) (eq-eqb c.place place is)
one_at place (c ∷ cs) (suc k) d inside low is =
    let before : c.place < place = low 0 c (omega arith) (omega arith) in
    let other : c.place ≢ place = omega arith in
    ap (λ b. cond b (Some (move_of c)) (cut_at (map move_of cs) place)) (ne_eqb c.place place other)
    ∙ one_at place cs k d (omega arith) (λ j e l r. low (suc j) e (omega arith) (omega arith)) is

-- the kind of what is left
pub kind_of_left : (kind : Kind) (c : Cut) → kind_left kind (Some (move_of c)) ≡ cond (c.left == 2) kinds.RvcJump kinds.Jal
kind_of_left kind c = ap (λ n. cond (n == 2) kinds.RvcJump kinds.Jal) (length_left c) ∙ by (c.left == 2)
  where
    by : (b : Bool) → cond (cond b 2 4 == 2) kinds.RvcJump kinds.Jal ≡ cond b kinds.RvcJump kinds.Jal
    by true = refl
    by false = refl

-- none of the places from an index on is one that stands before the first of them
pub absent : (place : ℕ) (cs : List Cut) (k : ℕ) → are_in_order 0 0 cs ≡ true → AllWithin (λ (c : Cut). c.place < place) cs 0 k
    → ((d : Cut) → k < length cs → place < (slice_index_or cs k d).place) → cut_at (map move_of cs) place ≡ None
absent place cs k order low high = none_at place cs (λ j d inside. by j d inside (nat_lt j k) (λ t. ltb-true j k t) (λ f. ltb-false j k f))
  where
    by : (j : ℕ) (d : Cut) → j < length cs → (b : Bool) → (b ≡ true → j < k) → (b ≡ false → k ≤ j) → (slice_index_or cs j d).place ≢ place
    by j d inside true before behind = let less = low j d (omega arith) (before refl) in λ (same : (slice_index_or cs j d).place ≡ place). omega arith
    by j d inside false before behind =
        let le : k ≤ j = behind refl in
        let more = high d (omega arith) in
        let rise = rising 0 0 cs (as_pieces 0 0 cs order) k j d le inside in
        λ (same : (slice_index_or cs j d).place ≡ place). omega arith

pub kept_kind : (kind : Kind) (b : Bool) (o : Option Move) → (b ≡ false) ⊎ (o ≡ None) → kind ≡ cond b (kind_left kind o) kind
kept_kind kind true o (inl is) = absurd (cc)
kept_kind kind true o (inr is) = sym (ap (kind_left kind) is)
kept_kind kind false o is = refl

pub left_kind : (kind : Kind) (b : Bool) (o : Option Move) (c : Cut) → b ≡ true → o ≡ Some (move_of c) → cond (c.left == 2) kinds.RvcJump kinds.Jal ≡ cond b (kind_left kind o) kind
left_kind kind true o c is at = sym (ap (kind_left kind) at ∙ kind_of_left kind c)
left_kind kind false o c is at = absurd (cc)

-- an index within a list leads to one element, whatever stands past the end
pub same_at : (cs : List Cut) (k : ℕ) (d e : Cut) → k < length cs → (slice_index_or cs k e).place ≡ (slice_index_or cs k d).place
same_at [] k d e inside = absurd (omega arith)
same_at (c ∷ cs) zero d e inside = refl
same_at (c ∷ cs) (suc k) d e inside = same_at cs k d e (omega arith)
