-- Pieces in order: which end by an offset.

use Rattle.std.proofs.Common.{◌≡◌, ℕ, zero, suc, ◌+◌, ◌-◌, ◌<◌, ◌≤◌, Bool, true, nat_le, List, [], ◌∷◌, length, slice_index_or, arith}
use Rattle.std.specs.List.Sorted.{IsPartitionedBy}
use Rattle.std.proofs.lemmas.Bool.{leb-true, le-leb}
use Rattle.rv_shorten.specs.Pieces.{are_pieces}
use Rattle.rv_shorten.proofs.PiecedLemmas.{rest, after}
use Rattle.rv_relax.specs.Pieces.{Piece}

-- what a slice has past its end
abbrev pub no_piece : Piece
no_piece = record { place = 0; gone = 0; full = 0; left = 0; detail = tt }

-- their ends rise as their places do
ends_after : (stop past : ℕ) (ps : List Piece) → are_pieces stop past ps ≡ true → (j : ℕ) (d : Piece) → j < length ps → stop ≤ (slice_index_or ps j d).place + (slice_index_or ps j d).full
ends_after stop past ps h j d inside = let later = after stop past ps j d h inside in omega arith

ends_rising : (stop past : ℕ) (ps : List Piece) → are_pieces stop past ps ≡ true → (i j : ℕ) (d : Piece) → i ≤ j → j < length ps
    → (slice_index_or ps i d).place + (slice_index_or ps i d).full ≤ (slice_index_or ps j d).place + (slice_index_or ps j d).full
ends_rising stop past [] h i j d le inside = absurd (omega arith)
ends_rising stop past (p ∷ ps) h zero zero d le inside = omega arith
ends_rising stop past (p ∷ ps) h zero (suc j) d le inside = ends_after (p.place + p.full) (past + (p.full - p.left)) ps (rest stop past p ps h) j d (omega arith)
ends_rising stop past (p ∷ ps) h (suc i) zero d le inside = absurd (omega arith)
ends_rising stop past (p ∷ ps) h (suc i) (suc j) d le inside = ends_rising (p.place + p.full) (past + (p.full - p.left)) ps (rest stop past p ps h) i j d (omega arith) (omega arith)

pub ends_partitioned : (o : ℕ) (ps : List Piece) → are_pieces 0 0 ps ≡ true → IsPartitionedBy (λ (p : Piece). nat_le (p.place + p.full) o) ps
ends_partitioned o ps h = λ i j d le inside test.
    let low = ends_rising 0 0 ps h i j d le inside in
    let high = leb-true ((slice_index_or ps j d).place + (slice_index_or ps j d).full) o test in
    le-leb ((slice_index_or ps i d).place + (slice_index_or ps i d).full) o (omega arith)

-- ---- whether each is as long as it has to be

abbrev pub fits : Piece → Bool
fits p = nat_le p.left p.full
