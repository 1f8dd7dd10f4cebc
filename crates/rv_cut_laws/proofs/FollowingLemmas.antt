-- What moves keep: how many bytes, and the fields that they do not meet.

use Rattle.std.proofs.Common.{◌≡◌, ◌⊎◌, inl, inr, ℕ, ◌+◌, ◌-◌, ◌≤◌, List, [], ◌∷◌, ◌++◌, length, take, drop, min, arith, refl}
use Rattle.std.proofs.lemmas.List.{length-append, length-take, length-drop}
use Rattle.std.specs.List.{AllByRecursion}
use Rattle.rv_link_laws.specs.Moves.{Move, dropped, new_offset, kept}

-- moves one after another, from an offset up to a size, each with room for what is left of it
abbrev pub Follow : ℕ → List Move → ℕ → Type 0
Follow at [] size = at ≤ size
Follow at (m ∷ ms) size = (at ≤ m.place) × (length m.text ≤ m.full) × Follow (m.place + m.full) ms size

pub follow_ends : (ms : List Move) (at size : ℕ) → Follow at ms size → at ≤ size
follow_ends [] at size h = h
follow_ends (m ∷ ms) at size (here, room, rest) = omega (arith, follow_ends ms (m.place + m.full) size rest)

-- no more is dropped before an offset than stands there
pub dropped_most : (ms : List Move) (at size old : ℕ) → Follow at ms size → dropped ms old ≤ old - at
dropped_most [] at size old h = omega arith
dropped_most (m ∷ ms) at size old (here, room, rest) = omega (arith, dropped_most ms (m.place + m.full) size old rest)

-- what is kept of the bytes from an offset on
pub kept_length : (ms : List Move) (at size : ℕ) (bytes : List ℕ) → Follow at ms size → at + length bytes ≡ size
    → length (kept at ms bytes) + dropped ms size ≡ length bytes
kept_length [] at size bytes h e = omega arith
kept_length (m ∷ ms) at size bytes (here, room, rest) e =
    let next = m.place + m.full in
    let left = drop (next - at) bytes in
    let ends : next ≤ size = follow_ends ms next size rest in
    let fewer : length left ≡ length bytes - (next - at) = length-drop (next - at) bytes in
    let there : next + length left ≡ size = omega arith in
    let more : length (kept next ms left) + dropped ms size ≡ length left = kept_length ms next size left rest there in
    let front : length (take (m.place - at) bytes) ≡ min (m.place - at) (length bytes) = length-take (m.place - at) bytes in
    let one : length (take (m.place - at) bytes ++ (m.text ++ kept next ms left)) ≡ length (take (m.place - at) bytes) + length (m.text ++ kept next ms left) = length-append (take (m.place - at) bytes) (m.text ++ kept next ms left) in
    let two : length (m.text ++ kept next ms left) ≡ length m.text + length (kept next ms left) = length-append m.text (kept next ms left) in
    omega arith

-- as many bytes are kept as the size becomes
pub kept_size : (ms : List Move) (bytes : List ℕ) → Follow 0 ms (length bytes) → length (kept 0 ms bytes) ≡ new_offset ms (length bytes)
kept_size ms bytes h = omega (arith, kept_length ms 0 (length bytes) bytes h (omega arith))

-- an offset that is later moves no further back than a former one
pub dropped_steady : (ms : List Move) (at size x y : ℕ) → Follow at ms size → x ≤ y → dropped ms y ≤ dropped ms x + (y - x)
dropped_steady [] at size x y h e = omega arith
dropped_steady (m ∷ ms) at size x y (here, room, rest) e =
    omega (arith, dropped_steady ms (m.place + m.full) size x y rest e, dropped_most ms (m.place + m.full) size x rest, dropped_most ms (m.place + m.full) size y rest)

-- a field before or after a move
abbrev pub Clears : ℕ → ℕ → Move → Type 0
Clears place width m = (place + width ≤ m.place) ⊎ (m.place + m.full ≤ place)

-- as much is dropped before a field as before its end
pub dropped_over : (ms : List Move) (at size place width : ℕ) → Follow at ms size → AllByRecursion (Clears place width) ms
    → dropped ms (place + width) ≡ dropped ms place
dropped_over [] at size place width h clear = refl
dropped_over (m ∷ ms) at size place width (here, room, rest) (inl before, clear) =
    omega (arith, dropped_over ms (m.place + m.full) size place width rest clear)
dropped_over (m ∷ ms) at size place width (here, room, rest) (inr after, clear) =
    omega (arith, dropped_over ms (m.place + m.full) size place width rest clear)

-- a field that clears the moves lies in what is kept
pub field_inside : (ms : List Move) (size place width : ℕ) → Follow 0 ms size → AllByRecursion (Clears place width) ms
    → place + width ≤ size → new_offset ms place + width ≤ new_offset ms size
field_inside ms size place width h clear inside =
    omega (arith, dropped_over ms 0 size place width h clear, dropped_steady ms 0 size (place + width) size h inside, dropped_most ms 0 size place h)
