-- Where the parts of a text stand, how far one is from another, and which distances a jump reaches
-- (ISA manual, "Unconditional Jumps", "Conditional Branches" and "Compressed Control Transfer
-- Instructions").

use Rattle.std.specs.Prelude.{◌≡◌, ℕ, ◌+◌, ◌*◌, ◌%◌, ◌≤◌, List, take, drop, slice_index, sum, ℤ, pos, ◌+ℤ◌, ◌-ℤ◌, neg_ℤ, ◌≤ℤ◌, ◌<ℤ◌, unsigned_abs}

-- A family gives each part its bytes, in the order of the parts. Past its end a part has none.

-- the bytes before a part
abbrev pub offset : List ℕ → ℕ → ℕ
offset sizes i = sum (take i sizes)

-- the bytes of a part and of all behind it
abbrev pub rest : List ℕ → ℕ → ℕ
rest sizes i = sum (drop i sizes)

-- from one part to another, negative where that stands before it
abbrev pub distance : List ℕ → ℕ → ℕ → ℤ
distance sizes from to = pos (offset sizes to) -ℤ pos (offset sizes from)

-- part by part
abbrev pub AtMost : List ℕ → List ℕ → Type 0
AtMost small large = (i : ℕ) → slice_index small i ≤ slice_index large i

-- larger by an even number, or the same
abbrev pub GrowsEvenly : ℕ → ℕ → Type 0
GrowsEvenly small large = (m : ℕ) × (large ≡ small + 2 * m)

-- part by part
abbrev pub AllGrowEvenly : List ℕ → List ℕ → Type 0
AllGrowEvenly small large = (i : ℕ) → GrowsEvenly (slice_index small i) (slice_index large i)

abbrev pub IsEven : ℤ → Type 0
IsEven z = unsigned_abs z % 2 ≡ 0

-- what a jump's immediate can be: even, from -half on, below half
pub record IsImmediate (half : ℕ) (z : ℤ) : Type 0 where
  pub even : IsEven z
  pub low : neg_ℤ (pos half) ≤ℤ z
  pub high : z <ℤ pos half

-- a form reaches where the constant added to its target is an immediate by itself, and with the
-- distance
pub record Reaches (half : ℕ) (addend : ℤ) (away : ℤ) : Type 0 where
  pub alone : IsImmediate half addend
  pub added : IsImmediate half (away +ℤ addend)
