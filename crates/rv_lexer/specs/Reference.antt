-- The word of a reference to a numeric label: its digits, and which label it means.

use Rattle.std.specs.Prelude.{ℕ, ◌-◌, Bool, ◌==◌, List, length, take, slice_index}

-- all but the letter at the end
abbrev pub digits_in : List ℕ → List ℕ
digits_in word = take (length word - 1) word

-- the letter is `f`: the label comes after
abbrev pub is_ahead : List ℕ → Bool
is_ahead word = slice_index word (length word - 1) == 102
