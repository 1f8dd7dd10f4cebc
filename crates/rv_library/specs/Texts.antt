-- Texts that come one after the other, with the length of each.

use Rattle.std.specs.Prelude.{ℕ, nat_le, if◌then◌else◌, List, [], ◌∷◌, length, take, drop, Option, Some, None, option_map}

-- the texts of these lengths that the bytes are; none where there are more bytes or fewer
abbrev pub texts_by_lengths : (lengths bytes : List ℕ) → Option (List (List ℕ))
texts_by_lengths [] [] = Some []
texts_by_lengths [] (b ∷ bytes) = None
texts_by_lengths (n ∷ lengths) bytes =
    if nat_le n (length bytes)
    then option_map (λ texts. take n bytes ∷ texts) (texts_by_lengths lengths (drop n bytes))
    else None
