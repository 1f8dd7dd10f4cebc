-- The first byte past its line's limit, as a function.

use Rattle.std.specs.Prelude.{ℕ, ◌+◌, ◌==◌, List, [], ◌∷◌, Option, Some, None, if◌then◌else◌}
use Rattle.rv_parse_laws.specs.Reading.{longest_line}

-- the place of the first byte past the limit of its line, where the bytes stand at this place, and
-- this many of their line's bytes before them
abbrev pub past_line : ℕ → ℕ → List ℕ → Option ℕ
past_line place before [] = None
past_line place before (b ∷ bs) =
    if b == 10 then past_line (place + 1) 0 bs
    else (if before == longest_line then Some place else past_line (place + 1) (before + 1) bs)
