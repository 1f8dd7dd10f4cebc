-- Where `.set` gives names first.

use Rattle.std.specs.Prelude.{◌≡◌, ℕ, min, Option, Some, None, List, [], ◌∷◌, if◌then◌else◌}
use Rattle.std.specs.Str.{bytes_eq}
use Rattle.std.specs.Borrow.{Bor}
use Rattle.std.specs.HashMap.{get_by}
use Rattle.rv_unit_laws.specs.Tables.{Assignment}
use Rattle.rv_symbols.specs.Indices.{NumbersByName}

abbrev pub least : ℕ → Option ℕ → ℕ
least n None = n
least n (Some m) = min n m

-- the lowest ordinal of a statement that gives a name
abbrev pub first_ordinal : List Assignment → List ℕ → Option ℕ
first_ordinal [] name = None
first_ordinal (s ∷ ss) name =
    if bytes_eq s.name name
    then Some (least s.ordinal (first_ordinal ss name))
    else first_ordinal ss name

-- the map has it for each name
abbrev pub AreFirsts : NumbersByName → List Assignment → Type 0
AreFirsts map assignments =
    (q : Bor (List ℕ)) → get_by (λ k. bytes_eq q.now k.now) map ≡ first_ordinal assignments q.now
