-- How names stand, by a table of those that are wanted or defined.

use Rattle.std.specs.Prelude.{◌≡◌, ℕ, Bool, true, false, List, Option, Some, None}
use Rattle.std.specs.Borrow.{Bor}
use Rattle.std.specs.BTreeMap.{get_by}
use Rattle.std.specs.Cmp.Lexicographic.{slice_cmp}
use Rattle.std.specs.Ordering.{nat_cmp}
use Rattle.rv_inputs.specs.declared.standings.Standings.{Standings}

-- what the table has for a name: whether it is defined, if it is that or wanted
abbrev pub standing : Bool → Bool → Option Bool
standing true wanted = Some true
standing false true = Some false
standing false false = None

abbrev pub StandBy : Standings → (List ℕ → Bool) → (List ℕ → Bool) → Type 0
StandBy s given wanted =
    (q : List ℕ) → get_by (λ (k : Bor (List ℕ)). slice_cmp nat_cmp q k.now) s.by_name
    ≡ standing (given q) (wanted q)
