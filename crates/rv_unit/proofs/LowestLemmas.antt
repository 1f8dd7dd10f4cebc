-- The lowest of codes in two lists.

use Rattle.std.proofs.Common.{◌≡◌, refl, ℕ, List, [], ◌∷◌, ◌++◌, ap, ◌∙◌, arith}
use Rattle.std.specs.Prelude.{Option, Some, None, min}
use Rattle.rv_expression_laws.specs.Codes.{lowest}

-- the lower of what two lists have
abbrev pub lower_of : Option ℕ → Option ℕ → Option ℕ
lower_of None d = d
lower_of (Some c) None = Some c
lower_of (Some c) (Some d) = Some (min c d)

abbrev pub with_code : ℕ → Option ℕ → Option ℕ
with_code c found = elim found [
  | None ↦ Some c
  | Some d ↦ Some (min c d)
]

with_lower : (c : ℕ) (a b : Option ℕ) → with_code c (lower_of a b) ≡ lower_of (with_code c a) b
with_lower c None None = refl
with_lower c None (Some d) = refl
with_lower c (Some x) None = refl
with_lower c (Some x) (Some d) = ap Some (omega arith)

pub lowest_append : (cs ds : List ℕ) → lowest (cs ++ ds) ≡ lower_of (lowest cs) (lowest ds)
lowest_append [] ds = refl
lowest_append (c ∷ cs) ds = ap (with_code c) (lowest_append cs ds) ∙ with_lower c (lowest cs) (lowest ds)
