-- How much the statements of a source are: no more than its text has room for (this project's
-- limits).

use Rattle.std.specs.Prelude.{ℕ, ◌+◌, ◌*◌, ◌≤◌, List, [], ◌∷◌, length}
use Rattle.rv_statement_laws.specs.Statement.{Statement}
use Rattle.rv_statement_laws.specs.Limits.{most_statements}
use Rattle.rv_parse_laws.specs.Reading.{longest_source}
use Rattle.rv_assemble_laws.specs.ShownNames.{said_names}

-- the bytes of names, and one more for each, as a table of strings has them (gABI, "String Table")
abbrev pub weight : List (List ℕ) → ℕ
weight [] = 0
weight (n ∷ ns) = 1 + (length n + weight ns)

-- those of all names that statements say
abbrev pub all_said : List Statement → ℕ
all_said [] = 0
all_said (s ∷ ss) = weight (said_names s.kind) + all_said ss

-- each name stands in the text as a token of its own
pub record AreSmall (ss : List Statement) : Type 0 where
  pub few : length ss ≤ most_statements
  pub names : all_said ss ≤ 2 * longest_source
