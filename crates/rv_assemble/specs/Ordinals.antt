-- For which of its statements a source is refused: where each has a line of its own, the line of the
-- fault tells it.

use Rattle.std.specs.Prelude.{◌≡◌, ℕ, suc, ◌+◌, List, [], ◌∷◌, Some, slice_get}
use Rattle.rv_statement_laws.specs.Statement.{Statement}
use Rattle.rv_assemble_laws.specs.Refusals.{IsStatementsFault}

-- statements from an ordinal on, each with its ordinal as its line
abbrev pub by_ordinal_from : ℕ → List Statement → List Statement
by_ordinal_from ordinal [] = []
by_ordinal_from ordinal (s ∷ ss) =
    record { line = ordinal; kind = s.kind } ∷ by_ordinal_from (suc ordinal) ss

abbrev pub by_ordinal : List Statement → List Statement
by_ordinal ss = by_ordinal_from 1 ss

abbrev pub line_of : Statement → ℕ
line_of s = s.line

-- the statement of this ordinal, from 1, is at this line
pub record IsAtLine (ss : List Statement) (ordinal line : ℕ) : Type 0 where
  pub index : ℕ
  pub statement : Statement
  pub got : slice_get ss index ≡ Some statement
  pub ordinal_is : ordinal ≡ index + 1
  pub line_is : line ≡ statement.line

-- a source of these statements is refused for the one of this ordinal, at this line, by this code
pub record IsRefusedFor (ss : List Statement) (code ordinal line : ℕ) : Type 0 where
  pub at : IsAtLine ss ordinal line
  pub fault : IsStatementsFault ss (record { code = code; line = line })
  pub alone : IsStatementsFault (by_ordinal ss) (record { code = code; line = ordinal })
