-- Where the statements of a source begin.

use Rattle.std.specs.Prelude.{◌≡◌, ℕ, false, List, ◌∷◌, ◌++◌, length, Some, slice_get}
use Rattle.rv_expression_laws.specs.Lexing.{Token, Lexes}
use Rattle.rv_statement_laws.specs.Statement.{Statement}
use Rattle.rv_parse_laws.specs.Syntax.{is_end}
use Rattle.rv_parse_laws.specs.Refusals.{SaysUpTo}

-- the statement of this index, from 0, begins at this offset: there stands its first token, and the
-- tokens before that say the statements before it
pub record BeginsAt (ts : List Token) (ss : List Statement) (index offset : ℕ) : Type 0 where
  pub before : List Statement
  pub after : List Statement
  pub whole : ss ≡ before ++ after
  pub count : length before ≡ index
  pub first : Token
  pub rest : List Token
  pub says : SaysUpTo ts (first ∷ rest) before
  pub begins_one : is_end first.kind ≡ false
  pub place : first.start ≡ offset

-- each statement has its offset
pub record HaveOffsets (ts : List Token) (ss : List Statement) (offsets : List ℕ) : Type 0 where
  pub each : length offsets ≡ length ss
  pub begin : (index offset : ℕ) → slice_get offsets index ≡ Some offset →
      BeginsAt ts ss index offset

-- the bytes are read as these statements at these offsets
abbrev pub BeginIn : List ℕ → List Statement → List ℕ → Type 0
BeginIn bytes ss offsets = (ts : List Token) × Lexes bytes ts × HaveOffsets ts ss offsets
