-- A token that is wrong where it stands, and what a reading at the front of tokens answers.

use Rattle.std.specs.Prelude.{ℕ, ◌+◌, Bool, false, ◌&&◌, ◌==◌, nat_lt, List, length, Result, if◌then◌else◌}
use Rattle.rv_expression_laws.specs.Codes.{bad_operands, limit}
use Rattle.rv_expression_laws.specs.Grammar.{Kind, Name}
use Rattle.rv_expression_laws.specs.Lexing.{Token}

-- the longest name, in bytes
abbrev pub longest_name : ℕ
longest_name = 4095

-- a name that is longer than a symbol's
abbrev pub is_long : Kind → Bool
is_long (Name name) = nat_lt longest_name (length name)
is_long _ = false

-- the offset of a token's fault: of its first byte, but a name's limit at the first byte past it
unfoldable pub fault_offset : Token → ℕ → ℕ
fault_offset t code = if (code == limit) && is_long t.kind then t.start + longest_name else t.start

-- a token that is wrong where it stands: the offset of the fault in bytes, its line and its code
pub record SyntaxError : Type 0 where
  pub offset : ℕ
  pub line : ℕ
  pub code : ℕ

abbrev pub wrong : Token → ℕ → SyntaxError
wrong t code = record { offset = fault_offset t code; line = t.line; code = code }

-- what is read at the front, and the tokens after it
abbrev pub Read : Type 0 → Type 0
Read X = Result (X × List Token) SyntaxError

-- no tokens are left: each list of tokens has a last one, so this is never read
abbrev pub nowhere : SyntaxError
nowhere = record { offset = 0; line = 0; code = bad_operands }
