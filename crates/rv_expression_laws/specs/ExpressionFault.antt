-- The first token with which no expression goes on, and its code: what the token fails to be after
-- the tokens before it, by the grammar of Expression alone. One code at most fits: a reading
-- answers each that does (`wrong_token`).

use Rattle.std.specs.Prelude.{◌≡◌, ℕ, ◌≤◌, Bool, true, false, List, [], ◌∷◌, ◌++◌}
use Rattle.rv_expression_laws.specs.declared.punct.Punct.TheVariants.{DoubleSlash}
use Rattle.rv_expression_laws.specs.declared.operator.BinaryOperator.{BinaryOperator}
use Rattle.rv_expression_laws.specs.Grammar.{Kind, Punctuation, Bad_word, Bad_byte, Bad_token}
use Rattle.rv_expression_laws.specs.Lexing.{Token}
use Rattle.rv_expression_laws.specs.Codes.{bad_byte, bad_token, nesting_too_deep, bad_operands, unsupported_here}
use Rattle.rv_expression_laws.specs.Expression.{Primary, Tree, Begin, A_primary, A_prefix, An_opening, No_operand, begins, An_operator, A_closing, A_comparison, Nothing_more, follows, SpellsTree, IsAt, nesting, deepest}

-- an expression begins with these tokens
abbrev pub Begins : (List ℕ → Bool) → List Token → Type 0
Begins is_register front =
    (more : List Token) × (tree : Tree) × SpellsTree is_register tree (front ++ more)
    × IsAt 0 tree × (nesting tree ≤ deepest)

-- an operand is wanted after them: each value may be the next token
abbrev pub WantsOperand : (List ℕ → Bool) → List Token → Type 0
WantsOperand is_register front =
    (t : Token) (p : Primary) → begins is_register t.kind ≡ A_primary p
    → Begins is_register (front ++ t ∷ [])

-- an operand ends them: each operator between two operands may be the next token
abbrev pub HasOperand : (List ℕ → Bool) → List Token → Type 0
HasOperand is_register front =
    (t : Token) (o : BinaryOperator) → follows t.kind ≡ An_operator o
    → Begins is_register (front ++ t ∷ [])

-- and a parenthesis is still open: its other may be the next token
abbrev pub IsOpen : (List ℕ → Bool) → List Token → Type 0
IsOpen is_register front =
    (t : Token) → follows t.kind ≡ A_closing → Begins is_register (front ++ t ∷ [])

-- what nests the operand that it begins
abbrev pub nests_more : Begin → Bool
nests_more (A_prefix o) = true
nests_more An_opening = true
nests_more _ = false

-- the code of a token that stands where an open parenthesis wants its other
abbrev pub unclosed : Kind → ℕ
unclosed Bad_byte = bad_byte
unclosed Bad_token = bad_token
unclosed (Bad_word word) = bad_token
unclosed (Punctuation DoubleSlash) = unsupported_here
unclosed _ = bad_operands

-- an expression begins with the tokens at the front, and none goes on with the one after them,
-- whose code this is
pub data FailsAt (is_register : List ℕ → Bool) (front : List Token) (at : Token)
    : ℕ → Type 0 where
  -- an operand is wanted, and the token begins none
  Is_no_operand : (code : ℕ) → WantsOperand is_register front
      → begins is_register at.kind ≡ No_operand code → FailsAt is_register front at code
  -- an operand is wanted, and the token begins one; but it nests deeper than an expression may, so
  -- none begins with it too
  Nests_too_deep : WantsOperand is_register front
      → nests_more (begins is_register at.kind) ≡ true
      → (Begins is_register (front ++ at ∷ []) → ⊥)
      → FailsAt is_register front at nesting_too_deep
  -- after an operand it compares
  Compares : HasOperand is_register front → follows at.kind ≡ A_comparison
      → FailsAt is_register front at unsupported_here
  -- a parenthesis is open, and after an operand the token neither goes on nor closes
  Leaves_open : IsOpen is_register front → follows at.kind ≡ Nothing_more
      → FailsAt is_register front at (unclosed at.kind)
