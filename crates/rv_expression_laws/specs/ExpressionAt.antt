-- The expression at the front of tokens, going over them once: where an expression stands there,
-- its nodes and the tokens after it (`expression_is`, `expression_found`: the definitions of
-- Expression leave room for one); else the first token with which no expression goes on, with its
-- code, as ExpressionFault has it (`taken_begins`, `wrong_token`).

use Rattle.std.specs.Prelude.{◌≡◌, ℕ, suc, Bool, true, false, nat_le, nat_lt, List, [], ◌∷◌, ◌++◌, Option, Some, None, Ok, Err, if◌then◌else◌}
use Rattle.rv_expression_laws.specs.declared.operator.Frame.{Frame}
use Rattle.rv_expression_laws.specs.declared.operator.Frame.TheVariants.{Parenthesis, Prefix, Infix}
use Rattle.rv_expression_laws.specs.Grammar.{Kind}
use Rattle.rv_expression_laws.specs.Lexing.{Token}
use Rattle.rv_expression_laws.specs.Codes.{nesting_too_deep, unsupported_here}
use Rattle.rv_expression_laws.specs.SyntaxError.{wrong, Read, nowhere}
use Rattle.rv_expression_laws.specs.Expression.{Begin, A_primary, A_prefix, An_opening, No_operand, begins, Follow, An_operator, A_closing, A_comparison, Nothing_more, follows, level_of, deepest, Node, Primary_node, Unary_node, Binary_node}
use Rattle.rv_expression_laws.specs.ExpressionFault.{unclosed}

-- what is read so far: what waits for an operand, the last one first, and the nodes; and whether an
-- operand comes next
pub data Stage : Type 0 where
  Wants : (frames : List Frame) (nodes : List Node) → Stage
  Has : (frames : List Frame) (nodes : List Node) → Stage

-- parentheses and operators of one operand
abbrev pub nests : Frame → Bool
nests Parenthesis = true
nests (Prefix o) = true
nests (Infix o) = false

-- how many are open
abbrev pub depth : List Frame → ℕ
depth [] = 0
depth (f ∷ fs) = if nests f then suc (depth fs) else depth fs

-- whether an operator takes the operand after it before an operator of this level does
abbrev pub binds : ℕ → Frame → Bool
binds level Parenthesis = false
binds level (Prefix o) = true
binds level (Infix o) = nat_le level (level_of o)

-- the node of an operator
abbrev pub node_of : Frame → List Node
node_of Parenthesis = []
node_of (Prefix o) = Unary_node o ∷ []
node_of (Infix o) = Binary_node o ∷ []

-- the operators that take the operand after them before one of this level does
abbrev pub settle : ℕ → List Frame → List Node → List Frame × List Node
settle level [] ns = ([], ns)
settle level (f ∷ fs) ns = if binds level f then settle level fs (ns ++ node_of f) else (f ∷ fs, ns)

-- what a token makes of a stage: another stage, the end of the expression before the token, or a
-- fault at it
pub data Step : Type 0 where
  Goes : (stage : Stage) → Step
  Ends : (nodes : List Node) → Step
  Fails : (code : ℕ) → Step

-- one level deeper, up to the limit
abbrev pub deeper : Frame → List Frame → List Node → Step
deeper f fs ns =
    if nat_lt (depth fs) deepest then Goes (Wants (f ∷ fs) ns) else Fails nesting_too_deep

abbrev pub step_wants : List Frame → List Node → Begin → Step
step_wants fs ns (A_primary p) = Goes (Has fs (ns ++ Primary_node p ∷ []))
step_wants fs ns (A_prefix o) = deeper (Prefix o) fs ns
step_wants fs ns An_opening = deeper Parenthesis fs ns
step_wants fs ns (No_operand code) = Fails code

-- after a `)`: it closes the last open parenthesis, or belongs to no expression
abbrev pub close : List Frame → List Node → Step
close [] ns = Ends ns
close (f ∷ fs) ns = Goes (Has fs ns)

-- a token that no expression goes on with, where this is its fault if a parenthesis is open
abbrev pub end : ℕ → List Frame → List Node → Step
end code [] ns = Ends ns
end code (f ∷ fs) ns = Fails code

abbrev pub step_has : Kind → List Frame → List Node → Follow → Step
step_has k fs ns (An_operator o) =
    let s = settle (level_of o) fs ns in Goes (Wants (Infix o ∷ s.0) s.1)
step_has k fs ns A_closing = let s = settle 0 fs ns in close s.0 s.1
step_has k fs ns A_comparison = Fails unsupported_here
step_has k fs ns Nothing_more = let s = settle 0 fs ns in end (unclosed k) s.0 s.1

abbrev pub step : (List ℕ → Bool) → Stage → Kind → Step
step is_register (Wants fs ns) k = step_wants fs ns (begins is_register k)
step is_register (Has fs ns) k = step_has k fs ns (follows k)

-- the nodes of the expression from a stage on
abbrev pub read_from : (List ℕ → Bool) → Stage → List Token → Read (List Node)
read_from is_register s [] = Err nowhere
read_from is_register s (t ∷ ts) = elim (step is_register s t.kind) [
  | Goes u ↦ read_from is_register u ts
  | Ends ns ↦ Ok (ns, t ∷ ts)
  | Fails code ↦ Err (wrong t code)
]

-- the expression at the front of tokens, in postfix form
unfoldable pub expression_at : (List ℕ → Bool) → List Token → Read (List Node)
expression_at is_register ts = read_from is_register (Wants [] []) ts

-- the stage after tokens that are taken one after the other
abbrev pub after_tokens : (List ℕ → Bool) → Stage → List Token → Option Stage
after_tokens is_register s [] = Some s
after_tokens is_register s (t ∷ ts) = elim (step is_register s t.kind) [
  | Goes u ↦ after_tokens is_register u ts
  | Ends ns ↦ None
  | Fails code ↦ None
]

-- the tokens are taken, and the expression of these nodes ends before the one after them
pub record EndsAt (is_register : List ℕ → Bool) (front : List Token) (at : Token)
    (nodes : List Node) : Type 0 where
  pub stage : Stage
  pub taken : after_tokens is_register (Wants [] []) front ≡ Some stage
  pub ends : step is_register stage at.kind ≡ Ends nodes
