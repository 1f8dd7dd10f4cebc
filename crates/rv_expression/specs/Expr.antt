-- What the expressions of the code stand for.

use Rattle.std.specs.Prelude.{◌≡◌, ℕ, Bool, true, false, List, [], ◌∷◌, reverse, Result, Ok, Err}
use Rattle.rv_expression_laws.specs.declared.operator.Frame.{Frame}
use Rattle.rv_expression_laws.specs.declared.operator.Frame.TheVariants.{Prefix, Infix}
use Rattle.rv_expression_laws.specs.declared.operator.UnaryOperator.TheVariants.{Negate}
use Rattle.rv_expression_laws.specs.Expression as expression
use Rattle.rv_expression_laws.specs.ExpressionAt as reading
use Rattle.rv_expression_laws.specs.Lexing.{Token}
use Rattle.rv_expression_laws.specs.SyntaxError as syntax
use Rattle.rv_expression.specs.declared.expr.Expr.{Expr}
use Rattle.rv_expression.specs.declared.expr.Expr.TheVariants as exprs
use Rattle.rv_expression.specs.declared.pair.Pair.{Pair}
use Rattle.rv_expression.specs.declared.pair.SymbolPair.{SymbolPair}
use Rattle.rv_expression.specs.declared.reading.Stage.{Stage}
use Rattle.rv_expression.specs.declared.reading.Stage.TheVariants as stages
use Rattle.rv_expression.specs.declared.reading.Step.{Step}
use Rattle.rv_expression.specs.declared.reading.Step.TheVariants as steps
use Rattle.rv_expression.specs.declared.reading.Stop.{Stop}
use Rattle.rv_expression.specs.declared.reading.Stop.TheVariants as stops
use Rattle.rv_fault.specs.declared.source_fault.SourceFault.{SourceFault}
use Rattle.rv_fault.specs.declared.source_fault.SourceFault.TheVariants as faults
use Rattle.rv_expression.specs.declared.reading.Begin.{Begin}
use Rattle.rv_expression.specs.declared.reading.Begin.TheVariants as begins
use Rattle.rv_expression.specs.declared.reading.Follow.{Follow}
use Rattle.rv_expression.specs.declared.reading.Follow.TheVariants as follows
use Rattle.rv_lexer.specs.declared.cursor.Cursor.{Cursor}
use Rattle.rv_lexer.specs.declared.syntax_error.ReadError.{ReadError}
use Rattle.rv_lexer.specs.declared.syntax_error.ReadError.TheVariants as errors
use Rattle.rv_fault.specs.SourceFault.{source_fault_number}
use Rattle.rv_lexer.specs.Token.{token_of}
use Rattle.rv_lexer.specs.Reference.{digits_in, is_ahead}
use Rattle.rv_lexer.specs.Cursor.{remaining, syntax_error_of, Answers}
use Rattle.rv_expression.specs.Nodes.{symbol_of, nodes_of, some_nodes}

abbrev pub begin_of : Begin → expression.Begin
begin_of (begins.Number number) = expression.A_primary (expression.Literal number)
begin_of (begins.Symbol symbol) = expression.A_primary (symbol_of symbol)
begin_of (begins.Prefix operator) = expression.A_prefix operator
begin_of begins.Opening = expression.An_opening
begin_of (begins.NoOperand code) = expression.No_operand (source_fault_number code)

abbrev pub follow_of : Follow → expression.Follow
follow_of (follows.Operator operator) = expression.An_operator operator
follow_of follows.Closing = expression.A_closing
follow_of follows.Comparison = expression.A_comparison
follow_of follows.Nothing = expression.Nothing_more

-- what waits, the last one first
unfoldable pub stack_of : List Frame → List Frame
stack_of items = reverse items

-- what is read so far, with what waits
abbrev pub stage_of : List Frame → Stage → reading.Stage
stage_of frames (stages.Wants e) = reading.Wants (stack_of frames) (some_nodes e)
stage_of frames (stages.Has e) = reading.Has (stack_of frames) (nodes_of e)

-- what a token makes of a stage, unless memory ran out
abbrev pub Steps : List Frame → Result Step Stop → reading.Step → Type 0
Steps frames (Ok (steps.Goes stage)) step = step ≡ reading.Goes (stage_of frames stage)
Steps frames (Ok (steps.Ends e)) step = step ≡ reading.Ends (nodes_of e)
Steps frames (Err (stops.Fault code)) step = step ≡ reading.Fails (source_fault_number code)
Steps frames (Err stops.OutOfMemory) step = Unit {0}

-- what a token is after an operand, where no expression goes on with it and no parenthesis is open
abbrev pub ends_operand : expression.Follow → Bool
ends_operand expression.Nothing_more = true
ends_operand expression.A_closing = true
ends_operand _ = false

-- the stages after an operand alone, after `-` and a number, and after a symbol, an operator and a
-- number
abbrev pub after_operand : expression.Primary → reading.Stage
after_operand p = reading.Has [] (expression.Primary_node p ∷ [])

abbrev pub after_negative : ℕ → reading.Stage
after_negative number =
    reading.Has (Prefix Negate ∷ []) (expression.Primary_node (expression.Literal number) ∷ [])

abbrev pub after_pair : Pair → reading.Stage
after_pair pair =
    reading.Has (Infix pair.operator ∷ [])
    (expression.Primary_node (symbol_of pair.symbol) ∷
    expression.Primary_node (expression.Literal pair.number) ∷ [])

-- the stage after a symbol, an operator and another symbol
abbrev pub after_two : SymbolPair → reading.Stage
after_two pair =
    reading.Has (Infix pair.operator ∷ [])
    (expression.Primary_node (symbol_of pair.left) ∷
    expression.Primary_node (symbol_of pair.right) ∷ [])

-- some tokens lead to this stage with these tokens left
abbrev pub Reached : (List ℕ → Bool) → reading.Stage → List Token → Type 0
Reached is_register stage ts =
    (all : List Token)
    × (reading.expression_at is_register all ≡ reading.read_from is_register stage ts)

-- a primary alone
abbrev pub lone_primary : expression.Primary → List expression.Node
lone_primary p = expression.Primary_node p ∷ []

-- a symbol, a number, and the operator on both
abbrev pub pair_nodes : Pair → List expression.Node
pair_nodes pair =
    expression.Primary_node (symbol_of pair.symbol) ∷
    expression.Primary_node (expression.Literal pair.number) ∷
    expression.Binary_node pair.operator ∷ []

-- two symbols and the operator on both
abbrev pub two_nodes : SymbolPair → List expression.Node
two_nodes pair =
    expression.Primary_node (symbol_of pair.left) ∷
    expression.Primary_node (symbol_of pair.right) ∷
    expression.Binary_node pair.operator ∷ []

-- the nodes of an expression
abbrev pub expr_of : Expr → List expression.Node
expr_of (exprs.Number number) = lone_primary (expression.Literal number)
expr_of (exprs.Name name) = lone_primary (expression.Symbol name.now)
expr_of exprs.Here = lone_primary expression.Here
expr_of (exprs.Reference r) =
    lone_primary (expression.Reference (digits_in r.word.now) (is_ahead r.word.now))
expr_of (exprs.Negative number) =
    expression.Primary_node (expression.Literal number) ∷ expression.Unary_node Negate ∷ []
expr_of (exprs.NamePair operator number name) =
    expression.Primary_node (expression.Symbol name.now) ∷
    expression.Primary_node (expression.Literal number) ∷
    expression.Binary_node operator ∷ []
expr_of (exprs.Pair pair) = pair_nodes pair.value
expr_of (exprs.SymbolPair pair) = two_nodes pair.value
expr_of (exprs.Compound compound) = nodes_of compound.value.nodes

-- what is read from a stage on, with the tokens that are left
abbrev pub ReadOn : (List ℕ → Bool) → reading.Stage → Cursor → Cursor → Result Expr ReadError →
    Type 0
ReadOn is_register stage old new result =
    Answers (λ e. (expr_of e, remaining new)) result
    (reading.read_from is_register stage (remaining old))

-- the cursor stands before the token that is wrong, unless memory ran out
abbrev pub IsAtNext : ReadError → Cursor → Type 0
IsAtNext (errors.At w) c =
    syntax_error_of w ≡ syntax.wrong (token_of c.next) (source_fault_number w.code)
IsAtNext errors.OutOfMemory c = Unit {0}

-- the expression, without parentheses
abbrev pub tree_of_expr : Expr → expression.Tree
tree_of_expr e = expression.tree_of (expr_of e)

-- the fault of a reading: the code and the line of its wrong token
abbrev pub NamesFault : {Y : Type 0} → SourceFault → Result Y syntax.SyntaxError → Type 0
NamesFault (faults.At code line) read =
    (w : syntax.SyntaxError) × (read ≡ Err w) × (w.code ≡ source_fault_number code)
    × (w.line ≡ line)
NamesFault faults.OutOfMemory read = Unit {0}

-- a fault stands only where the tokens begin with no expression
abbrev pub NoReading : SourceFault → (List ℕ → Bool) → List Token → Type 0
NoReading (faults.At code line) is_register ts =
    (tree : expression.Tree) (rest : List Token) → expression.ReadsTree is_register ts tree rest → ⊥
NoReading faults.OutOfMemory is_register ts = Unit {0}
