-- What the parser's types stand for.

use Rattle.rv_expression.specs.declared.expr.Expr.{Expr}
use Rattle.rv_expression.specs.Expr.{expr_of, tree_of_expr}
use Rattle.rv_expression.specs.Nodes.{are_numbers}
use Rattle.rv_parse_laws.specs.Syntax.{is_of_numbers}
use Rattle.rv_statement_laws.specs.Statement.{Expression, Operand, Register, Value, Applied, Target}
use Rattle.std.specs.Prelude.{◌≡◌, Bool, true, false, List, [], ◌∷◌, Option, Some, None}
use Rattle.rv_statement_laws.specs.declared.pseudo.Function.{Function}
use Rattle.rv_parse.specs.declared.value.Argument.{Argument}
use Rattle.rv_parse.specs.declared.access.Location.{Location}
use Rattle.rv_parse.specs.declared.access.Location.TheVariants as locations

-- an expression, or a function of one, as an operand
abbrev pub applied : Option Function → Expression → Operand
applied None e = Value e
applied (Some f) e = Applied f e

abbrev pub operand_of : Argument → Operand
operand_of a = applied a.function (tree_of_expr a.expression)

-- the nodes of an expression tell whether it has numbers alone
abbrev pub TellsNumbers : Expr → Type 0
TellsNumbers e = are_numbers (expr_of e) ≡ is_of_numbers (tree_of_expr e)

-- an expression as an operand
abbrev pub operand_of_value : Expr → Operand
operand_of_value e = Value (tree_of_expr e)

-- where a load or a store goes, and whether it is a target
abbrev pub location_of : Location → Bool × List Operand
location_of (locations.Register rs) = (false, Register rs ∷ [])
location_of (locations.Offset a rs) = (false, operand_of a ∷ Register rs ∷ [])
location_of (locations.Target e) = (true, Target (tree_of_expr e) ∷ [])
