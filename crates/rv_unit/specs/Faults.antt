-- What the results of values stand for.

use Rattle.std.specs.Prelude.{ℕ, Bool, true, false, Result}
use Rattle.rv_fault.specs.declared.source_fault.SourceFault.{SourceFault}
use Rattle.rv_expression.specs.declared.evaluation.Value.{Value}
use Rattle.rv_expression.specs.Eval.{IsOutcome}
use Rattle.rv_expression_laws.specs.Codes.{undefined_local}
use Rattle.rv_expression_laws.specs.Expression.{Primary, Literal, Symbol, Here, Reference}
use Rattle.rv_expression_laws.specs.Values as values

-- what is said of every value that a result stands for
abbrev pub ForValue : Result Value SourceFault → (values.Value → Type 0) → Type 0
ForValue result P = (line : ℕ) (v : values.Value) → IsOutcome result line v → P v

-- what symbols mean where each name is open
abbrev pub open_meaning : Primary → values.Meaning
open_meaning (Literal number) = values.Known number
open_meaning (Symbol name) = values.Open
open_meaning Here = values.Refused undefined_local
open_meaning (Reference digits forward) = values.Refused undefined_local

abbrev pub is_difference : values.Value → Bool
is_difference (values.Constant number) = false
is_difference (values.Symbolic symbol at plus) = false
is_difference (values.Difference symbol minus plus) = true
is_difference (values.Faulty code) = false
