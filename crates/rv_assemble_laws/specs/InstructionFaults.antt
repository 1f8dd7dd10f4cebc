-- The faults of one instruction, by its operands and the values of their expressions.

use Rattle.std.specs.Prelude.{ℕ, Bool, true, false, List, is_some}
use Rattle.rv_isa_laws.specs.Arithmetic.{signed}
use Rattle.rv_expression_laws.specs.Expression.{Primary, Symbol, Reference}
use Rattle.rv_expression_laws.specs.Codes.{not_constant}
use Rattle.rv_expression_laws.specs.Values.{Value, Constant, Symbolic, Difference, Faulty}
use Rattle.rv_statement_laws.specs.Statement.{StatementKind, Expression}
use Rattle.rv_pseudo_laws.specs.InstructionFaults.{Worth, Number, Address, Wrong, faults}
use Rattle.rv_unit_laws.specs.Tables.{Tables, label_of, definition}
use Rattle.rv_assemble_laws.specs.Coded.{constants}

-- whether a symbol is a label of the file, at the statement of this ordinal
abbrev pub is_label : Tables → ℕ → Primary → Bool
is_label t ordinal (Symbol name) = is_some (label_of t.labels true 0 name)
is_label t ordinal (Reference digits forward) =
    is_some (definition t ordinal (Reference digits forward))
is_label t ordinal _ = false

-- what a value is worth to an instruction, where l says which symbols are labels of the file
abbrev pub worth : (Primary → Bool) → Value → Worth
worth l (Constant n) = Number (signed 64 n)
worth l (Symbolic symbol at plus) = Address (l symbol)
worth l (Difference symbol minus plus) = Wrong not_constant
worth l (Faulty code) = Wrong code

-- what expressions are worth, where v gives their values
abbrev pub worths : (Expression → Value) → (Primary → Bool) → Expression → Worth
worths v l e = worth l (v e)

-- the codes of an instruction's faults
abbrev pub instruction_faults :
    (Expression → Value) → (Primary → Bool) → StatementKind → List ℕ
instruction_faults v l kind = faults (constants v) (worths v l) kind
