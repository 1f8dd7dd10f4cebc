-- What the values of the code stand for.

use Rattle.std.specs.Prelude.{◌≡◌, ℕ, List, map, reverse, Result, Ok, Err}
use Rattle.std.specs.Borrow.{Bor}
use Rattle.rv_expression_laws.specs.Codes.{not_constant, undefined_local}
use Rattle.rv_expression_laws.specs.Expression as expression
use Rattle.rv_expression_laws.specs.Values as values
use Rattle.rv_fault.specs.declared.source_fault.SourceFault.{SourceFault}
use Rattle.rv_fault.specs.declared.source_fault.SourceFault.TheVariants as faults
use Rattle.rv_expression.specs.declared.node.Symbol.{Symbol}
use Rattle.rv_expression.specs.declared.evaluation.Meaning.{Meaning}
use Rattle.rv_expression.specs.declared.evaluation.Meaning.TheVariants as name_meanings
use Rattle.rv_expression.specs.declared.evaluation.SymbolMeaning.{SymbolMeaning}
use Rattle.rv_expression.specs.declared.evaluation.SymbolMeaning.TheVariants as meanings
use Rattle.rv_expression.specs.declared.evaluation.Part.{Part}
use Rattle.rv_expression.specs.declared.evaluation.Part.TheVariants as parts
use Rattle.rv_expression.specs.declared.evaluation.Value.{Value}
use Rattle.rv_expression.specs.declared.evaluation.Value.TheVariants as results
use Rattle.rv_fault.specs.SourceFault.{source_fault_number}
use Rattle.rv_expression.specs.Nodes.{symbol_of}

abbrev pub meaning_of : SymbolMeaning → values.Meaning
meaning_of (meanings.Constant number) = values.Known number
meaning_of (meanings.InSection section offset) = values.InSection section offset
meaning_of meanings.Open = values.Open
meaning_of meanings.NotConstant = values.Refused not_constant
meaning_of meanings.UndefinedLocal = values.Refused undefined_local

abbrev pub part_value : Part → values.Value
part_value (parts.Constant number) = values.Constant number
part_value (parts.Symbolic symbol at plus) = values.Symbolic (symbol_of symbol) (meaning_of at) plus
part_value (parts.Difference symbol minus plus) =
    values.Difference (symbol_of symbol) (symbol_of minus) plus
part_value (parts.Faulty code) = values.Faulty (source_fault_number code)

-- the values on a stack, the last one first
unfoldable pub tops : List Part → List values.Value
tops items = reverse (map part_value items)

-- the function gives these meanings
abbrev pub Means : (Symbol → SymbolMeaning → Type 0) → (expression.Primary → values.Meaning) →
    Type 0
Means gives m =
    (symbol : Symbol) (meaning : SymbolMeaning) → gives symbol meaning →
    meaning_of meaning ≡ m (symbol_of symbol)

abbrev pub name_meaning_of : Meaning → values.Meaning
name_meaning_of (name_meanings.Constant number) = values.Known number
name_meaning_of (name_meanings.InSection section offset) = values.InSection section offset
name_meaning_of name_meanings.Open = values.Open

-- the function gives words these meanings
abbrev pub MeansWords : (Bor (List ℕ) → Meaning → Type 0) → (List ℕ → values.Meaning) → Type 0
MeansWords gives m =
    (word : Bor (List ℕ)) (meaning : Meaning) → gives word meaning →
    name_meaning_of meaning ≡ m word.now

-- what a symbol means where it is part of a value is not told
abbrev pub value_told : Value → values.Value → Type 0
value_told (results.Constant number) v = v ≡ values.Constant number
value_told (results.Symbolic symbol plus) v =
    (at : values.Meaning) × (v ≡ values.Symbolic (symbol_of symbol) at plus)
value_told (results.Difference symbol minus plus) v =
    v ≡ values.Difference (symbol_of symbol) (symbol_of minus) plus

-- an expression's value, or the fault at the line
abbrev pub IsOutcome : Result Value SourceFault → ℕ → values.Value → Type 0
IsOutcome (Ok value) line v = value_told value v
IsOutcome (Err (faults.At code at)) line v =
    (v ≡ values.Faulty (source_fault_number code)) × (at ≡ line)
IsOutcome (Err faults.OutOfMemory) line v = ⊥
