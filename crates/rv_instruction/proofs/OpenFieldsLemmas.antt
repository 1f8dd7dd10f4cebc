-- The field of a statement's operand, by what stands there.

use Rattle.std.proofs.Common.{◌≡◌, ℕ, List, [], ◌∷◌, ◌++◌, map, Some, refl, sym, ap, ◌∙◌}
use Rattle.rv_isa.specs.declared.kind.Kind.{Kind}
use Rattle.rv_expression_laws.specs.Values.{Value}
use Rattle.rv_parcel.specs.declared.parcel.ParcelOperation.{ParcelOperation}
use Rattle.rv_parcel.specs.declared.parcel.OperandShape.{OperandShape}
use Rattle.rv_parcel.specs.declared.parcel.OperandShape.TheVariants as shapes
use Rattle.rv_parcel.specs.Mnemonics.{own_registers, shape_of}
use Rattle.rv_statement_laws.specs.declared.pseudo.Function.{Function}
use Rattle.rv_statement_laws.specs.declared.pseudo.Function.TheVariants.{Hi, Lo, PcrelHi, PcrelLo}
use Rattle.rv_statement.specs.declared.statement.Operation.{Operation}
use Rattle.rv_statement.specs.declared.statement.Operation.TheVariants as operations
use Rattle.rv_statement_laws.specs.Statement.{StatementKind, Expression, Operand, Register, Applied}
use Rattle.rv_statement.specs.View.{parcel_operands, shaped, with_expression, with_function}
use Rattle.rv_pseudo.specs.Faults.{is_target, takes_target}
use Rattle.rv_unit_laws.specs.Tables.{Tables}
use Rattle.rv_source_laws.specs.Lines.{other_operand, operand_of}
use Rattle.rv_assemble_laws.specs.CodeFields.{field_of}
use Rattle.rv_instruction.specs.Opened.{function_field, value_field, fields_of}

-- ---- the operand beside the registers of a parcel

abbrev IsOther : Operand → Type 0
IsOther o = (os : List Operand) → other_operand (o ∷ os) ≡ Some o

behind_registers : (rs : List ℕ) (o : Operand) → IsOther o → other_operand (map Register rs ++ o ∷ []) ≡ Some o
behind_registers [] o other = other []
behind_registers (r ∷ rs) o other = behind_registers rs o other

parcel_other : (shape : OperandShape) (operation : ParcelOperation) (a b : ℕ) (o : Operand) → IsOther o → other_operand (parcel_operands shape operation a b o) ≡ Some o
parcel_other shapes.Address operation a b o other = other (Register b ∷ [])
parcel_other shapes.Registers operation a b o other = behind_registers (own_registers operation a b) o other
parcel_other shapes.Number operation a b o other = behind_registers (own_registers operation a b) o other
parcel_other shapes.Target operation a b o other = behind_registers (own_registers operation a b) o other

shaped_other : (shape : OperandShape) (e : Expression) → IsOther (shaped shape e)
shaped_other shapes.Target e os = refl
shaped_other shapes.Registers e os = refl
shaped_other shapes.Number e os = refl
shaped_other shapes.Address e os = refl

-- ---- with an expression

shaped_field : (t : Tables) (v : Expression → Value) (ordinal : ℕ) (shape : OperandShape) (e : Expression) (k : Kind)
    → field_of t v ordinal (Some (shaped shape e)) k ≡ value_field (is_target shape) k ordinal (v e)
shaped_field t v ordinal shapes.Target e k = refl
shaped_field t v ordinal shapes.Registers e k = refl
shaped_field t v ordinal shapes.Number e k = refl
shaped_field t v ordinal shapes.Address e k = refl

expression_field : (t : Tables) (v : Expression → Value) (ordinal : ℕ) (operation : Operation) (e : Expression) (k : Kind)
    → fields_of t v ordinal (with_expression operation e) k ≡ value_field (takes_target operation) k ordinal (v e)
expression_field t v ordinal (operations.Parcel operation a b) e k =
    ap (λ o. field_of t v ordinal o k) (parcel_other (shape_of operation) operation a b (shaped (shape_of operation) e) (shaped_other (shape_of operation) e))
    ∙ shaped_field t v ordinal (shape_of operation) e k
expression_field t v ordinal _ e k = refl

pub expression_fields : (t : Tables) (v : Expression → Value) (ordinal : ℕ) (kind : StatementKind) (operation : Operation) (e : Expression) (k : Kind) → kind ≡ with_expression operation e
    → value_field (takes_target operation) k ordinal (v e) ≡ fields_of t v ordinal kind k
expression_fields t v ordinal kind operation e k says = sym (ap (λ s. fields_of t v ordinal s k) says ∙ expression_field t v ordinal operation e k)

-- ---- with a function of one

applied_in : (operation : Operation) (f : Function) (e : Expression) → operand_of (with_function operation f e) ≡ Some (Applied f e)
applied_in (operations.Li rd) f e = refl
applied_in (operations.Parcel operation a b) f e = parcel_other (shape_of operation) operation a b (Applied f e) (λ os. refl)
applied_in _ f e = refl

applied_field : (t : Tables) (v : Expression → Value) (ordinal : ℕ) (f : Function) (e : Expression) (k : Kind) → field_of t v ordinal (Some (Applied f e)) k ≡ function_field t k ordinal f (v e)
applied_field t v ordinal Hi e k = refl
applied_field t v ordinal Lo e k = refl
applied_field t v ordinal PcrelHi e k = refl
applied_field t v ordinal PcrelLo e k = refl

pub function_fields : (t : Tables) (v : Expression → Value) (ordinal : ℕ) (kind : StatementKind) (operation : Operation) (f : Function) (e : Expression) (k : Kind) → kind ≡ with_function operation f e
    → function_field t k ordinal f (v e) ≡ fields_of t v ordinal kind k
function_fields t v ordinal kind operation f e k says =
    sym (ap (λ s. field_of t v ordinal (operand_of s) k) says ∙ ap (λ o. field_of t v ordinal o k) (applied_in operation f e) ∙ applied_field t v ordinal f e k)
