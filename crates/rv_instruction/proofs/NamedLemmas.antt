-- A statement that names a parcel: the form that it names is its code, whatever its bytes, and it has no fault.

use Rattle.std.proofs.Common.{◌≡◌, ℕ, ℤ, Bool, true, false, List, [], ◌∷◌, ◌++◌, map, Option, Some, None, option_map, Ok, refl, sym, ap, ◌∙◌, subst}
use Rattle.std.specs.Prelude.{◌&&◌, not, if◌then◌else◌, flat_map, length, take, is_some}
use Rattle.std.specs.List.{AllByRecursion}
use Rattle.arrayvec.specs.ArrayVec.{ArrayVec}
use Rattle.rv_isa_laws.specs.Halves.{lo}
use Rattle.rv_expression_laws.specs.Codes.{immediate_range, faulty_if, unsupported_here}
use Rattle.rv_expression_laws.specs.Expression.{Primary}
use Rattle.rv_expression_laws.specs.Values as values
use Rattle.rv_parcel.specs.declared.form.Compressed.{Compressed}
use Rattle.rv_parcel.specs.declared.parcel.ParcelOperation.{ParcelOperation}
use Rattle.rv_parcel.specs.declared.parcel.ParcelOperation.TheVariants as parcels
use Rattle.rv_parcel.specs.declared.parcel.OperandShape.{OperandShape}
use Rattle.rv_parcel.specs.declared.parcel.OperandShape.TheVariants as shapes
use Rattle.rv_parcel.specs.Mnemonics.{register_sets, shape_of, are_in, takes_number, form_with, form_of}
use Rattle.rv_parcel.specs.Parcel.{expansion}
use Rattle.rv_statement_laws.specs.declared.mnemonic.Mnemonic.{Mnemonic}
use Rattle.rv_statement_laws.specs.declared.mnemonic.Mnemonic.TheVariants.{Parcel}
use Rattle.rv_statement_laws.specs.declared.pseudo.Function.{Function}
use Rattle.rv_statement_laws.specs.declared.pseudo.Function.TheVariants.{Hi, Lo, PcrelHi, PcrelLo}
use Rattle.rv_statement.specs.declared.statement.Operation.{Operation}
use Rattle.rv_statement.specs.declared.statement.Operation.TheVariants as operations
use Rattle.rv_statement_laws.specs.Statement.{Expression, Statement, StatementKind, Label, Numbered, Instruction, Directs, Operand, Register, Value, Applied, Target}
use Rattle.rv_statement.specs.View.{parcel_operands, shaped}
use Rattle.rv_pseudo_laws.specs.Code.{Closed, Constants, constant_number, by_form, parcel_form, named_form, code}
use Rattle.rv_pseudo_laws.specs.Filled.{are_closed}
use Rattle.rv_pseudo_laws.specs.InstructionFaults.{Worth, Number, number_faults, low_faults, operand_faults, else_unplaced, has_row, faults}
use Rattle.rv_pseudo_laws.proofs.ParcelsLemmas.{named_code}
use Rattle.rv_pseudo.specs.Templates.{statement_with, operand, asked_bytes}
use Rattle.rv_source_laws.specs.Lines.{form_in}
use Rattle.rv_source_laws.specs.Compressed.{names_parcel}
use Rattle.rv_source_laws.specs.Sizes.{near_forms}
use Rattle.rv_assemble_laws.specs.Coded.{constants, joined, IsCodedPart, AreCodedParts}
use Rattle.rv_assemble_laws.specs.InstructionFaults.{instruction_faults, worth, worths}
use Rattle.rv_assemble_laws.proofs.InstructionFaultsLemmas.{worth_is}
use Rattle.rv_instruction.specs.declared.encoded.Encoded.{Encoded}
use Rattle.rv_instruction.specs.declared.encoded.Coded.{Coded}
use Rattle.rv_instruction.specs.Code.{encoded_bytes, encoded_instructions, coded_by, whole, alone_coded, HasCode, Codes}
use Rattle.rv_instruction.proofs.EncodingLemmas.{counted, shapes_alone}
pub use Rattle.rv_pseudo.proofs.ParcelRowsLemmas.{closed_form}

-- ---- what names none

pub none_named : (kind : StatementKind) (v : Constants) → names_parcel kind ≡ false → form_in v kind ≡ None
none_named (Instruction (Parcel operation) operands) v e = absurd (cc)
none_named (Instruction mnemonic operands) v e = refl
none_named (Label name) v e = refl
none_named (Numbered number) v e = refl
none_named (Directs directive) v e = refl

-- ---- the form that is named, by the numbers of the operands alone

abbrev pub IsSame : Constants → Constants → Operand → Type 0
IsSame v w o = constant_number v o ≡ constant_number w o

parcel_same : (v w : Constants) (operation : ParcelOperation) (shape : OperandShape) (operands : List Operand) → AllByRecursion (IsSame v w) operands
    → parcel_form v operation shape operands ≡ parcel_form w operation shape operands
parcel_same v w operation shapes.Registers [] same = refl
parcel_same v w operation shapes.Registers (Register a ∷ []) same = refl
parcel_same v w operation shapes.Registers (Register a ∷ Register b ∷ []) same = refl
parcel_same v w operation shapes.Number (Register a ∷ Register b ∷ o ∷ []) same = ap (by_form (form_of operation (a ∷ b ∷ []))) same.1.1.0
parcel_same v w operation shapes.Number (Register a ∷ o ∷ []) same = ap (by_form (form_of operation (a ∷ []))) same.1.0
parcel_same v w operation shapes.Address (Register a ∷ Register b ∷ []) same = refl
parcel_same v w operation shapes.Address (Register a ∷ o ∷ Register b ∷ []) same = ap (by_form (form_of operation (a ∷ b ∷ []))) same.1.0
parcel_same v w operation shape operands same = refl

pub named_same : (v w : Constants) (mnemonic : Mnemonic) (operands : List Operand) → AllByRecursion (IsSame v w) operands
    → named_form v mnemonic operands ≡ named_form w mnemonic operands
named_same v w (Parcel operation) operands same = parcel_same v w operation (shape_of operation) operands same
named_same v w mnemonic operands same = refl

-- the code is the same, compressed code or not, and however long it is asked to be
pub code_same : (v w : Constants) (rvc other : Bool) (bytes size : ℕ) (operation : ParcelOperation) (operands : List Operand) → AllByRecursion (IsSame v w) operands
    → code v rvc bytes (Parcel operation) operands ≡ code w other size (Parcel operation) operands
code_same v w rvc other bytes size parcels.J (Target e ∷ []) same = refl
code_same v w rvc other bytes size parcels.Beqz (Register rs ∷ Target e ∷ []) same = refl
code_same v w rvc other bytes size parcels.Bnez (Register rs ∷ Target e ∷ []) same = refl
code_same v w rvc other bytes size operation operands same = ap closed_form (named_same v w (Parcel operation) operands same)

-- an operand behind registers
behind_registers : (v w : Constants) (rs : List ℕ) (operands : List Operand) → AllByRecursion (IsSame v w) operands → AllByRecursion (IsSame v w) (map Register rs ++ operands)
behind_registers v w [] operands same = same
behind_registers v w (r ∷ rs) operands same = (refl, behind_registers v w rs operands same)

pub same_operands : (v w : Constants) (shape : OperandShape) (operation : ParcelOperation) (a b : ℕ) (o : Operand) → constant_number v o ≡ constant_number w o
    → AllByRecursion (IsSame v w) (parcel_operands shape operation a b o)
same_operands v w shapes.Address operation a b o same = (refl, (same, (refl, tt)))
same_operands v w shapes.Registers operation a b o same = behind_registers v w (take (length (register_sets operation)) (a ∷ b ∷ [])) (o ∷ []) (same, tt)
same_operands v w shapes.Number operation a b o same = behind_registers v w (take (length (register_sets operation)) (a ∷ b ∷ [])) (o ∷ []) (same, tt)
same_operands v w shapes.Target operation a b o same = behind_registers v w (take (length (register_sets operation)) (a ∷ b ∷ [])) (o ∷ []) (same, tt)

shaped_same : (v : Constants) (shape : OperandShape) (e : Expression) → constant_number v (shaped shape e) ≡ constant_number (λ t. v e) (shaped shape e)
shaped_same v shapes.Registers e = refl
shaped_same v shapes.Number e = refl
shaped_same v shapes.Address e = refl
shaped_same v shapes.Target e = refl

pub operand_same : (v : Constants) (operation : ParcelOperation) (a b : ℕ) (function : Option Function) (e : Expression)
    → constant_number v (operand (operations.Parcel operation a b) function e) ≡ constant_number (λ t. v e) (operand (operations.Parcel operation a b) function e)
operand_same v operation a b None e = shaped_same v (shape_of operation) e
operand_same v operation a b (Some Hi) e = refl
operand_same v operation a b (Some Lo) e = refl
operand_same v operation a b (Some PcrelHi) e = refl
operand_same v operation a b (Some PcrelLo) e = refl

-- of a statement with an expression, by its constant
pub form_same : (operation : Operation) (function : Option Function) (v : Constants) (e : Expression)
    → form_in v (statement_with operation function e) ≡ form_in (λ t. v e) (statement_with operation function e)
form_same (operations.Parcel operation a b) function v e =
    named_same v (λ t. v e) (Parcel operation) _
    (same_operands v (λ t. v e) (shape_of operation) operation a b (operand (operations.Parcel operation a b) function e) (operand_same v operation a b function e))
form_same (operations.Li rd) None v e = refl
form_same _ None v e = refl
form_same (operations.Li rd) (Some f) v e = refl
form_same _ (Some f) v e = refl

pub statement_form : (operation : Operation) (function : Option Function) (v : Constants) (e : Expression) (kind : StatementKind) (o : Option ℤ) → kind ≡ statement_with operation function e → o ≡ v e
    → form_in v kind ≡ form_in (λ t. o) kind
statement_form operation function v e kind o says is =
    subst (λ k. form_in v k ≡ form_in (λ t. o) k) (sym says) (form_same operation function v e ∙ ap (λ n. form_in (λ t. n) (statement_with operation function e)) (sym is))

-- ---- no fault

-- what is a constant is worth that number
abbrev AreWorth : Constants → (Expression → Worth) → Type 0
AreWorth v w = (e : Expression) (k : ℤ) → v e ≡ Some k → w e ≡ Number k

if_taken : (registers number : Bool) (row : Option Compressed) (form : Compressed) → (if registers && number then row else None) ≡ Some form → number ≡ true
if_taken true true row form e = refl
if_taken true false row form e = absurd (cc)
if_taken false number row form e = absurd (cc)

number_sound : (operation : ParcelOperation) (rs : List ℕ) (k : ℤ) (form : Compressed) → form_of operation rs k ≡ Some form
    → faulty_if (not (takes_number operation k)) immediate_range ≡ []
number_sound operation rs k form e =
    ap (λ b. faulty_if (not b) immediate_range)
    (if_taken (are_in (register_sets operation) rs) (takes_number operation k) (option_map (λ make. make k) (form_with operation rs)) form e)

value_sound : (w : Worth) (operation : ParcelOperation) (rs : List ℕ) (o : Option ℤ) (form : Compressed) → ((k : ℤ) → o ≡ Some k → w ≡ Number k)
    → by_form (form_of operation rs) o ≡ Some form → number_faults (Parcel operation) w ≡ []
value_sound w operation rs None form worth e = absurd (cc)
value_sound w operation rs (Some k) form worth e = ap (number_faults (Parcel operation)) (worth k refl) ∙ number_sound operation rs k form e

low_sound : (w : Worth) (operation : ParcelOperation) (rs : List ℕ) (o : Option ℤ) (form : Compressed) → ((k : ℤ) → o ≡ Some k → w ≡ Number k)
    → by_form (form_of operation rs) (option_map lo o) ≡ Some form → low_faults (Parcel operation) w ≡ []
low_sound w operation rs None form worth e = absurd (cc)
low_sound w operation rs (Some k) form worth e = ap (low_faults (Parcel operation)) (worth k refl) ∙ number_sound operation rs (lo k) form e

operand_sound : (v : Constants) (w : Expression → Worth) → AreWorth v w → (operation : ParcelOperation) (rs : List ℕ) (o : Operand) (form : Compressed)
    → by_form (form_of operation rs) (constant_number v o) ≡ Some form → operand_faults w (Parcel operation) o ≡ []
operand_sound v w worth operation rs (Value e) form named = value_sound (w e) operation rs (v e) form (worth e) named
operand_sound v w worth operation rs (Applied Lo e) form named = low_sound (w e) operation rs (v e) form (worth e) named
operand_sound v w worth operation rs _ form named = absurd (cc)

parcel_sound : (v : Constants) (w : Expression → Worth) → AreWorth v w → (operation : ParcelOperation) (shape : OperandShape) (operands : List Operand) (form : Compressed)
    → parcel_form v operation shape operands ≡ Some form → flat_map (operand_faults w (Parcel operation)) operands ≡ []
parcel_sound v w worth operation shapes.Registers [] form named = refl
parcel_sound v w worth operation shapes.Registers (Register a ∷ []) form named = refl
parcel_sound v w worth operation shapes.Registers (Register a ∷ Register b ∷ []) form named = refl
parcel_sound v w worth operation shapes.Number (Register a ∷ Register b ∷ o ∷ []) form named = ap (λ l. l ++ []) (operand_sound v w worth operation (a ∷ b ∷ []) o form named)
parcel_sound v w worth operation shapes.Number (Register a ∷ o ∷ []) form named = ap (λ l. l ++ []) (operand_sound v w worth operation (a ∷ []) o form named)
parcel_sound v w worth operation shapes.Address (Register a ∷ Register b ∷ []) form named = refl
parcel_sound v w worth operation shapes.Address (Register a ∷ o ∷ Register b ∷ []) form named = ap (λ l. l ++ []) (operand_sound v w worth operation (a ∷ b ∷ []) o form named)
parcel_sound v w worth operation shape operands form named = absurd (cc)

pub named_sound : (v : Constants) (w : Expression → Worth) → AreWorth v w → (mnemonic : Mnemonic) (operands : List Operand) (form : Compressed)
    → named_form v mnemonic operands ≡ Some form → faults v w (Instruction mnemonic operands) ≡ []
named_sound v w worth (Parcel operation) operands form named =
    ap (else_unplaced (has_row v (Parcel operation) operands)) (parcel_sound v w worth operation (shape_of operation) operands form named)
    ∙ ap (λ row. faulty_if (not (is_some row)) unsupported_here) (named_code v false 4 (Parcel operation) operands form named)
named_sound v w worth mnemonic operands form named = absurd (cc)

-- ---- its code

named_near : (rvc : Bool) (v : Constants) (mnemonic : Mnemonic) (operands : List Operand) (form : Compressed) → named_form v mnemonic operands ≡ Some form
    → near_forms rvc mnemonic operands ≡ None
named_near rvc v (Parcel operation) operands form named = refl
named_near rvc v mnemonic operands form named = absurd (cc)

has_named : (rvc : Bool) (bytes : ℕ) (v : Expression → values.Value) (kind : StatementKind) (e : Encoded) (form : Compressed) → form_in (constants v) kind ≡ Some form
    → encoded_instructions e ≡ 1 → ((c : Bool) → IsCodedPart (Some form) c (Closed (expansion form)) (encoded_bytes e)) → HasCode v rvc bytes kind (whole e ∷ [])
has_named rvc bytes v (Instruction mnemonic operands) e form named one is =
    let ps = Closed (expansion form) ∷ [] in
    let shapes = shapes_alone (expansion form) e one in
    record {
      is = record {
        ps = ps;
        parts = named_code (constants v) rvc (length (joined (coded_by (whole e ∷ [])))) mnemonic operands form named;
        coded_as = subst (λ n. AreCodedParts n (rvc && are_closed ps) ps (encoded_bytes e ∷ [])) (sym named) (is (rvc && are_closed ps), tt);
        size = refl;
        count = counted ps (whole e ∷ []) shapes;
      };
      asked = named_code (constants v) rvc (asked_bytes mnemonic bytes) mnemonic operands form named;
      shapes = shapes;
      near = λ some. absurd (let none = named_near rvc (constants v) mnemonic operands form named in cc);
    }
has_named rvc bytes v (Label name) e form named one is = absurd (cc)
has_named rvc bytes v (Numbered number) e form named one is = absurd (cc)
has_named rvc bytes v (Directs directive) e form named one is = absurd (cc)

no_fault : (v : Expression → values.Value) (l : Primary → Bool) (kind : StatementKind) (form : Compressed) → form_in (constants v) kind ≡ Some form → instruction_faults v l kind ≡ []
no_fault v l (Instruction mnemonic operands) form named = named_sound (constants v) (worths v l) (λ x k. worth_is l (v x) k) mnemonic operands form named
no_fault v l (Label name) form named = refl
no_fault v l (Numbered number) form named = refl
no_fault v l (Directs directive) form named = refl

pub named_codes : (rvc : Bool) (bytes : ℕ) (v : Expression → values.Value) (l : Primary → Bool) (s : Statement) (e : Encoded) (form : Compressed)
    → form_in (constants v) s.kind ≡ Some form → encoded_instructions e ≡ 1 → ((c : Bool) → IsCodedPart (Some form) c (Closed (expansion form)) (encoded_bytes e))
    → Codes rvc bytes v l s (Ok (alone_coded e))
named_codes rvc bytes v l s e form named one is = (no_fault v l s.kind form named, has_named rvc bytes v s.kind e form named one is)

-- by its parts
pub same_codes : (rvc : Bool) (bytes : ℕ) (v : Expression → values.Value) (l : Primary → Bool) (s : Statement) (found other : ArrayVec Coded) → other.items ≡ found.items
    → Codes rvc bytes v l s (Ok found) → Codes rvc bytes v l s (Ok other)
same_codes rvc bytes v l s found other same codes = (codes.0, subst (HasCode v rvc bytes s.kind) (sym same) codes.1)
