-- The rows of statements that name a parcel, by what stands beside its registers.

use Rattle.std.proofs.Common.{◌≡◌, ℕ, Bool, true, false, refl, sym, ap, ◌∙◌, ℤ, List, [], ◌∷◌, ◌++◌, map, flat_map, append-nil, Option, Some, None, option_map}
use Rattle.std.specs.Prelude.{if◌then◌else◌, ◌&&◌, ◌||◌, is_some, IfSome}
use Rattle.rv_list_laws.proofs.TruthLemmas.{and_first}
use Rattle.rv_parcel.specs.declared.form.Compressed.{Compressed}
use Rattle.rv_parcel.specs.declared.parcel.ParcelOperation.{ParcelOperation}
use Rattle.rv_parcel.specs.declared.parcel.ParcelOperation.TheVariants.{Addi4spn, J, Beqz, Bnez}
use Rattle.rv_parcel.specs.declared.parcel.OperandShape.{OperandShape}
use Rattle.rv_parcel.specs.declared.parcel.OperandShape.TheVariants as shapes
use Rattle.rv_parcel.specs.declared.parcel.RegisterSet.TheVariants.{Short}
use Rattle.rv_parcel.specs.Mnemonics.{is_of_set, own_registers, shape_of, takes_number, form_with, form_of}
use Rattle.rv_parcel.specs.Parcel.{IsLine, expansion}
use Rattle.rv_isa.specs.declared.operation.BranchOperation.TheVariants.{Beq, Bne}
use Rattle.rv_statement_laws.specs.declared.mnemonic.Mnemonic.{Mnemonic}
use Rattle.rv_statement_laws.specs.declared.mnemonic.Mnemonic.TheVariants.{Parcel}
use Rattle.rv_statement_laws.specs.declared.pseudo.Function.{Function}
use Rattle.rv_statement.specs.declared.statement.Operation.TheVariants as operations
use Rattle.rv_statement.specs.declared.statement.Plain.TheVariants as plains
use Rattle.rv_statement_laws.specs.Statement.{Operand, Register, Value, Applied, Target, Expression}
use Rattle.rv_statement.specs.View.{parcel_registers, parcel_operands, shaped, plain_of}
use Rattle.rv_pseudo_laws.specs.Code.{Part, Closed, Constants, jump, constant_number, named_form, short_branch, code}
use Rattle.rv_pseudo_laws.specs.InstructionFaults.{Worth, number_faults, target_faults, operand_faults}
use Rattle.rv_pseudo_laws.proofs.ParcelsLemmas.{form_written, named_code}
use Rattle.rv_pseudo.specs.declared.template.Template.{Template}
use Rattle.rv_pseudo.specs.Faults.{is_target, is_number, takes_registers, takes_number_beside, takes_operand}
use Rattle.rv_pseudo.specs.Templates.{plain, all_templates, named_of, statement_with, number_operand, form_told, AreTemplates}

-- ---- operands

pub shaped_away : (s : OperandShape) (e : Expression) → is_target s ≡ false → shaped s e ≡ Value e
shaped_away shapes.Target e away = absurd (cc)
shaped_away _ e away = refl

pub shaped_target : (s : OperandShape) (e : Expression) → is_target s ≡ true → shaped s e ≡ Target e
shaped_target shapes.Target e target = refl
shaped_target _ e target = absurd (cc)

-- ---- rows

-- the part of a form
abbrev pub closed_form : Option Compressed → Option (List Part)
closed_form named = option_map (λ form. Closed (expansion form) ∷ []) named

-- with a number, or with a part of one
pub number_row : (operation : ParcelOperation) (a b : ℕ) (function : Option Function) (e : Expression) (v : Constants) (rvc : Bool) (bytes : ℕ)
    → code v rvc bytes (Parcel operation) (parcel_operands (shape_of operation) operation a b (number_operand function e))
    ≡ closed_form (form_told operation a b (constant_number v (number_operand function e)))
number_row Addi4spn a b None e v rvc bytes = refl
number_row Addi4spn a b (Some f) e v rvc bytes = refl
number_row operation a b None e v rvc bytes = refl
number_row operation a b (Some f) e v rvc bytes = refl

-- the parts of a jump or a branch
abbrev pub target_parts : ParcelOperation → ℕ → Option (List Part)
target_parts J a = Some (jump 2 0)
target_parts Beqz a = short_branch Beq a
target_parts Bnez a = short_branch Bne a
target_parts _ a = None

pub target_row : (operation : ParcelOperation) (a b : ℕ) (e : Expression) (v : Constants) (rvc : Bool) (bytes : ℕ) → is_target (shape_of operation) ≡ true
    → code v rvc bytes (Parcel operation) (parcel_operands (shape_of operation) operation a b (Target e)) ≡ target_parts operation a
target_row J a b e v rvc bytes target = refl
target_row Beqz a b e v rvc bytes target = refl
target_row Bnez a b e v rvc bytes target = refl
target_row _ a b e v rvc bytes target = absurd (cc)

-- the form that an operation with an operand names
pub parcel_named : (operation : ParcelOperation) (a b : ℕ) (function : Option Function) (e : Expression) (v : Constants)
    → named_of v (statement_with (operations.Parcel operation a b) function e) ≡ form_told operation a b (constant_number v (number_operand function e))
parcel_named Addi4spn a b None e v = refl
parcel_named Addi4spn a b (Some f) e v = refl
parcel_named operation a b None e v = refl
parcel_named operation a b (Some f) e v = refl

pub bare_row : (operation : ParcelOperation) (a b : ℕ) (v : Constants) (rvc : Bool) (bytes : ℕ)
    → code v rvc bytes (Parcel operation) (parcel_registers operation a b) ≡ closed_form (named_form v (Parcel operation) (parcel_registers operation a b))
bare_row Addi4spn a b v rvc bytes = refl
bare_row operation a b v rvc bytes = refl

-- ---- faults

no_faults : (w : Expression → Worth) (mnemonic : Mnemonic) (rs : List ℕ) → flat_map (operand_faults w mnemonic) (map Register rs) ≡ []
no_faults w mnemonic [] = refl
no_faults w mnemonic (r ∷ rs) = no_faults w mnemonic rs

pub register_faults : (w : Expression → Worth) (mnemonic : Mnemonic) (operation : ParcelOperation) (a b : ℕ)
    → flat_map (operand_faults w mnemonic) (parcel_registers operation a b) ≡ []
register_faults w mnemonic operation a b = no_faults w mnemonic (own_registers operation a b)

last_faults : (w : Expression → Worth) (mnemonic : Mnemonic) (rs : List ℕ) (o : Operand)
    → flat_map (operand_faults w mnemonic) (map Register rs ++ o ∷ []) ≡ operand_faults w mnemonic o
last_faults w mnemonic [] o = append-nil (operand_faults w mnemonic o)
last_faults w mnemonic (r ∷ rs) o = last_faults w mnemonic rs o

-- those of the operand beside its registers
pub beside_faults : (w : Expression → Worth) (mnemonic : Mnemonic) (s : OperandShape) (operation : ParcelOperation) (a b : ℕ) (o : Operand)
    → flat_map (operand_faults w mnemonic) (parcel_operands s operation a b o) ≡ operand_faults w mnemonic o
beside_faults w mnemonic shapes.Address operation a b o = append-nil (operand_faults w mnemonic o)
beside_faults w mnemonic shapes.Registers operation a b o = last_faults w mnemonic (own_registers operation a b) o
beside_faults w mnemonic shapes.Number operation a b o = last_faults w mnemonic (own_registers operation a b) o
beside_faults w mnemonic shapes.Target operation a b o = last_faults w mnemonic (own_registers operation a b) o

pub shaped_faults : (w : Expression → Worth) (mnemonic : Mnemonic) (s : OperandShape) (e : Expression)
    → operand_faults w mnemonic (shaped s e) ≡ (if is_target s then target_faults (w e) else number_faults mnemonic (w e))
shaped_faults w mnemonic shapes.Target e = refl
shaped_faults w mnemonic _ e = refl

-- ---- what has no row

abbrev none : Option Compressed
none = None

if_none : (t : Bool) → (if t then none else none) ≡ none
if_none true = refl
if_none false = refl

none_beside : (number registers takes : Bool) (form : Option Compressed) → (number && registers) ≡ false
    → (if number then (if registers && takes then form else None) else None) ≡ None
none_beside true true takes form e = absurd (cc)
none_beside true false takes form e = refl
none_beside false registers takes form e = refl

pub told_none : (operation : ParcelOperation) (a b : ℕ) (number : Option ℤ) → takes_number_beside operation a b ≡ false
    → form_told operation a b number ≡ None
told_none operation a b None e = if_none (is_number (shape_of operation))
told_none operation a b (Some k) e =
    none_beside (is_number (shape_of operation)) (takes_registers operation a b) (takes_number operation k) _ e

pub told_open : (operation : ParcelOperation) (a b : ℕ) → form_told operation a b None ≡ None
told_open operation a b = if_none (is_number (shape_of operation))

short_none : (short : Bool) (parts : List Part) → (short && true) ≡ false → is_some (if short then Some parts else None) ≡ false
short_none true parts e = absurd (cc)
short_none false parts e = refl

target_none : (operation : ParcelOperation) (a b : ℕ) → takes_operand operation a b ≡ false → is_some (target_parts operation a) ≡ false
target_none J a b e = absurd (cc)
target_none Beqz a b e = short_none (is_of_set Short a) _ e
target_none Bnez a b e = short_none (is_of_set Short a) _ e
target_none _ a b e = refl

-- ---- forms

-- a form that is found has operands that a form may have
pub form_line : (operation : ParcelOperation) (a b : ℕ) (k : ℤ) (found : Option Compressed) → found ≡ form_of operation (own_registers operation a b) k
    → IfSome found IsLine
form_line operation a b k None e = tt
form_line operation a b k (Some form) e = (form_written operation (own_registers operation a b) k form (sym e)).0

-- ---- that there is a row

number_form : (operation : ParcelOperation) (a b : ℕ) → is_number (shape_of operation) ≡ true → is_some (form_with operation (own_registers operation a b)) ≡ true
number_form J a b number = absurd (cc)
number_form Beqz a b number = absurd (cc)
number_form Bnez a b number = absurd (cc)
number_form _ a b number = refl

made_some : (number registers takes : Bool) (make : Option (ℤ → Compressed)) (k : ℤ) → is_some make ≡ true → (number && registers) ≡ true → takes ≡ true
    → is_some (closed_form (if number then (if registers && takes then option_map (λ f. f k) make else None) else None)) ≡ true
made_some true true true (Some f) k some e t = refl
made_some true true true None k some e t = absurd (cc)
made_some true true false make k some e t = absurd (cc)
made_some true false takes make k some e t = absurd (cc)
made_some false registers takes make k some e t = absurd (cc)

-- with a number that it takes, beside registers that it takes
pub told_some : (operation : ParcelOperation) (a b : ℕ) (o : Option ℤ) → takes_number_beside operation a b ≡ true
    → is_some o ≡ true → ((k : ℤ) → o ≡ Some k → takes_number operation k ≡ true) → is_some (closed_form (form_told operation a b o)) ≡ true
told_some operation a b None beside some takes = absurd (cc)
told_some operation a b (Some k) beside some takes =
    made_some (is_number (shape_of operation)) (takes_registers operation a b) (takes_number operation k) (form_with operation (own_registers operation a b)) k
    (number_form operation a b (and_first (is_number (shape_of operation)) (takes_registers operation a b) beside)) beside (takes k refl)

-- what takes an operand, and no target, takes a number
pub number_beside : (number target registers : Bool) → target ≡ false → ((number || target) && registers) ≡ true → (number && registers) ≡ true
number_beside true target registers away e = e
number_beside false true registers away e = absurd (cc)
number_beside false false registers away e = e

-- and what takes a number has no target
pub beside_away : (s : OperandShape) (registers : Bool) → (is_number s && registers) ≡ true → is_target s ≡ false
beside_away shapes.Number registers e = refl
beside_away shapes.Address registers e = refl
beside_away _ registers e = absurd (cc)

-- ---- no row of an operand

neither : (number target registers : Bool) → ((number || target) && registers) ≡ false → (number && registers) ≡ false
neither true target registers e = e
neither false target registers e = refl

-- of an operation with an operand that it does not take
pub value_none : (operation : ParcelOperation) (a b : ℕ) (e : Expression) (v : Constants) → takes_operand operation a b ≡ false
    → is_some (code v false 4 (Parcel operation) (parcel_operands (shape_of operation) operation a b (shaped (shape_of operation) e))) ≡ false
value_none operation a b e v away = by_target (is_target (shape_of operation)) refl
  where
    by_target : (t : Bool) → is_target (shape_of operation) ≡ t
        → is_some (code v false 4 (Parcel operation) (parcel_operands (shape_of operation) operation a b (shaped (shape_of operation) e))) ≡ false
    by_target true is =
        ap (λ o. is_some (code v false 4 (Parcel operation) (parcel_operands (shape_of operation) operation a b o))) (shaped_target (shape_of operation) e is)
        ∙ ap is_some (target_row operation a b e v false 4 is) ∙ target_none operation a b away
    by_target false is =
        ap (λ o. is_some (code v false 4 (Parcel operation) (parcel_operands (shape_of operation) operation a b o))) (shaped_away (shape_of operation) e is)
        ∙ ap is_some (number_row operation a b None e v false 4)
        ∙ ap (λ form. is_some (closed_form form)) (told_none operation a b (v e) (neither (is_number (shape_of operation)) (is_target (shape_of operation)) (takes_registers operation a b) away))

-- of a part of a value that is no number
pub part_none : (operation : ParcelOperation) (a b : ℕ) (f : Function) (e : Expression) (v : Constants)
    → form_told operation a b (constant_number v (Applied f e)) ≡ None
    → is_some (code v false 4 (Parcel operation) (parcel_operands (shape_of operation) operation a b (Applied f e))) ≡ false
part_none operation a b f e v none =
    ap is_some (number_row operation a b (Some f) e v false 4) ∙ ap (λ form. is_some (closed_form form)) none

-- ---- statements without an expression

pub bare_templates : (operation : ParcelOperation) (a b : ℕ) (found : Option Compressed) (form : Compressed) (made : List Template)
    → ((v : Constants) → named_form v (Parcel operation) (parcel_registers operation a b) ≡ found) → found ≡ Some form → made ≡ plain (expansion form) ∷ []
    → (rvc : Bool) (bytes : ℕ) → AreTemplates rvc bytes (plain_of (plains.Parcel operation a b)) made
bare_templates operation a b found form made is some makes rvc bytes v =
    ap (option_map all_templates) (named_code v rvc bytes (Parcel operation) (parcel_registers operation a b) form (is v ∙ some)) ∙ ap Some (sym makes)

pub bare_none : (operation : ParcelOperation) (a b : ℕ) (found : Option Compressed)
    → ((v : Constants) → named_form v (Parcel operation) (parcel_registers operation a b) ≡ found) → found ≡ None
    → (v : Constants) → is_some (code v false 4 (Parcel operation) (parcel_registers operation a b)) ≡ false
bare_none operation a b found is none v = ap is_some (bare_row operation a b v false 4) ∙ ap (λ form. is_some (closed_form form)) (is v ∙ none)
