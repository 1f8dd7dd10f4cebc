-- The templates of a statement of code: the parts of its row in the one table (`code`), as the code
-- holds them.

use Rattle.std.specs.Prelude.{◌≡◌, ℕ, ℤ, pos, Bool, true, false, List, [], ◌∷◌, flat_map, Option, Some, None, option_map, Result, Ok, Err, if◌then◌else◌}
use Rattle.arrayvec.specs.ArrayVec.{ArrayVec}
use Rattle.rv_isa.specs.declared.instruction.Inst.{Inst}
use Rattle.rv_isa.specs.declared.kind.Kind.{Kind}
use Rattle.rv_parcel.specs.declared.form.Compressed.{Compressed}
use Rattle.rv_parcel.specs.declared.parcel.ParcelOperation.{ParcelOperation}
use Rattle.rv_parcel.specs.Mnemonics.{own_registers, shape_of, form_of}
use Rattle.rv_expression_laws.specs.Codes.{lowest}
use Rattle.rv_fault.specs.declared.source_fault.SourceCode.{SourceCode}
use Rattle.rv_fault.specs.declared.source_fault.SourceFault.{SourceFault}
use Rattle.rv_fault.specs.declared.source_fault.SourceFault.TheVariants.{At, OutOfMemory}
use Rattle.rv_fault.specs.SourceFault.{source_fault_number as code_number}
use Rattle.rv_statement_laws.specs.declared.mnemonic.Mnemonic.{Mnemonic}
use Rattle.rv_statement_laws.specs.declared.mnemonic.Mnemonic.TheVariants.{Call, Tail, Jump}
use Rattle.rv_statement_laws.specs.declared.pseudo.Function.{Function}
use Rattle.rv_statement.specs.declared.statement.Plain.{Plain}
use Rattle.rv_statement.specs.declared.statement.Plain.TheVariants as plains
use Rattle.rv_statement.specs.declared.statement.Operation.{Operation}
use Rattle.rv_statement.specs.declared.statement.Operation.TheVariants as operations
use Rattle.rv_statement_laws.specs.Statement.{StatementKind, Instruction, Operand, Value, Applied, Expression}
use Rattle.rv_statement.specs.View.{with_operand, operand_in}
use Rattle.rv_isa_laws.specs.Arithmetic.{wrapped}
use Rattle.rv_pseudo_laws.specs.Code.{Part, Closed, Open, Joined, Constants, code, alone, signed_12, upper_20, constant_number, by_constant, by_form, named_form}
use Rattle.rv_pseudo_laws.specs.InstructionFaults.{Worth, faults}
use Rattle.rv_pseudo.specs.declared.template.Form.{Form}
use Rattle.rv_pseudo.specs.declared.template.Manner.{Manner}
use Rattle.rv_pseudo.specs.declared.template.Template.{Template}
use Rattle.rv_pseudo.specs.declared.template.Worth.{Worth as Told}
use Rattle.rv_pseudo.specs.declared.template.Worth.TheVariants as told
use Rattle.rv_pseudo.specs.Faults.{worth_of, constant_in, is_number}

-- ---- templates

abbrev pub plain : Inst → Template
plain i = record { inst = i; reloc = None }

abbrev pub under : Kind → Inst → Template
under k i = record { inst = i; reloc = Some k }

-- the relocation of a call stands at its first instruction
abbrev pub templates_of : Part → List Template
templates_of (Closed i) = plain i ∷ []
templates_of (Open k i) = under k i ∷ []
templates_of (Joined k i j) = under k i ∷ plain j ∷ []

abbrev pub all_templates : List Part → List Template
all_templates parts = flat_map templates_of parts

-- ---- the row of a statement

-- a statement has one expression: what it is worth, and its constant, if it is one
abbrev pub worths_of : Manner → Expression → Worth
worths_of form = λ e. worth_of form.worth

abbrev pub constants_of : Manner → Constants
constants_of form = λ e. constant_in (worth_of form.worth)

-- an expression without a constant is the address of a symbol, and no fault
abbrev pub told_by : Option ℤ → Told
told_by (Some number) = told.Number number
told_by None = told.Address true

abbrev pub manner_of : Form → Manner
manner_of form = record { worth = told_by form.value; bytes = form.bytes; rvc = form.rvc }

-- the bytes for which the table is asked: eight for a call, which only the linker shortens
abbrev pub asked_bytes : Mnemonic → ℕ → ℕ
asked_bytes Call bytes = 8
asked_bytes Tail bytes = 8
asked_bytes Jump bytes = 8
asked_bytes mnemonic bytes = bytes

-- the parts of what a statement says; a label or a directive has none
abbrev pub parts_of : Constants → (rvc : Bool) → (bytes : ℕ) → StatementKind →
    Option (List Part)
parts_of v rvc bytes (Instruction mnemonic operands) =
    code v rvc (asked_bytes mnemonic bytes) mnemonic operands
parts_of v rvc bytes kind = Some []

-- the form of a parcel that it names
abbrev pub named_of : Constants → StatementKind → Option Compressed
named_of v (Instruction mnemonic operands) = named_form v mnemonic operands
named_of v kind = None

abbrev pub form_templates : Manner → StatementKind → Option (List Template)
form_templates form kind =
    option_map all_templates (parts_of (constants_of form) form.rvc form.bytes kind)

-- the codes of its faults
abbrev pub faults_by : Manner → StatementKind → List ℕ
faults_by form kind = faults (constants_of form) (worths_of form) kind

-- an expression as an operand of an operation, or a function of one
abbrev pub operand : Operation → Option Function → Expression → Operand
operand operation None e = operand_in operation e
operand operation (Some function) e = Applied function e

abbrev pub statement_with : Operation → Option Function → Expression → StatementKind
statement_with operation function e = with_operand operation (operand operation function e)

-- ---- the code's answers

-- of a statement without faults its templates, else the lowest code of its faults
abbrev pub Answers : List ℕ → Option (List Template) → Result (ArrayVec Template) SourceCode →
    Type 0
Answers codes row (Ok found) = (codes ≡ []) × (row ≡ Some found.items)
Answers codes row (Err code) = lowest codes ≡ Some (code_number code)

-- the same of a statement without an expression, whatever expressions are worth
abbrev pub AnswersBare :
    (rvc : Bool) → StatementKind → Result (ArrayVec Template) SourceCode → Type 0
AnswersBare rvc kind found =
    (v : Constants) (w : Expression → Worth) (bytes : ℕ) →
    Answers (faults v w kind) (option_map all_templates (parts_of v rvc bytes kind)) found

-- the same at a line; never want of memory
abbrev pub IsExpansion : List ℕ → Option (List Template) → ℕ →
    Result (ArrayVec Template) SourceFault → Type 0
IsExpansion codes row line (Ok found) = (codes ≡ []) × (row ≡ Some found.items)
IsExpansion codes row line (Err (At code at)) =
    (lowest codes ≡ Some (code_number code)) × (at ≡ line)
IsExpansion codes row line (Err OutOfMemory) = ⊥

-- ---- what an operand puts into a field, for the code's own contracts

-- an operand that is a number, or a function of one
abbrev pub number_operand : Option Function → Expression → Operand
number_operand None e = Value e
number_operand (Some function) e = Applied function e

abbrev pub with_reloc : Option Kind → Inst → List Template
with_reloc reloc i = record { inst = i; reloc = reloc } ∷ []

-- these parts, if any, are an instruction under such a relocation, or none
abbrev pub ArePut : Option Kind → Inst → Option (List Part) → Type 0
ArePut reloc i row =
    (parts : List Part) → row ≡ Some parts → all_templates parts ≡ with_reloc reloc i

-- whatever the instruction, an operand puts this number into its field under this relocation: into
-- twelve signed bits, into twenty bits, and with no relocation where only a constant may stand
abbrev pub Puts : Option Function → Option ℤ → (store : Bool) → ℤ → Option Kind → Type 0
Puts function value store number reloc =
    ((make : ℤ → Inst) (e : Expression) →
    ArePut reloc (make number) (signed_12 (λ t. value) store make (number_operand function e)))
    × ((make : ℕ → Inst) (e : Expression) →
    ArePut reloc (make (wrapped number)) (upper_20 (λ t. value) make (number_operand function e)))
    × ((k : ℤ) (e : Expression) →
    constant_number (λ t. value) (number_operand function e) ≡ Some k →
    (k ≡ number) × (reloc ≡ None))

-- the same of a part of an address that is open, under a relocation of this kind
abbrev pub IsKindOf : Function → (store : Bool) → Kind → Type 0
IsKindOf function store kind =
    ((make : ℤ → Inst) (e : Expression) →
    ArePut (Some kind) (make (pos 0)) (signed_12 (λ t. None) store make (Applied function e)))
    × ((make : ℕ → Inst) (e : Expression) →
    ArePut (Some kind) (make 0) (upper_20 (λ t. None) make (Applied function e)))

-- these are the templates of the form with a constant of an operation on registers, at a number
abbrev pub IsConstantRow : Option Mnemonic → ℕ → ℕ → ℤ → Option Kind → List Template → Type 0
IsConstantRow form rd rs1 number reloc found =
    (e : Expression) (i : Inst) → by_constant (λ t. Some number) form rd rs1 (Value e) ≡ alone i →
    found ≡ with_reloc reloc i

abbrev pub is_store : Operation → Bool
is_store (operations.Store operation rs2 rs1) = true
is_store _ = false

-- these are the templates of an operation with an operand that puts such a number into its field
abbrev pub AreNumbered : Operation → ℤ → Option Kind → List Template → Type 0
AreNumbered operation number reloc found =
    (function : Option Function) (value : Option ℤ) (rvc : Bool) (bytes : ℕ) (e : Expression)
    (parts : List Part) → Puts function value (is_store operation) number reloc
    → parts_of (λ t. value) rvc bytes (with_operand operation (number_operand function e))
    ≡ Some parts
    → all_templates parts ≡ found

-- the form that a mnemonic is with a number beside these registers
abbrev pub form_beside : ParcelOperation → ℕ → ℕ → ℤ → Option Compressed
form_beside operation a b k =
    if is_number (shape_of operation)
    then form_of operation (own_registers operation a b) k else None

abbrev pub form_told : ParcelOperation → ℕ → ℕ → Option ℤ → Option Compressed
form_told operation a b number =
    if is_number (shape_of operation)
    then by_form (form_of operation (own_registers operation a b)) number else None

-- these are the templates of a statement, whatever constants there are
abbrev pub AreTemplates : (rvc : Bool) → (bytes : ℕ) → StatementKind → List Template → Type 0
AreTemplates rvc bytes kind found =
    (v : Constants) → option_map all_templates (parts_of v rvc bytes kind) ≡ Some found

-- one says more than an instruction: `li` may have several, and a parcel is a form
abbrev pub says_more_with : Operation → Bool
says_more_with (operations.Li rd) = true
says_more_with (operations.Parcel operation a b) = true
says_more_with _ = false

-- this is its one instruction, under whichever relocation it is put, unless it says more
abbrev pub IsNumberedOne : Operation → ℤ → Option Inst → Type 0
IsNumberedOne operation number None = says_more_with operation ≡ true
IsNumberedOne operation number (Some i) =
    (reloc : Option Kind) → AreNumbered operation number reloc (with_reloc reloc i)

abbrev pub form_by : ℤ → Bool → ℕ → Manner
form_by number rvc bytes = record { worth = told.Number number; bytes = bytes; rvc = rvc }

-- a statement names no form of a parcel
abbrev pub IsUnnamed : StatementKind → Type 0
IsUnnamed kind = (v : Constants) → named_of v kind ≡ None

-- an operation with this constant has no fault, this one instruction, and names no form
pub record IsOne (operation : Operation) (number : ℤ) (i : Inst) : Type 0 where
  pub sound : (rvc : Bool) (bytes : ℕ) (e : Expression) →
      faults_by (form_by number rvc bytes) (statement_with operation None e) ≡ []
  pub is : (rvc : Bool) (bytes : ℕ) (e : Expression) →
      form_templates (form_by number rvc bytes) (statement_with operation None e)
      ≡ Some (plain i ∷ [])
  pub unnamed : (e : Expression) → IsUnnamed (statement_with operation None e)

-- one says more than an instruction: an operation on one register may have two,
-- and a parcel is a form
abbrev pub says_more : Plain → Bool
says_more (plains.Unary operation rd rs) = true
says_more (plains.Parcel operation a b) = true
says_more _ = false

-- a statement without an expression is this one instruction, compressed code or not, unless it
-- says more
abbrev pub IsBareOne : StatementKind → Bool → Option Inst → Type 0
IsBareOne kind more None = more ≡ true
IsBareOne kind more (Some i) = (rvc : Bool) (bytes : ℕ) → AreTemplates rvc bytes kind (plain i ∷ [])
