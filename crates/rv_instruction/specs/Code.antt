-- The code of a statement, and the faults of one.

use Rattle.std.specs.Prelude.{◌≡◌, ◌⊎◌, ⊤, ℕ, Bool, true, false, ◌&&◌, List, [], ◌∷◌, ◌++◌, length, map, sum_by, Option, Some, None, is_some, not, Result, Ok, Err, if◌then◌else◌}
use Rattle.std.specs.List.{AllByRecursion, list_all}
use Rattle.arrayvec.specs.ArrayVec.{ArrayVec}
use Rattle.rv_isa.specs.declared.instruction.Inst.{Inst}
use Rattle.rv_isa.specs.declared.kind.Kind.{Kind}
use Rattle.rv_isa.specs.declared.kind.Kind.TheVariants as kinds
use Rattle.rv_isa.specs.Kinds.{width_of}
use Rattle.rv_isa.specs.Ranges.{IsValid}
use Rattle.rv_isa_laws.specs.Arithmetic.{signed}
use Rattle.rv_isa_laws.specs.Bytes.{little_endian}
use Rattle.rv_expression_laws.specs.Codes.{lowest}
use Rattle.rv_expression_laws.specs.Expression.{Primary}
use Rattle.rv_expression_laws.specs.Values as values
use Rattle.rv_fault.specs.declared.source_fault.SourceFault.{SourceFault}
use Rattle.rv_fault.specs.declared.source_fault.SourceFault.TheVariants.{At, OutOfMemory}
use Rattle.rv_fault.specs.SourceFault.{source_fault_number}
use Rattle.rv_statement_laws.specs.declared.mnemonic.Mnemonic.{Mnemonic}
use Rattle.rv_statement_laws.specs.declared.pseudo.Function.{Function}
use Rattle.rv_statement_laws.specs.declared.pseudo.Function.TheVariants.{PcrelLo}
use Rattle.rv_statement.specs.declared.statement.Operation.{Operation}
use Rattle.rv_statement_laws.specs.Statement.{StatementKind, Instruction, Operand, Expression, Statement}
use Rattle.rv_unit_laws.specs.Faults.{constant_faults}
use Rattle.rv_size_laws.specs.declared.item.Forms.{Forms}
use Rattle.rv_size_laws.specs.Branches.{Offers}
use Rattle.rv_parcel.specs.Encoded.{HasShort}
use Rattle.rv_pseudo_laws.specs.Code.{Part, Closed, Open, Joined, Constants, code}
use Rattle.rv_pseudo_laws.specs.Filled.{are_closed, code_bytes}
use Rattle.rv_pseudo_laws.specs.InstructionFaults.{Worth}
use Rattle.rv_pseudo_laws.specs.Valid.{AreOperandsOf, IsOpen}
use Rattle.rv_pseudo.specs.declared.template.Template.{Template}
use Rattle.rv_pseudo.specs.Templates.{plain, asked_bytes, IsOne}
use Rattle.rv_assemble_laws.specs.Coded.{IsCode, constants, joined}
use Rattle.rv_assemble_laws.specs.InstructionFaults.{instruction_faults, worth}
use Rattle.rv_source_laws.specs.Sizes.{near_forms}
use Rattle.rv_instruction.specs.declared.encoded.Encoded.{Encoded}
use Rattle.rv_instruction.specs.declared.encoded.Encoded.TheVariants.{Parcel, Word, Pair}
use Rattle.rv_instruction.specs.declared.encoded.Coded.{Coded}

-- ---- one part

-- a part of a statement's code as it lies in memory
abbrev pub encoded_bytes : Encoded → List ℕ
encoded_bytes (Parcel p) = little_endian 2 p
encoded_bytes (Word w) = little_endian 4 w
encoded_bytes (Pair v w) = little_endian 4 v ++ little_endian 4 w

-- how many instructions it is
abbrev pub encoded_instructions : Encoded → ℕ
encoded_instructions (Pair v w) = 2
encoded_instructions e = 1

abbrev pub coded_by : List Coded → List (List ℕ)
coded_by found = map (λ (c : Coded). encoded_bytes c.encoded) found

abbrev pub instructions_of : List Coded → ℕ
instructions_of found = sum_by (λ (c : Coded). encoded_instructions c.encoded) found

-- the kind of the field that a part leaves open, if it leaves one, and how many instructions it is
pub record Shape : Type 0 where
  pub kind : Option Kind
  pub instructions : ℕ

abbrev pub shape_by : Option Kind → ℕ → Shape
shape_by k n = record { kind = k; instructions = n }

abbrev pub shape_of : Part → Shape
shape_of (Closed i) = shape_by None 1
shape_of (Open k i) = shape_by (Some k) 1
shape_of (Joined k i j) = shape_by (Some k) 2

abbrev pub shape_in : Coded → Shape
shape_in c = shape_by c.kind (encoded_instructions c.encoded)

-- ---- one statement

-- how long a branch or a jump is asked to be: in one of its forms
abbrev pub OffersAny : Option Forms → ℕ → Type 0
OffersAny None bytes = ⊤
OffersAny (Some forms) bytes = Offers forms bytes

abbrev pub near_forms_of : Bool → StatementKind → Option Forms
near_forms_of rvc (Instruction mnemonic operands) = near_forms rvc mnemonic operands
near_forms_of rvc _ = None

abbrev pub MayHave : Bool → StatementKind → ℕ → Type 0
MayHave rvc kind bytes = OffersAny (near_forms_of rvc kind) bytes

-- the code of an instruction with these values, asked for so many bytes where it is a branch or a
-- jump, where compressed code is on or off
pub record IsCodeOf (v : Expression → values.Value) (rvc : Bool) (bytes : ℕ) (mnemonic : Mnemonic)
    (operands : List Operand) (found : List Coded) : Type 0 where
  pub is : IsCode v rvc mnemonic operands (length (joined (coded_by found))) (coded_by found)
      (instructions_of found)
  -- its parts are those of the form that was asked for
  pub asked : code (constants v) rvc (asked_bytes mnemonic bytes) mnemonic operands ≡ Some is.ps
  pub shapes : map shape_in found ≡ map shape_of is.ps
  -- a branch or a jump that may be near has the bytes that were asked for
  pub near : is_some (near_forms rvc mnemonic operands) ≡ true →
      length (joined (coded_by found)) ≡ bytes

-- the code of a statement; what is no instruction has none
abbrev pub HasCode :
    (Expression → values.Value) → Bool → ℕ → StatementKind → List Coded → Type 0
HasCode v rvc bytes (Instruction mnemonic operands) found =
    IsCodeOf v rvc bytes mnemonic operands found
HasCode v rvc bytes kind found = found ≡ []

-- the code of a statement, or the lowest code of its faults; l says which symbols are labels of the
-- file
abbrev pub Codes :
    Bool → ℕ → (Expression → values.Value) → (Primary → Bool) → Statement
    → Result (ArrayVec Coded) SourceFault → Type 0
Codes rvc bytes v l s (Ok found) =
    (instruction_faults v l s.kind ≡ []) × HasCode v rvc bytes s.kind found.items
Codes rvc bytes v l s (Err (At code at)) =
    (lowest (instruction_faults v l s.kind) ≡ Some (source_fault_number code)) × (at ≡ s.line)
Codes rvc bytes v l s (Err OutOfMemory) = ⊥

-- ---- templates as parts

-- the relocation of a call stands at the first of its two instructions
abbrev pub is_call_field : Option Kind → Bool
is_call_field (Some kinds.CallPlt) = true
is_call_field _ = false

abbrev pub part_by : Inst → Option Kind → Part
part_by i None = Closed i
part_by i (Some k) = Open k i

abbrev pub part_of : Template → Part
part_of t = part_by t.inst t.reloc

abbrev pub is_pair : List Template → Bool
is_pair [] = false
is_pair (t ∷ []) = false
is_pair (t ∷ u ∷ []) = is_call_field t.reloc
is_pair (t ∷ u ∷ w ∷ ts) = false

abbrev pub call_of : Inst → Inst → Part
call_of i j = Joined kinds.CallPlt i j

abbrev pub pair_of : Template → Template → List Part
pair_of t u =
    if is_call_field t.reloc then call_of t.inst u.inst ∷ []
    else part_of t ∷ part_of u ∷ []

abbrev pub parts_in : List Template → List Part
parts_in [] = []
parts_in (t ∷ []) = part_of t ∷ []
parts_in (t ∷ u ∷ []) = pair_of t u
parts_in (t ∷ u ∷ w ∷ ts) = part_of t ∷ part_of u ∷ part_of w ∷ map part_of ts

-- instructions without open fields, as parts of a statement's code
abbrev pub known_parts : List Template → List Part
known_parts form_templates = map (λ t. Closed t.inst) form_templates

-- no field is open
abbrev pub is_closed : Template → Bool
is_closed t = not (is_some t.reloc)

abbrev pub are_all_closed : List Template → Bool
are_all_closed form_templates = list_all is_closed form_templates

-- the fields of two bytes, of parcels
abbrev pub is_short : Kind → Bool
is_short kinds.RvcBranch = true
is_short kinds.RvcJump = true
is_short k = false

-- a part has bytes: its operands are in range, and an open field of two bytes is one of a parcel
abbrev pub IsCodable : Part → Type 0
IsCodable (Closed i) = IsValid i
IsCodable (Open k i) =
    IsOpen k i
    × (((is_short k ≡ false) × (width_of k ≡ 4)) ⊎ ((is_short k ≡ true) × HasShort i))
IsCodable (Joined k i j) = IsOpen k i × IsOpen k j × (width_of k ≡ 8)

abbrev pub AreCodableEach : List Template → Type 0
AreCodableEach form_templates = AllByRecursion (λ t. IsCodable (part_of t)) form_templates

abbrev pub AreCodable : List Template → Type 0
AreCodable form_templates = AllByRecursion IsCodable (parts_in form_templates)

-- these are the instructions of an instruction
pub record AreTemplatesOf (v : Expression → values.Value) (rvc : Bool) (bytes : ℕ)
    (mnemonic : Mnemonic) (operands : List Operand) (found : List Template) : Type 0 where
  pub asked : code (constants v) rvc (asked_bytes mnemonic bytes) mnemonic operands
      ≡ Some (parts_in found)
  -- and those of the bytes that they have
  pub own : (size : ℕ) → (are_closed (parts_in found) ≡ false → size ≡ code_bytes (parts_in found))
      → code (constants v) rvc size mnemonic operands ≡ Some (parts_in found)
  pub near : OffersAny (near_forms rvc mnemonic operands) bytes →
      is_some (near_forms rvc mnemonic operands) ≡ true →
      (are_closed (parts_in found) ≡ false) × (code_bytes (parts_in found) ≡ bytes)

abbrev pub HasTemplates :
    (Expression → values.Value) → Bool → ℕ → StatementKind → List Template → Type 0
HasTemplates v rvc bytes (Instruction mnemonic operands) found =
    AreTemplatesOf v rvc bytes mnemonic operands found
HasTemplates v rvc bytes kind found = found ≡ []

-- the same, or the lowest code of the statement's faults
abbrev pub IsExpanded :
    Bool → ℕ → (Expression → values.Value) → (Primary → Bool) → Statement
    → Result (ArrayVec Template) SourceFault → Type 0
IsExpanded rvc bytes v l s (Ok found) =
    (instruction_faults v l s.kind ≡ []) × HasTemplates v rvc bytes s.kind found.items
IsExpanded rvc bytes v l s (Err (At code at)) =
    (lowest (instruction_faults v l s.kind) ≡ Some (source_fault_number code)) × (at ≡ s.line)
IsExpanded rvc bytes v l s (Err OutOfMemory) = ⊥

-- the operands of a statement of code are in their ranges
abbrev pub AreInRange : Constants → StatementKind → Type 0
AreInRange v (Instruction mnemonic operands) = AreOperandsOf v mnemonic operands
AreInRange v _ = ⊤

-- ---- what values are worth

-- only the low part of a distance asks whether a symbol is a label
abbrev pub asks_label : Option Function → Bool
asks_label (Some PcrelLo) = true
asks_label _ = false

abbrev pub worth_for : Option Function → (Primary → Bool) → values.Value → Worth
worth_for function l v = worth (λ q. asks_label function && l q) v

-- ---- constants

-- the constant that a value is, or its fault at a line
abbrev pub IsConstant : values.Value → ℕ → Result ℕ SourceFault → Type 0
IsConstant v line (Ok n) = v ≡ values.Constant n
IsConstant v line (Err (At code at)) =
    (constant_faults v ≡ source_fault_number code ∷ []) × (at ≡ line)
IsConstant v line (Err OutOfMemory) = ⊥

-- ---- one instruction

-- an operation with this value, a constant, is this one instruction
abbrev pub IsOneOf : Operation → values.Value → Inst → Type 0
IsOneOf operation v i =
    (n : ℕ) × ((v ≡ values.Constant n) × IsOne operation (signed 64 n) i)

abbrev pub alone : Inst → ArrayVec Template
alone i = record { items = plain i ∷ [] }

-- a part that leaves no field open
abbrev pub whole : Encoded → Coded
whole e = record { encoded = e; kind = None }

abbrev pub alone_coded : Encoded → ArrayVec Coded
alone_coded e = record { items = whole e ∷ [] }
