-- The base instructions that stand for a statement at its row, with the numbers of its operands
-- (RISC-V Assembly Programmer's Manual, pseudo-instructions; RISC-V ELF psABI, "PC-Relative
-- Addresses").

use Rattle.std.specs.Prelude.{◌≡◌, ℕ, ℤ, pos, ◌-ℤ◌, ◌+◌, ◌/◌, ◌%◌, Bool, true, false, ◌&&◌, ◌==◌, if◌then◌else◌, List, [], ◌∷◌, map, replicate, Option, Some, None, option_map, option_and_then}
use Rattle.std.specs.Int.{w64, int_wrap}
use Rattle.std.specs.List.{find}
use Rattle.rv_isa.specs.Kinds.{is_low_part}
use Rattle.rv_isa.specs.declared.instruction.Inst.{Inst}
use Rattle.rv_isa_laws.specs.Arithmetic.{signed}
use Rattle.rv_isa_laws.specs.Halves.{hi, lo}
use Rattle.rv_expression_laws.specs.Values.{Value, Constant, Symbolic}
use Rattle.rv_statement_laws.specs.declared.mnemonic.Mnemonic.TheVariants.{Upper, Load, Store, La}
use Rattle.rv_statement_laws.specs.declared.pseudo.Function.TheVariants.{Hi, Lo, PcrelHi, PcrelLo}
use Rattle.rv_statement_laws.specs.Statement.{StatementKind, Label, Numbered, Instruction, Directs, Operand, Register, Value as Of_value, Applied, Target, Expression, Directive, Sets, Aligns}
use Rattle.rv_pseudo_laws.specs.Li.{addi}
use Rattle.rv_parcel.specs.declared.form.Compressed.{Compressed}
use Rattle.rv_pseudo_laws.specs.Code.{Part, Closed, Constants, named_form, code}
use Rattle.rv_pseudo_laws.specs.Filled.{FieldValue, filled}
use Rattle.rv_unit_laws.specs.Tables.{definition}
use Rattle.rv_source_laws.specs.Located.{Located}
use Rattle.rv_source_laws.specs.Program.{Mapped, Program, form, number, own_number, has_values, tables_in}

-- ---- the parts of a statement's code

abbrev pub constant_of : Value → Option ℤ
constant_of (Constant n) = Some (signed 64 n)
constant_of _ = None

-- the expressions of a statement that are constants
abbrev pub constants : Program → Located → Constants
constants p s e = constant_of (form p s e)

-- an instruction without effect
abbrev pub no_operation : Inst
no_operation = addi 0 0 (pos 0)

-- a padding in code has one instruction per 4 bytes and one for 2 that remain
abbrev pub padding_parts : ℕ → List Part
padding_parts bytes = replicate (bytes / 4 + bytes % 4 / 2) (Closed no_operation)

-- a place has no code; data are no instructions
abbrev pub directive_parts : Directive → ℕ → Option (List Part)
directive_parts (Sets name e) bytes = Some []
directive_parts (Aligns form exponent) bytes = Some (padding_parts bytes)
directive_parts _ bytes = None

-- the code of a statement whose row has so many bytes
abbrev pub parts_by_size : Constants → Bool → ℕ → StatementKind → Option (List Part)
parts_by_size v rvc bytes (Label name) = Some []
parts_by_size v rvc bytes (Numbered number) = Some []
parts_by_size v rvc bytes (Instruction mnemonic operands) = code v rvc bytes mnemonic operands
parts_by_size v rvc bytes (Directs directive) = directive_parts directive bytes

abbrev pub parts : Program → Mapped → Option (List Part)
parts p s =
    parts_by_size (constants p s.located) s.located.options.rvc s.row.bytes s.located.kind

-- the form of a parcel that it names
abbrev pub form_in : Constants → StatementKind → Option Compressed
form_in v (Instruction mnemonic operands) = named_form v mnemonic operands
form_in v _ = None

abbrev pub form_at : Program → Mapped → Option Compressed
form_at p s = form_in (constants p s.located) s.located.kind

-- ---- the operand that has a number

-- the operand that is no register: a statement has one at most that can be open
abbrev pub other_operand : List Operand → Option Operand
other_operand [] = None
other_operand (Register number ∷ operands) = other_operand operands
other_operand (operand ∷ operands) = Some operand

abbrev pub operand_of : StatementKind → Option Operand
operand_of (Instruction mnemonic operands) = other_operand operands
operand_of _ = None

-- the number of an operand, an address where it names one
abbrev pub operand_number : (Expression → ℕ) → Option Operand → ℕ
operand_number v (Some (Of_value e)) = v e
operand_number v (Some (Applied function e)) = v e
operand_number v (Some (Target e)) = v e
operand_number v _ = 0

abbrev pub target : Program → Mapped → ℕ
target p s = operand_number (number p s) (operand_of s.located.kind)

-- from an address to a target, taken as signed
abbrev pub distance : ℕ → ℕ → ℤ
distance address target = int_wrap w64 (pos target -ℤ pos address)

-- ---- the upper part that a low part belongs to

-- whether a statement begins with the upper part of a distance: it says so, or it is one that takes
-- an address by two instructions
abbrev pub takes_upper : StatementKind → Bool
takes_upper (Instruction (Upper operation) (Register rd ∷ Applied PcrelHi e ∷ [])) = true
takes_upper (Instruction La (Register rd ∷ Target e ∷ [])) = true
takes_upper (Instruction (Load operation) (Register rd ∷ Target e ∷ [])) = true
takes_upper (Instruction (Store operation) (Register rs2 ∷ Target e ∷ Register rt ∷ [])) = true
takes_upper _ = false

-- the section of a file's statement of this ordinal
abbrev pub statement_section : Program → ℕ → ℕ → Option ℕ
statement_section p file ordinal =
    option_map (λ e. e.located.section)
    (find (λ e. (e.located.file == file) && (e.located.ordinal == ordinal)) p.statements)

-- the section of the label that a value names
abbrev pub label_section : Program → Located → Value → Option ℕ
label_section p s (Symbolic q at plus) =
    option_and_then (λ d. statement_section p s.file d.ordinal)
    (definition (tables_in p s.file) s.ordinal q)
label_section p s _ = None

abbrev pub is_upper_at : Program → ℕ → ℕ → ℕ → Mapped → Bool
is_upper_at p file section address m =
    (m.located.file == file) && (m.located.section == section) && (m.row.address == address)
    && takes_upper m.located.kind

-- the first statement of a section at an address that takes the upper part of a distance
abbrev pub upper_at : Program → ℕ → ℕ → Option ℕ → Option Mapped
upper_at p file address None = None
upper_at p file address (Some section) = find (is_upper_at p file section address) p.mapped

-- the statement at the label of its own file that `%pcrel_lo` names
abbrev pub pair_of : Program → Mapped → Expression → Option Mapped
pair_of p s e =
    upper_at p s.located.file (own_number p s e)
    (label_section p s.located (form p s.located e))

abbrev pub pair_distance : Program → Option Mapped → ℤ
pair_distance p None = pos 0
pair_distance p (Some m) = distance m.row.address (target p m)

-- ---- the number that an operand gives its instruction

-- by the numbers and addresses of expressions, the distances of the upper parts that labels name,
-- and the statement's own address: a number, a half of one, a half of a distance, or a distance
abbrev pub operand_gives : (Expression → ℕ) → (Expression → ℤ) → ℕ → Option Operand → ℤ
operand_gives v pair a (Some (Of_value e)) = signed 64 (v e)
operand_gives v pair a (Some (Applied Hi e)) = hi (signed 64 (v e))
operand_gives v pair a (Some (Applied Lo e)) = lo (signed 64 (v e))
operand_gives v pair a (Some (Applied PcrelHi e)) = hi (distance a (v e))
operand_gives v pair a (Some (Applied PcrelLo e)) = lo (pair e)
operand_gives v pair a (Some (Target e)) = distance a (v e)
operand_gives v pair a _ = pos 0

-- the distance of the upper part at the label that a statement names
abbrev pub paired : Program → Mapped → Expression → ℤ
paired p s e = pair_distance p (pair_of p s e)

abbrev pub gives : Program → Mapped → Option Operand → ℤ
gives p s = operand_gives (number p s) (paired p s) s.row.address

-- ---- what the open fields of its code take

-- what an operand stands for at an address: a part of an address takes it whole, all else counts
-- from there
abbrev pub operand_value : Program → Mapped → Option Operand → ℕ → ℤ
operand_value p s (Some (Applied PcrelLo e)) a = paired p s e
operand_value p s (Some (Applied Hi e)) a = signed 64 (number p s e)
operand_value p s (Some (Applied Lo e)) a = signed 64 (number p s e)
operand_value p s operand a = distance a (operand_number (number p s) operand)

-- what a field of a statement takes: what the statement's operand stands for; a low part counts
-- from the upper one, which stands first in its statement
abbrev pub field_value : Program → Mapped → FieldValue
field_value p s k a =
    operand_value p s (operand_of s.located.kind) (if is_low_part k then s.row.address else a)

-- ---- lines

-- the base instructions that stand for a statement; none where a name in it has no meaning
abbrev pub expansion : Program → Mapped → Option (List Inst)
expansion p s =
    if has_values p s
    then option_map (filled (field_value p s) s.row.address) (parts p s) else None

-- a line of a statement: an instruction of 2 or 4 bytes at its address
pub record Line : Type 0 where
  pub address : ℕ
  pub bytes : ℕ
  pub instruction : Inst

-- lines that follow one another from an address to an end
abbrev pub Lie : ℕ → List Line → ℕ → Type 0
Lie address [] stop = address ≡ stop
Lie address (l ∷ ls) stop = (l.address ≡ address) × Lie (address + l.bytes) ls stop

-- the lines of a statement: its base instructions, one after another over the bytes of its row
abbrev pub AreLines : Program → Mapped → List Line → Type 0
AreLines p s lines =
    (expansion p s ≡ Some (map (λ l. l.instruction) lines))
    × Lie s.row.address lines (s.row.address + s.row.bytes)
