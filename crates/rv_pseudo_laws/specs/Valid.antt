-- Which operands and constants the instructions of a statement can have (ISA, chapter 24), and
-- which of their fields a relocation of each kind fills (RISC-V ELF psABI, "Relocations").

use Rattle.std.specs.Prelude.{◌≡◌, ◌^◌, ℤ, pos, Bool, true, false, ◌&&◌, ◌||◌, int_le, int_lt, List, Option, Some, None, option_map, ⊤}
use Rattle.std.specs.List.{AllByRecursion}
use Rattle.rv_isa.specs.declared.kind.Kind.{Kind}
use Rattle.rv_isa.specs.declared.kind.Kind.TheVariants as kind
use Rattle.rv_isa.specs.declared.instruction.Format.{Format}
use Rattle.rv_isa.specs.declared.instruction.Format.TheVariants as format
use Rattle.rv_isa.specs.declared.instruction.Inst.{Inst}
use Rattle.rv_isa.specs.declared.operation.ShiftOperation.{ShiftOperation}
use Rattle.rv_isa.specs.Operations.{format_of}
use Rattle.rv_isa.specs.Ranges.{IsReg, IsValid, shift_limit}
use Rattle.rv_isa_laws.specs.Halves.{hi, lo}
use Rattle.rv_parcel.specs.Mnemonics.{takes_number}
use Rattle.rv_statement_laws.specs.declared.mnemonic.Mnemonic.{Mnemonic}
use Rattle.rv_statement_laws.specs.declared.mnemonic.Mnemonic.TheVariants.{Registers, Immediate, Shift, Upper, Li, Parcel}
use Rattle.rv_statement_laws.specs.declared.pseudo.Function.TheVariants.{Hi, Lo}
use Rattle.rv_statement_laws.specs.Statement.{Operand, Register, Value, Applied}
use Rattle.rv_parse_laws.specs.Syntax.{with_constant}
use Rattle.rv_pseudo_laws.specs.Li.{is_signed}
use Rattle.rv_pseudo_laws.specs.Code.{Part, Closed, Open, Joined, Constants}

-- ---- constants

-- whether a shift can have this amount
abbrev pub is_amount : ShiftOperation → ℤ → Bool
is_amount operation k = int_le (pos 0) k && int_lt k (pos (shift_limit operation))

-- whether a number has 20 bits
abbrev pub is_upper_20 : ℤ → Bool
is_upper_20 k = int_le (pos 0) k && int_lt k (pos (2 ^ 20))

-- whether a number is in the range of the form with a constant of an operation on registers
abbrev pub form_takes : Option Mnemonic → ℤ → Bool
form_takes (Some (Immediate operation)) k = is_signed 12 k
form_takes (Some (Shift operation)) k = is_amount operation k
form_takes _ k = false

-- whether a number is in the range of the statement's field
abbrev pub takes : Mnemonic → ℤ → Bool
takes (Registers operation) k = form_takes (with_constant operation) k
takes (Shift operation) k = is_amount operation k
takes (Upper operation) k = is_upper_20 k
takes Li k = is_signed 64 k
takes (Parcel operation) k = takes_number operation k
takes mnemonic k = is_signed 12 k

-- an open number is in none
abbrev pub takes_constant : Mnemonic → Option ℤ → Bool
takes_constant mnemonic None = true
takes_constant mnemonic (Some k) = takes mnemonic k

-- ---- operands

-- a register is x0 to x31, and a constant in its range, after a function of it
abbrev pub IsOperandOf : Constants → Mnemonic → Operand → Type 0
IsOperandOf v mnemonic (Register r) = IsReg r
IsOperandOf v mnemonic (Value e) = takes_constant mnemonic (v e) ≡ true
IsOperandOf v mnemonic (Applied Hi e) = takes_constant mnemonic (option_map hi (v e)) ≡ true
IsOperandOf v mnemonic (Applied Lo e) = takes_constant mnemonic (option_map lo (v e)) ≡ true
IsOperandOf v mnemonic o = ⊤

abbrev pub AreOperandsOf : Constants → Mnemonic → List Operand → Type 0
AreOperandsOf v mnemonic operands = AllByRecursion (IsOperandOf v mnemonic) operands

-- ---- the fields of relocations

abbrev pub fills_branch : Kind → Bool
fills_branch kind.Branch = true
fills_branch kind.RvcBranch = true
fills_branch k = false

abbrev pub fills_jump : Kind → Bool
fills_jump kind.Jal = true
fills_jump kind.RvcJump = true
fills_jump k = false

-- `auipc` and `jalr` of a call
abbrev pub fills_call : Kind → Bool
fills_call kind.Call = true
fills_call kind.CallPlt = true
fills_call k = false

abbrev pub fills_upper : Kind → Bool
fills_upper kind.Hi20 = true
fills_upper kind.PcrelHi20 = true
fills_upper k = fills_call k

abbrev pub fills_lower : Kind → Bool
fills_lower kind.Lo12I = true
fills_lower kind.PcrelLo12I = true
fills_lower k = false

abbrev pub fills_store : Kind → Bool
fills_store kind.Lo12S = true
fills_store kind.PcrelLo12S = true
fills_store k = false

-- whether a relocation of a kind fills the field of an instruction of a format
abbrev pub fills : Format → Kind → Bool
fills (format.Branch operation x) k = fills_branch k
fills (format.Jal x) k = fills_jump k
fills (format.Upper operation x) k = fills_upper k
fills (format.Immediate operation x) k = fills_lower k
fills (format.Load operation x) k = fills_lower k
fills (format.Jalr x) k = fills_lower k || fills_call k
fills (format.Store operation x) k = fills_store k
fills f k = false

-- every operand is in its range, and the field is one of the relocation's kind
abbrev pub IsOpen : Kind → Inst → Type 0
IsOpen k i = IsValid i × (fills (format_of i) k ≡ true)

abbrev pub IsValidPart : Part → Type 0
IsValidPart (Closed i) = IsValid i
IsValidPart (Open k i) = IsOpen k i
IsValidPart (Joined k i j) = IsOpen k i × IsOpen k j
