-- The faults of one instruction, by its operands and what their expressions are worth (RISC-V
-- Unprivileged ISA 20191213, chapter 24, for ranges; RISC-V Assembly Programmer's Manual; GNU as,
-- "RISC-V-Modifiers", for parts of addresses). What has no row is refused as such,
-- where nothing else is wrong.

use Rattle.std.specs.Prelude.{ℕ, ℤ, Bool, true, false, not, ◌||◌, ◌==◌, List, [], ◌∷◌, ◌++◌, flat_map, Option, Some, is_some}
use Rattle.rv_isa_laws.specs.Halves.{hi, lo}
use Rattle.rv_expression_laws.specs.Codes.{unsupported_here, scratch_register, undefined_local, not_constant, immediate_range, faulty_if}
use Rattle.rv_statement_laws.specs.declared.mnemonic.Mnemonic.{Mnemonic}
use Rattle.rv_statement_laws.specs.declared.mnemonic.Mnemonic.TheVariants.{Registers, Shift, Load, Store, Li, Call, Jump, Parcel}
use Rattle.rv_statement_laws.specs.declared.pseudo.Function.TheVariants.{Hi, Lo, PcrelHi, PcrelLo}
use Rattle.rv_statement_laws.specs.Statement.{StatementKind, Instruction, Expression, Operand, Register, Value, Applied, Target}
use Rattle.rv_parse_laws.specs.Syntax.{with_constant}
use Rattle.rv_pseudo_laws.specs.Code.{Constants, code}
use Rattle.rv_pseudo_laws.specs.Valid.{is_upper_20, takes}

-- what an expression is worth to an instruction
pub data Worth : Type 0 where
  -- a constant
  Number : (number : ℤ) → Worth
  -- the address of a symbol and a constant beside it: whether the symbol is a label of the file
  Address : (labelled : Bool) → Worth
  -- neither, and the code of the fault
  Wrong : (code : ℕ) → Worth

-- ---- numbers

-- a number outside the range of an instruction's field
abbrev pub range_faults : Mnemonic → ℤ → List ℕ
range_faults mnemonic k = faulty_if (not (takes mnemonic k)) immediate_range

-- a number has to be a constant in its range
abbrev pub number_faults : Mnemonic → Worth → List ℕ
number_faults mnemonic (Number k) = range_faults mnemonic k
number_faults mnemonic (Address labelled) = not_constant ∷ []
number_faults mnemonic (Wrong code) = code ∷ []

-- ---- targets, and parts of numbers and addresses

-- a target is a symbol's address
abbrev pub target_faults : Worth → List ℕ
target_faults (Number k) = immediate_range ∷ []
target_faults (Address labelled) = []
target_faults (Wrong code) = code ∷ []

abbrev pub upper_faults : Worth → List ℕ
upper_faults (Number k) = faulty_if (not (is_upper_20 (hi k))) immediate_range
upper_faults (Address labelled) = []
upper_faults (Wrong code) = code ∷ []

abbrev pub is_signed_12 : Option Mnemonic → Bool
is_signed_12 (Some (Shift operation)) = false
is_signed_12 form = true

-- whether an instruction's number may be the low part of an address: one of 12 signed bits may, a
-- shift's, `li`'s and a parcel's may not
abbrev pub takes_address : Mnemonic → Bool
takes_address (Registers operation) = is_signed_12 (with_constant operation)
takes_address (Shift operation) = false
takes_address Li = false
takes_address (Parcel operation) = false
takes_address mnemonic = true

abbrev pub low_faults : Mnemonic → Worth → List ℕ
low_faults mnemonic (Number k) = range_faults mnemonic (lo k)
low_faults mnemonic (Address labelled) = faulty_if (not (takes_address mnemonic)) not_constant
low_faults mnemonic (Wrong code) = code ∷ []

abbrev pub is_labelled : Worth → Bool
is_labelled (Address labelled) = labelled
is_labelled _ = false

-- the low part of a distance is that of the upper part at a label of the file
abbrev pub distance_faults : Mnemonic → Worth → List ℕ
distance_faults mnemonic w =
    faulty_if (not (is_labelled w)) undefined_local
    ++ faulty_if (not (takes_address mnemonic)) not_constant

-- ---- operands

-- the faults of an operand, where w says what expressions are worth
abbrev pub operand_faults : (Expression → Worth) → Mnemonic → Operand → List ℕ
operand_faults w mnemonic (Value e) = number_faults mnemonic (w e)
operand_faults w mnemonic (Target e) = target_faults (w e)
operand_faults w mnemonic (Applied Hi e) = upper_faults (w e)
operand_faults w mnemonic (Applied Lo e) = low_faults mnemonic (w e)
operand_faults w mnemonic (Applied PcrelHi e) = target_faults (w e)
operand_faults w mnemonic (Applied PcrelLo e) = distance_faults mnemonic (w e)
operand_faults w mnemonic _ = []

-- a register that holds an address on the way to a symbol is not x0, and not the one that is stored
abbrev pub scratch_faults : Mnemonic → List Operand → List ℕ
scratch_faults (Load operation) (Register rd ∷ Target e ∷ []) = faulty_if (rd == 0) scratch_register
scratch_faults (Store operation) (Register rs2 ∷ Target e ∷ Register rt ∷ []) =
    faulty_if ((rt == 0) || (rt == rs2)) scratch_register
scratch_faults Call (Register rd ∷ Target e ∷ []) = faulty_if (rd == 0) scratch_register
scratch_faults Jump (Target e ∷ Register rt ∷ []) = faulty_if (rt == 0) scratch_register
scratch_faults mnemonic operands = []

abbrev pub own_faults : (Expression → Worth) → Mnemonic → List Operand → List ℕ
own_faults w mnemonic operands =
    scratch_faults mnemonic operands ++ flat_map (operand_faults w mnemonic) operands

-- ---- what has a row

-- a part of an address in a field that takes none has no row; no source says that, by its grammar
abbrev pub has_row : Constants → Mnemonic → List Operand → Bool
has_row v mnemonic operands = is_some (code v false 4 mnemonic operands)

-- what has no fault and no row has that one
abbrev pub else_unplaced : Bool → List ℕ → List ℕ
else_unplaced placed [] = faulty_if (not placed) unsupported_here
else_unplaced placed (code ∷ codes) = code ∷ codes

-- the codes of an instruction's faults, where v gives constants
abbrev pub faults : Constants → (Expression → Worth) → StatementKind → List ℕ
faults v w (Instruction mnemonic operands) =
    else_unplaced (has_row v mnemonic operands) (own_faults w mnemonic operands)
faults v w _ = []
