-- The faults of the operand of a statement of code, as the code decides them (`InstructionFaults`
-- has them for any statement).

use Rattle.std.specs.Prelude.{ℕ, ℤ, pos, Bool, true, false, ◌&&◌, ◌||◌, ◌==◌, if◌then◌else◌, List, ◌++◌, Option, Some, None}
use Rattle.rv_isa_laws.specs.Halves.{hi, lo}
use Rattle.rv_parcel.specs.declared.parcel.ParcelOperation.{ParcelOperation}
use Rattle.rv_parcel.specs.declared.parcel.OperandShape.{OperandShape}
use Rattle.rv_parcel.specs.declared.parcel.OperandShape.TheVariants as shapes
use Rattle.rv_parcel.specs.Mnemonics.{register_sets, are_in, own_registers, shape_of}
use Rattle.rv_expression_laws.specs.Codes.{scratch_register, faulty_if}
use Rattle.rv_fault.specs.SourceFault.{source_fault_number}
use Rattle.rv_statement_laws.specs.declared.mnemonic.Mnemonic.{Mnemonic}
use Rattle.rv_statement_laws.specs.declared.mnemonic.Mnemonic.TheVariants as mnemonics
use Rattle.rv_statement_laws.specs.declared.pseudo.Function.{Function}
use Rattle.rv_statement_laws.specs.declared.pseudo.Function.TheVariants.{Hi, Lo, PcrelHi, PcrelLo}
use Rattle.rv_statement.specs.declared.statement.Operation.{Operation}
use Rattle.rv_statement.specs.declared.statement.Operation.TheVariants as operations
use Rattle.rv_parse_laws.specs.Syntax.{with_constant}
use Rattle.rv_pseudo_laws.specs.InstructionFaults.{Worth, Number, Address, Wrong, number_faults, target_faults, upper_faults, low_faults, distance_faults}
use Rattle.rv_pseudo.specs.declared.template.Worth.{Worth as Told}
use Rattle.rv_pseudo.specs.declared.template.Worth.TheVariants as told

-- ---- what an expression is worth

abbrev pub worth_of : Told → Worth
worth_of (told.Number k) = Number k
worth_of (told.Address labelled) = Address labelled
worth_of (told.Wrong code) = Wrong (source_fault_number code)

-- its constant, if it is one
abbrev pub constant_in : Worth → Option ℤ
constant_in (Number k) = Some k
constant_in (Address labelled) = None
constant_in (Wrong code) = None

-- the number of an operand, by its function and its value: 0 where it is open
abbrev pub number : Option Function → Option ℤ → ℤ
number function None = pos 0
number None (Some v) = v
number (Some Hi) (Some v) = hi v
number (Some Lo) (Some v) = lo v
number (Some PcrelHi) (Some v) = pos 0
number (Some PcrelLo) (Some v) = pos 0

-- ---- operations

abbrev pub mnemonic_of : Operation → Mnemonic
mnemonic_of (operations.Registers operation rd rs1) = mnemonics.Registers operation
mnemonic_of (operations.Immediate operation rd rs1) = mnemonics.Immediate operation
mnemonic_of (operations.Shift operation rd rs1) = mnemonics.Shift operation
mnemonic_of (operations.Upper operation rd) = mnemonics.Upper operation
mnemonic_of (operations.Load operation rd rs1) = mnemonics.Load operation
mnemonic_of (operations.Store operation rs2 rs1) = mnemonics.Store operation
mnemonic_of (operations.Jalr rd rs1) = mnemonics.Jalr
mnemonic_of (operations.JalrThen rd rs1) = mnemonics.Jalr
mnemonic_of (operations.JalrLinked rs1) = mnemonics.Jalr
mnemonic_of (operations.Branch operation rs1 rs2) = mnemonics.Branch operation
mnemonic_of (operations.Jal rd) = mnemonics.Jal
mnemonic_of operations.JalLinked = mnemonics.Jal
mnemonic_of (operations.LoadSymbol operation rd) = mnemonics.Load operation
mnemonic_of (operations.StoreSymbol operation rs2 rt) = mnemonics.Store operation
mnemonic_of (operations.ZeroBranch operation rs) = mnemonics.ZeroBranch operation
mnemonic_of (operations.SwappedBranch operation rs1 rs2) = mnemonics.SwappedBranch operation
mnemonic_of operations.J = mnemonics.J
mnemonic_of (operations.Jr rs) = mnemonics.Jr
mnemonic_of (operations.La rd) = mnemonics.La
mnemonic_of (operations.Li rd) = mnemonics.Li
mnemonic_of (operations.Call rd) = mnemonics.Call
mnemonic_of operations.CallLinked = mnemonics.Call
mnemonic_of operations.Tail = mnemonics.Tail
mnemonic_of (operations.Jump rt) = mnemonics.Jump
mnemonic_of (operations.Parcel operation a b) = mnemonics.Parcel operation

-- with a part of a value a store to a symbol is one at a number from a register
abbrev pub with_part : Operation → Operation
with_part (operations.StoreSymbol operation rs2 rt) = operations.Store operation rs2 rt
with_part operation = operation

-- the operation by which an operand is known
abbrev pub known_as : Operation → Option Function → Operation
known_as operation None = operation
known_as operation (Some function) = with_part operation

-- whether a target stands beside the registers of a parcel, and whether a number does
abbrev pub is_target : OperandShape → Bool
is_target shapes.Target = true
is_target _ = false

abbrev pub is_number : OperandShape → Bool
is_number shapes.Number = true
is_number shapes.Address = true
is_number _ = false

-- whether the expression of an operation is a target, and not a number
abbrev pub takes_target : Operation → Bool
takes_target (operations.Branch operation rs1 rs2) = true
takes_target (operations.ZeroBranch operation rs) = true
takes_target (operations.SwappedBranch operation a b) = true
takes_target (operations.Jal rd) = true
takes_target operations.JalLinked = true
takes_target operations.J = true
takes_target (operations.La rd) = true
takes_target (operations.LoadSymbol operation rd) = true
takes_target (operations.StoreSymbol operation rs2 rt) = true
takes_target (operations.Call rd) = true
takes_target operations.CallLinked = true
takes_target operations.Tail = true
takes_target (operations.Jump rt) = true
takes_target (operations.Parcel operation a b) = is_target (shape_of operation)
takes_target _ = false

-- ---- fields

-- the 20 bits of `lui` and `auipc` take upper parts
abbrev pub is_upper : Operation → Bool
is_upper (operations.Upper operation rd) = true
is_upper _ = false

-- whether an operation on registers has a form with a constant
abbrev pub is_constant_form : Option Mnemonic → Bool
is_constant_form (Some (mnemonics.Immediate operation)) = true
is_constant_form (Some (mnemonics.Shift operation)) = true
is_constant_form _ = false

-- whether a parcel takes these registers, and an operand beside them
abbrev pub takes_registers : ParcelOperation → ℕ → ℕ → Bool
takes_registers operation a b = are_in (register_sets operation) (own_registers operation a b)

abbrev pub takes_number_beside : ParcelOperation → ℕ → ℕ → Bool
takes_number_beside operation a b =
    is_number (shape_of operation) && takes_registers operation a b

abbrev pub takes_operand : ParcelOperation → ℕ → ℕ → Bool
takes_operand operation a b =
    (is_number (shape_of operation) || is_target (shape_of operation))
    && takes_registers operation a b

-- all other numbers take low parts
abbrev pub is_lower : Operation → Bool
is_lower (operations.Registers operation rd rs1) = is_constant_form (with_constant operation)
is_lower (operations.Immediate operation rd rs1) = true
is_lower (operations.Shift operation rd rs1) = true
is_lower (operations.Load operation rd rs1) = true
is_lower (operations.Store operation rs2 rs1) = true
is_lower (operations.StoreSymbol operation rs2 rt) = true
is_lower (operations.Jalr rd rs1) = true
is_lower (operations.JalrThen rd rs1) = true
is_lower (operations.JalrLinked rs1) = true
is_lower (operations.Jr rs) = true
is_lower (operations.Li rd) = true
is_lower (operations.Parcel operation a b) = takes_number_beside operation a b
is_lower _ = false

-- whether an operation takes an expression
abbrev pub is_written : Operation → Bool
is_written (operations.Parcel operation a b) = takes_operand operation a b
is_written _ = true

-- whether there is a row for a value, or a function of one, without faults
abbrev pub is_placed : Operation → Option Function → Bool
is_placed operation None = is_written operation
is_placed operation (Some Hi) = is_upper operation
is_placed operation (Some Lo) = is_lower operation
is_placed operation (Some PcrelHi) = is_upper operation
is_placed operation (Some PcrelLo) = is_lower operation

-- ---- faults

-- a register that holds an address on the way to a symbol is not x0, and not the one that is stored
abbrev pub is_bad_scratch : Operation → Bool
is_bad_scratch (operations.LoadSymbol operation rd) = rd == 0
is_bad_scratch (operations.StoreSymbol operation rs2 rt) = (rt == 0) || (rt == rs2)
is_bad_scratch (operations.Call rd) = rd == 0
is_bad_scratch (operations.Jump rt) = rt == 0
is_bad_scratch _ = false

abbrev pub scratch_of : Operation → List ℕ
scratch_of operation = faulty_if (is_bad_scratch operation) scratch_register

-- those of an operation with an expression
abbrev pub value_faults : Operation → Worth → List ℕ
value_faults operation w =
    if takes_target operation
    then scratch_of operation ++ target_faults w
    else number_faults (mnemonic_of operation) w

-- those of an operation with an operand
abbrev pub faults_of : Operation → Option Function → Worth → List ℕ
faults_of operation None w = value_faults operation w
faults_of operation (Some Hi) w = upper_faults w
faults_of operation (Some Lo) w = low_faults (mnemonic_of operation) w
faults_of operation (Some PcrelHi) w = target_faults w
faults_of operation (Some PcrelLo) w = distance_faults (mnemonic_of operation) w
