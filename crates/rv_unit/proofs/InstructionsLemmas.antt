-- Statements of the code that are instructions.

use Rattle.std.proofs.Common.{◌≡◌, List, refl}
use Rattle.rv_statement_laws.specs.declared.mnemonic.Mnemonic.{Mnemonic}
use Rattle.rv_statement.specs.declared.statement.Operation.{Operation}
use Rattle.rv_statement.specs.declared.statement.Operation.TheVariants as operations
use Rattle.rv_statement.specs.declared.statement.Plain.{Plain}
use Rattle.rv_statement.specs.declared.statement.Plain.TheVariants as plains
use Rattle.rv_statement_laws.specs.Statement.{StatementKind, Instruction, Operand}
use Rattle.rv_statement.specs.View.{plain_of, with_operand}

-- an instruction, whichever
abbrev pub IsInstruction : StatementKind → Type 0
IsInstruction kind = (mnemonic : Mnemonic) × (operands : List Operand) × (kind ≡ Instruction mnemonic operands)

pub plain_is : (p : Plain) → IsInstruction (plain_of p)
plain_is (plains.Registers operation rd rs1 rs2) = (_, _, refl)
plain_is (plains.Load operation rd rs1) = (_, _, refl)
plain_is (plains.Store operation rs2 rs1) = (_, _, refl)
plain_is (plains.Jalr rd rs1) = (_, _, refl)
plain_is (plains.JalrLinked rs1) = (_, _, refl)
plain_is (plains.LoadReserved form rd rs1) = (_, _, refl)
plain_is (plains.Atomic operation form rd rs2 rs1) = (_, _, refl)
plain_is plains.Fence = (_, _, refl)
plain_is (plains.FenceBetween before after) = (_, _, refl)
plain_is plains.FenceTso = (_, _, refl)
plain_is plains.Ecall = (_, _, refl)
plain_is plains.Ebreak = (_, _, refl)
plain_is plains.Nop = (_, _, refl)
plain_is (plains.Unary operation rd rs) = (_, _, refl)
plain_is (plains.Compare operation rd rs1 rs2) = (_, _, refl)
plain_is (plains.Jr rs) = (_, _, refl)
plain_is plains.Ret = (_, _, refl)
plain_is (plains.Parcel operation a b) = (_, _, refl)

pub with_is : (operation : Operation) (o : Operand) → IsInstruction (with_operand operation o)
with_is (operations.Registers operation rd rs1) o = (_, _, refl)
with_is (operations.Immediate operation rd rs1) o = (_, _, refl)
with_is (operations.Shift operation rd rs1) o = (_, _, refl)
with_is (operations.Upper operation rd) o = (_, _, refl)
with_is (operations.Load operation rd rs1) o = (_, _, refl)
with_is (operations.Store operation rs2 rs1) o = (_, _, refl)
with_is (operations.Jalr rd rs1) o = (_, _, refl)
with_is (operations.JalrThen rd rs1) o = (_, _, refl)
with_is (operations.JalrLinked rs1) o = (_, _, refl)
with_is (operations.Branch operation rs1 rs2) o = (_, _, refl)
with_is (operations.Jal rd) o = (_, _, refl)
with_is operations.JalLinked o = (_, _, refl)
with_is (operations.LoadSymbol operation rd) o = (_, _, refl)
with_is (operations.StoreSymbol operation rs2 rt) o = (_, _, refl)
with_is (operations.ZeroBranch operation rs) o = (_, _, refl)
with_is (operations.SwappedBranch operation rs1 rs2) o = (_, _, refl)
with_is operations.J o = (_, _, refl)
with_is (operations.Jr rs) o = (_, _, refl)
with_is (operations.La rd) o = (_, _, refl)
with_is (operations.Li rd) o = (_, _, refl)
with_is (operations.Call rd) o = (_, _, refl)
with_is operations.CallLinked o = (_, _, refl)
with_is operations.Tail o = (_, _, refl)
with_is (operations.Jump rt) o = (_, _, refl)
with_is (operations.Parcel operation a b) o = (_, _, refl)
