-- What the statements of the code stand for.

use Rattle.std.specs.Prelude.{ℕ, true, false, List, [], ◌∷◌, ◌++◌, map, option_map, box_value}
use Rattle.std.specs.Borrow.{Bor}
use Rattle.rv_expression_laws.specs.Bytes.{digits_value}
use Rattle.rv_expression_laws.specs.Expression.{Tree}
use Rattle.rv_expression.specs.Expr.{tree_of_expr}
use Rattle.rv_lexer.specs.Token.{string_bytes}
use Rattle.rv_parcel.specs.declared.parcel.ParcelOperation.{ParcelOperation}
use Rattle.rv_parcel.specs.declared.parcel.OperandShape.{OperandShape}
use Rattle.rv_parcel.specs.declared.parcel.OperandShape.TheVariants.{Address, Target as ATarget}
use Rattle.rv_parcel.specs.Mnemonics.{own_registers, shape_of}
use Rattle.rv_statement_laws.specs.declared.mnemonic.Mnemonic.TheVariants as mnemonics
use Rattle.rv_statement_laws.specs.declared.pseudo.Function.{Function}
use Rattle.rv_statement_laws.specs.Widths.{width_bytes}
use Rattle.rv_statement.specs.declared.statement.Operation.{Operation}
use Rattle.rv_statement.specs.declared.statement.Operation.TheVariants as operations
use Rattle.rv_statement.specs.declared.statement.Plain.{Plain}
use Rattle.rv_statement.specs.declared.statement.Plain.TheVariants as plains
use Rattle.rv_statement.specs.declared.statement.Opening.{Opening}
use Rattle.rv_statement.specs.declared.statement.Setting.{Setting}
use Rattle.rv_statement.specs.declared.statement.StatementKind.{StatementKind}
use Rattle.rv_statement.specs.declared.statement.StatementKind.TheVariants as kinds
use Rattle.rv_statement.specs.declared.statement.Statement.{Statement}
use Rattle.rv_statement_laws.specs.Statement as specs

-- what a reference points to
abbrev pub now_of : Bor (List ℕ) → List ℕ
now_of b = b.now

-- the bytes of a string that stands so between its quotes
abbrev pub quoted : Bor (List ℕ) → List ℕ
quoted b = string_bytes b.now

-- the registers that a parcel has, as operands
abbrev pub parcel_registers : ParcelOperation → ℕ → ℕ → List specs.Operand
parcel_registers operation a b = map specs.Register (own_registers operation a b)

-- with what stands beside them: an offset before its base, all else behind
abbrev pub parcel_operands : OperandShape → ParcelOperation → ℕ → ℕ → specs.Operand →
    List specs.Operand
parcel_operands Address operation a b o = specs.Register a ∷ o ∷ specs.Register b ∷ []
parcel_operands shape operation a b o = parcel_registers operation a b ++ o ∷ []

-- an instruction without an expression
abbrev pub plain_of : Plain → specs.StatementKind
plain_of (plains.Registers operation rd rs1 rs2) =
    specs.Instruction (mnemonics.Registers operation)
    (specs.Register rd ∷ specs.Register rs1 ∷ specs.Register rs2 ∷ [])
plain_of (plains.Load operation rd rs1) =
    specs.Instruction (mnemonics.Load operation) (specs.Register rd ∷ specs.Register rs1 ∷ [])
plain_of (plains.Store operation rs2 rs1) =
    specs.Instruction (mnemonics.Store operation) (specs.Register rs2 ∷ specs.Register rs1 ∷ [])
plain_of (plains.Jalr rd rs1) =
    specs.Instruction mnemonics.Jalr (specs.Register rd ∷ specs.Register rs1 ∷ [])
plain_of (plains.JalrLinked rs1) = specs.Instruction mnemonics.Jalr (specs.Register rs1 ∷ [])
plain_of (plains.LoadReserved form rd rs1) =
    specs.Instruction (mnemonics.LoadReserved form) (specs.Register rd ∷ specs.Register rs1 ∷ [])
plain_of (plains.Atomic operation form rd rs2 rs1) =
    specs.Instruction (mnemonics.Atomic operation form)
    (specs.Register rd ∷ specs.Register rs2 ∷ specs.Register rs1 ∷ [])
plain_of plains.Fence = specs.Instruction mnemonics.Fence []
plain_of (plains.FenceBetween before after) =
    specs.Instruction mnemonics.Fence (specs.Accesses before ∷ specs.Accesses after ∷ [])
plain_of plains.FenceTso = specs.Instruction mnemonics.FenceTso []
plain_of plains.Ecall = specs.Instruction mnemonics.Ecall []
plain_of plains.Ebreak = specs.Instruction mnemonics.Ebreak []
plain_of plains.Nop = specs.Instruction mnemonics.Nop []
plain_of (plains.Unary operation rd rs) =
    specs.Instruction (mnemonics.Unary operation) (specs.Register rd ∷ specs.Register rs ∷ [])
plain_of (plains.Compare operation rd rs1 rs2) =
    specs.Instruction (mnemonics.Compare operation)
    (specs.Register rd ∷ specs.Register rs1 ∷ specs.Register rs2 ∷ [])
plain_of (plains.Jr rs) = specs.Instruction mnemonics.Jr (specs.Register rs ∷ [])
plain_of plains.Ret = specs.Instruction mnemonics.Ret []
plain_of (plains.Parcel operation a b) =
    specs.Instruction (mnemonics.Parcel operation) (parcel_registers operation a b)

-- an operation with an operand that is no register, where it stands
abbrev pub with_operand : Operation → specs.Operand → specs.StatementKind
with_operand (operations.Registers operation rd rs1) o =
    specs.Instruction (mnemonics.Registers operation)
    (specs.Register rd ∷ specs.Register rs1 ∷ o ∷ [])
with_operand (operations.Immediate operation rd rs1) o =
    specs.Instruction (mnemonics.Immediate operation)
    (specs.Register rd ∷ specs.Register rs1 ∷ o ∷ [])
with_operand (operations.Shift operation rd rs1) o =
    specs.Instruction (mnemonics.Shift operation) (specs.Register rd ∷ specs.Register rs1 ∷ o ∷ [])
with_operand (operations.Upper operation rd) o =
    specs.Instruction (mnemonics.Upper operation) (specs.Register rd ∷ o ∷ [])
with_operand (operations.Load operation rd rs1) o =
    specs.Instruction (mnemonics.Load operation) (specs.Register rd ∷ o ∷ specs.Register rs1 ∷ [])
with_operand (operations.Store operation rs2 rs1) o =
    specs.Instruction (mnemonics.Store operation) (specs.Register rs2 ∷ o ∷ specs.Register rs1 ∷ [])
with_operand (operations.Jalr rd rs1) o =
    specs.Instruction mnemonics.Jalr (specs.Register rd ∷ o ∷ specs.Register rs1 ∷ [])
with_operand (operations.JalrThen rd rs1) o =
    specs.Instruction mnemonics.Jalr (specs.Register rd ∷ specs.Register rs1 ∷ o ∷ [])
with_operand (operations.JalrLinked rs1) o =
    specs.Instruction mnemonics.Jalr (o ∷ specs.Register rs1 ∷ [])
with_operand (operations.Branch operation rs1 rs2) o =
    specs.Instruction (mnemonics.Branch operation)
    (specs.Register rs1 ∷ specs.Register rs2 ∷ o ∷ [])
with_operand (operations.Jal rd) o = specs.Instruction mnemonics.Jal (specs.Register rd ∷ o ∷ [])
with_operand operations.JalLinked o = specs.Instruction mnemonics.Jal (o ∷ [])
with_operand (operations.LoadSymbol operation rd) o =
    specs.Instruction (mnemonics.Load operation) (specs.Register rd ∷ o ∷ [])
with_operand (operations.StoreSymbol operation rs2 rt) o =
    specs.Instruction (mnemonics.Store operation) (specs.Register rs2 ∷ o ∷ specs.Register rt ∷ [])
with_operand (operations.ZeroBranch operation rs) o =
    specs.Instruction (mnemonics.ZeroBranch operation) (specs.Register rs ∷ o ∷ [])
with_operand (operations.SwappedBranch operation rs1 rs2) o =
    specs.Instruction (mnemonics.SwappedBranch operation)
    (specs.Register rs1 ∷ specs.Register rs2 ∷ o ∷ [])
with_operand operations.J o = specs.Instruction mnemonics.J (o ∷ [])
with_operand (operations.Jr rs) o = specs.Instruction mnemonics.Jr (o ∷ specs.Register rs ∷ [])
with_operand (operations.La rd) o = specs.Instruction mnemonics.La (specs.Register rd ∷ o ∷ [])
with_operand (operations.Li rd) o = specs.Instruction mnemonics.Li (specs.Register rd ∷ o ∷ [])
with_operand (operations.Call rd) o = specs.Instruction mnemonics.Call (specs.Register rd ∷ o ∷ [])
with_operand operations.CallLinked o = specs.Instruction mnemonics.Call (o ∷ [])
with_operand operations.Tail o = specs.Instruction mnemonics.Tail (o ∷ [])
with_operand (operations.Jump rt) o = specs.Instruction mnemonics.Jump (o ∷ specs.Register rt ∷ [])
with_operand (operations.Parcel operation a b) o =
    specs.Instruction (mnemonics.Parcel operation)
    (parcel_operands (shape_of operation) operation a b o)

-- an expression beside the registers of a parcel
abbrev pub shaped : OperandShape → Tree → specs.Operand
shaped ATarget e = specs.Target e
shaped shape e = specs.Value e

-- an expression as an operand: a target, or a value
abbrev pub operand_in : Operation → Tree → specs.Operand
operand_in (operations.Branch operation rs1 rs2) e = specs.Target e
operand_in (operations.Jal rd) e = specs.Target e
operand_in operations.JalLinked e = specs.Target e
operand_in (operations.LoadSymbol operation rd) e = specs.Target e
operand_in (operations.StoreSymbol operation rs2 rt) e = specs.Target e
operand_in (operations.ZeroBranch operation rs) e = specs.Target e
operand_in (operations.SwappedBranch operation rs1 rs2) e = specs.Target e
operand_in operations.J e = specs.Target e
operand_in (operations.La rd) e = specs.Target e
operand_in (operations.Call rd) e = specs.Target e
operand_in operations.CallLinked e = specs.Target e
operand_in operations.Tail e = specs.Target e
operand_in (operations.Jump rt) e = specs.Target e
operand_in (operations.Parcel operation a b) e = shaped (shape_of operation) e
operand_in _ e = specs.Value e

-- an operation with an expression, or with a function of one
abbrev pub with_expression : Operation → Tree → specs.StatementKind
with_expression operation e = with_operand operation (operand_in operation e)

abbrev pub with_function : Operation → Function → Tree → specs.StatementKind
with_function operation function e = with_operand operation (specs.Applied function e)

abbrev pub opening_of : Opening → specs.Directive
opening_of o = specs.Opens o.name.now (option_map quoted o.flags) (option_map now_of o.kind)

abbrev pub setting_of : Setting → specs.Directive
setting_of s = specs.Sets s.name.now (tree_of_expr s.expression)

abbrev pub statement_kind : StatementKind → specs.StatementKind
statement_kind (kinds.Label name) = specs.Label name.now
statement_kind (kinds.Numbered digits) = specs.Numbered (digits_value 10 digits.now)
statement_kind (kinds.Plain p) = plain_of p
statement_kind (kinds.With operation e) = with_expression operation (tree_of_expr e)
statement_kind (kinds.WithFunction operation function e) =
    with_function operation function (tree_of_expr e)
statement_kind (kinds.Enters section) = specs.Directs (specs.Enters section)
statement_kind (kinds.Opens opening) = specs.Directs (opening_of (box_value opening))
statement_kind (kinds.Binds binding names) =
    specs.Directs (specs.Binds binding (map now_of names.items))
statement_kind (kinds.Sets setting) = specs.Directs (setting_of (box_value setting))
statement_kind (kinds.AlignsToPower exponent) =
    specs.Directs (specs.Aligns specs.As_power (tree_of_expr exponent))
statement_kind (kinds.AlignsToBytes bytes) =
    specs.Directs (specs.Aligns specs.As_bytes (tree_of_expr bytes))
statement_kind (kinds.Value width one) =
    specs.Directs (specs.Emits (specs.Values (width_bytes width) (tree_of_expr one ∷ [])))
statement_kind (kinds.Values width values) =
    specs.Directs (specs.Emits (specs.Values (width_bytes width) (map tree_of_expr values.items)))
statement_kind (kinds.Ascii strings) =
    specs.Directs (specs.Emits (specs.Strings false (map quoted strings.items)))
statement_kind (kinds.Asciz strings) =
    specs.Directs (specs.Emits (specs.Strings true (map quoted strings.items)))
statement_kind (kinds.Zeros count) = specs.Directs (specs.Emits (specs.Zeros (tree_of_expr count)))
statement_kind (kinds.Chooses choice) = specs.Directs (specs.Chooses choice)
statement_kind kinds.Ignored = specs.Directs specs.Ignored

-- a statement with its line
abbrev pub statement_of : Statement → specs.Statement
statement_of s = record { line = s.line; kind = statement_kind s.kind }
