-- The statements that the lines of a raw listing are, by the instruction or the parcel of each
-- (RISC-V Assembly Programmer's Manual; RISC-V Unprivileged ISA 20191213, chapters 16 and 24).

use Rattle.std.specs.Prelude.{ℕ, ◌+◌, ◌^◌, ◌<◌, suc, ℤ, pos, negsuc, ◌/◌, ◌%◌, ◌==◌, if◌then◌else◌, List, [], ◌∷◌, ◌++◌, map, codes}
use Rattle.rv_isa.specs.declared.instruction.Fence.{Fence as FenceOperands}
use Rattle.rv_isa.specs.declared.instruction.Format.{Format}
use Rattle.rv_isa.specs.declared.instruction.Format.TheVariants.{Registers, Immediate, Shift, Upper, Load, Store, Branch, Jal, Jalr, LoadReserved, Atomic, Fence, Ecall, Ebreak}
use Rattle.rv_isa.specs.declared.operation.AccessSet.{AccessSet}
use Rattle.rv_isa.specs.Operations.{format_of}
use Rattle.rv_parcel.specs.declared.form.Compressed.{Compressed}
use Rattle.rv_parcel.specs.declared.form.Compressed.TheVariants as forms
use Rattle.rv_parcel.specs.Mnemonics.{operation_of}
use Rattle.rv_expression_laws.specs.declared.operator.UnaryOperator.TheVariants.{Negate}
use Rattle.rv_expression_laws.specs.declared.operator.BinaryOperator.TheVariants.{Add, Subtract}
use Rattle.rv_expression_laws.specs.Expression.{Leaf, Unary, Binary, Literal, Here}
use Rattle.rv_statement_laws.specs.declared.directive.Binding.TheVariants.{Global}
use Rattle.rv_statement_laws.specs.declared.directive.Choice.TheVariants.{Norvc, Norelax}
use Rattle.rv_statement_laws.specs.declared.mnemonic.Mnemonic.TheVariants as words
use Rattle.rv_statement_laws.specs.Statement.{Expression, Operand, Register, Value, Target, Accesses, Binds, Chooses, StatementKind, Label, Instruction, Directs, Statement}
use Rattle.rv_parse_laws.specs.Words.{form_with}
use Rattle.rv_parse_laws.specs.Syntax.{accesses}
use Rattle.rv_listing_laws.specs.Instruction.{is_tso}
use Rattle.rv_listing_laws.specs.declared.code.Code.{Code}
use Rattle.rv_listing_laws.specs.declared.code.Code.TheVariants.{Word, Parcel}

-- ---- numbers and targets as expressions

abbrev pub constant_expression : ℤ → Expression
constant_expression (pos n) = Leaf (Literal n)
constant_expression (negsuc n) = Unary Negate (Leaf (Literal (suc n)))

-- numbers among which those of all instructions and parcels are
abbrev pub IsSmall : ℤ → Type 0
IsSmall (pos n) = n < 2 ^ 21
IsSmall (negsuc n) = n < 2 ^ 21

-- .+4 and .-4
abbrev pub from_dot : ℤ → Expression
from_dot (pos n) = Binary Add (Leaf Here) (Leaf (Literal n))
from_dot (negsuc n) = Binary Subtract (Leaf Here) (Leaf (Literal (suc n)))

-- the accesses of a fence: i is 8, o is 4, r is 2, w is 1
abbrev pub access_set : ℕ → AccessSet
access_set s = accesses (s / 8 % 2 == 1) (s / 4 % 2 == 1) (s / 2 % 2 == 1) (s % 2 == 1)

-- ---- words

abbrev pub fence_statement : FenceOperands → StatementKind
fence_statement x =
    if is_tso x then Instruction words.FenceTso []
    else Instruction words.Fence
    (Accesses (access_set x.pred) ∷ Accesses (access_set x.succ) ∷ [])

abbrev pub word_statement : Format → StatementKind
word_statement (Registers operation x) =
    Instruction (words.Registers operation) (Register x.rd ∷ Register x.rs1 ∷ Register x.rs2 ∷ [])
word_statement (Immediate operation x) =
    Instruction (words.Immediate operation)
    (Register x.rd ∷ Register x.rs1 ∷ Value (constant_expression x.immediate) ∷ [])
word_statement (Shift operation x) =
    Instruction (words.Shift operation)
    (Register x.rd ∷ Register x.rs1 ∷ Value (constant_expression (pos x.amount)) ∷ [])
word_statement (Upper operation x) =
    Instruction (words.Upper operation)
    (Register x.rd ∷ Value (constant_expression (pos x.immediate)) ∷ [])
word_statement (Load operation x) =
    Instruction (words.Load operation)
    (Register x.rd ∷ Value (constant_expression x.immediate) ∷ Register x.rs1 ∷ [])
word_statement (Store operation x) =
    Instruction (words.Store operation)
    (Register x.rs2 ∷ Value (constant_expression x.immediate) ∷ Register x.rs1 ∷ [])
word_statement (Branch operation x) =
    Instruction (words.Branch operation)
    (Register x.rs1 ∷ Register x.rs2 ∷ Target (from_dot x.offset) ∷ [])
word_statement (Jal x) = Instruction words.Jal (Register x.rd ∷ Target (from_dot x.offset) ∷ [])
word_statement (Jalr x) =
    Instruction words.Jalr (Register x.rd ∷ Value (constant_expression x.immediate) ∷
    Register x.rs1 ∷ [])
word_statement (LoadReserved double x) =
    Instruction (words.LoadReserved (form_with double x.acquire x.release))
    (Register x.rd ∷ Register x.rs1 ∷ [])
word_statement (Atomic operation double x) =
    Instruction (words.Atomic operation (form_with double x.acquire x.release))
    (Register x.rd ∷ Register x.rs2 ∷ Register x.rs1 ∷ [])
word_statement (Fence x) = fence_statement x
word_statement Ecall = Instruction words.Ecall []
word_statement Ebreak = Instruction words.Ebreak []

-- ---- parcels

-- rd, number
abbrev pub with_number : ℕ → ℤ → List Operand
with_number rd k = Register rd ∷ Value (constant_expression k) ∷ []

-- rd, number(base)
abbrev pub with_address : ℕ → ℕ → ℕ → List Operand
with_address r base u = Register r ∷ Value (constant_expression (pos u)) ∷ Register base ∷ []

-- rd, rs2
abbrev pub with_source : ℕ → ℕ → List Operand
with_source rd rs2 = Register rd ∷ Register rs2 ∷ []

-- rs1, target
abbrev pub with_target : ℕ → ℤ → List Operand
with_target rs1 k = Register rs1 ∷ Target (from_dot k) ∷ []

-- x2 is written too
abbrev pub operands_of : Compressed → List Operand
operands_of (forms.Addi4spn rd u) = Register rd ∷ with_number 2 (pos u)
operands_of (forms.Lw rd rs1 u) = with_address rd rs1 u
operands_of (forms.Ld rd rs1 u) = with_address rd rs1 u
operands_of (forms.Sw rs1 rs2 u) = with_address rs2 rs1 u
operands_of (forms.Sd rs1 rs2 u) = with_address rs2 rs1 u
operands_of (forms.Nop i) = []
operands_of (forms.Addi rd i) = with_number rd i
operands_of (forms.Addiw rd i) = with_number rd i
operands_of (forms.Li rd i) = with_number rd i
operands_of (forms.Addi16sp i) = with_number 2 i
operands_of (forms.Lui rd u) = with_number rd (pos u)
operands_of (forms.Srli rd u) = with_number rd (pos u)
operands_of (forms.Srai rd u) = with_number rd (pos u)
operands_of (forms.Andi rd i) = with_number rd i
operands_of (forms.Sub rd rs2) = with_source rd rs2
operands_of (forms.Xor rd rs2) = with_source rd rs2
operands_of (forms.Or rd rs2) = with_source rd rs2
operands_of (forms.And rd rs2) = with_source rd rs2
operands_of (forms.Subw rd rs2) = with_source rd rs2
operands_of (forms.Addw rd rs2) = with_source rd rs2
operands_of (forms.J i) = Target (from_dot i) ∷ []
operands_of (forms.Beqz rs1 i) = with_target rs1 i
operands_of (forms.Bnez rs1 i) = with_target rs1 i
operands_of (forms.Slli rd u) = with_number rd (pos u)
operands_of (forms.Lwsp rd u) = with_address rd 2 u
operands_of (forms.Ldsp rd u) = with_address rd 2 u
operands_of (forms.Jr rs1) = Register rs1 ∷ []
operands_of (forms.Mv rd rs2) = with_source rd rs2
operands_of forms.Ebreak = []
operands_of (forms.Jalr rs1) = Register rs1 ∷ []
operands_of (forms.Add rd rs2) = with_source rd rs2
operands_of (forms.Swsp rs2 u) = with_address rs2 2 u
operands_of (forms.Sdsp rs2 u) = with_address rs2 2 u

abbrev pub parcel_statement : Compressed → StatementKind
parcel_statement form = Instruction (words.Parcel (operation_of form)) (operands_of form)

-- ---- lines

abbrev pub code_statement : Code → StatementKind
code_statement (Word i) = word_statement (format_of i)
code_statement (Parcel form) = parcel_statement form

-- the instructions before the entry, and those from there on
abbrev pub raw_statements : (before after : List Code) → List StatementKind
raw_statements before after =
    Directs (Chooses Norvc) ∷ Directs (Chooses Norelax)
    ∷ Directs (Binds Global (codes "_start" ∷ []))
    ∷ (map code_statement before ++ Label (codes "_start") ∷ map code_statement after)

-- statements on lines of their own, from this line on
abbrev pub on_lines : ℕ → List StatementKind → List Statement
on_lines line [] = []
on_lines line (kind ∷ kinds) =
    record { line = line; kind = kind } ∷ on_lines (line + 1) kinds
