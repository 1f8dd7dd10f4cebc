-- Worked sources that are refused.

use Rattle.std.specs.Prelude.{ℕ, List, [], ◌∷◌, Option, Some, codes}
use Rattle.rv_expression_laws.specs.declared.operator.UnaryOperator.TheVariants.{Negate}
use Rattle.rv_expression_laws.specs.declared.operator.BinaryOperator.TheVariants.{Subtract, Divide}
use Rattle.rv_expression_laws.specs.Expression.{Leaf, Here, Unary, Binary}
use Rattle.rv_statement_laws.specs.declared.directive.Choice.TheVariants.{Norvc, Push, Pop}
use Rattle.rv_statement_laws.specs.declared.directive.Standard.TheVariants.{Text, Data}
use Rattle.rv_statement_laws.specs.declared.mnemonic.Mnemonic.TheVariants.{Registers, Immediate, Shift, Upper, Load, Store, Unary as Of_one, J, Jr, La, Li, Call, Jump}
use Rattle.rv_statement_laws.specs.declared.pseudo.Function.{Function}
use Rattle.rv_statement_laws.specs.declared.pseudo.Function.TheVariants.{Hi, PcrelHi}
use Rattle.rv_statement_laws.specs.declared.pseudo.UnaryOperation.TheVariants.{Mv, SextB}
use Rattle.rv_isa.specs.declared.operation.RegisterOperation.TheVariants.{And, Sllw}
use Rattle.rv_isa.specs.declared.operation.ImmediateOperation.TheVariants.{Addi}
use Rattle.rv_isa.specs.declared.operation.ShiftOperation.TheVariants.{Slli}
use Rattle.rv_isa.specs.declared.operation.UpperOperation.TheVariants.{Lui, Auipc}
use Rattle.rv_isa.specs.declared.operation.LoadOperation.TheVariants.{Ld}
use Rattle.rv_isa.specs.declared.operation.StoreOperation.TheVariants.{Sd}
use Rattle.rv_statement_laws.specs.Statement.{StatementKind, Label, Instruction, Directs, Statement, Expression, Register, Value, Applied, Target, Enters, Opens, Sets, Chooses, As_power, Aligns}
use Rattle.rv_unit_laws.specs.Faults.{StatementFault}
use Rattle.rv_examples.specs.Exit7.{on_line, constant, norvc}
use Rattle.rv_examples.specs.Data.{call, symbol}

-- a fault by its code and its line
abbrev pub fault : ℕ → ℕ → Option StatementFault
fault code line = Some (record { code = code; line = line })

-- one instruction at line 2, where compressed code is off
abbrev pub lone : StatementKind → List Statement
lone s = on_line 1 norvc ∷ on_line 2 s ∷ []

-- `addi a0, a0, e`
abbrev pub adds : Expression → StatementKind
adds e = Instruction (Immediate Addi) (Register 10 ∷ Register 10 ∷ Value e ∷ [])

abbrev pub minus : ℕ → Expression
minus k = Unary Negate (constant k)

-- `slli a0, a0, k` and `sllw a0, a0, k`
abbrev pub shifts : ℕ → StatementKind
shifts k = Instruction (Shift Slli) (Register 10 ∷ Register 10 ∷ Value (constant k) ∷ [])

abbrev pub shifts_word : ℕ → StatementKind
shifts_word k = Instruction (Registers Sllw) (Register 10 ∷ Register 10 ∷ Value (constant k) ∷ [])

-- `and a0, a0, e`, `lui a0, e` and `ld a0, e(a1)`
abbrev pub ands : Expression → StatementKind
ands e = Instruction (Registers And) (Register 10 ∷ Register 10 ∷ Value e ∷ [])

abbrev pub uppers : Expression → StatementKind
uppers e = Instruction (Upper Lui) (Register 10 ∷ Value e ∷ [])

abbrev pub loads : Expression → StatementKind
loads e = Instruction (Load Ld) (Register 10 ∷ Value e ∷ Register 11 ∷ [])

-- `x`, a name
abbrev pub x : Expression
x = symbol (codes "x")

-- a distance to `x` that is no constant
abbrev pub away : Expression
away = Binary Subtract x (Leaf Here)

-- `j e`, `la rd, e`, `ld rd, e`, `sd a0, e, rt`, `call rd, e` and `jump e, rt`
abbrev pub jumps : Expression → StatementKind
jumps e = Instruction J (Target e ∷ [])

abbrev pub loads_address : ℕ → Expression → StatementKind
loads_address rd e = Instruction La (Register rd ∷ Target e ∷ [])

abbrev pub loads_symbol : ℕ → Expression → StatementKind
loads_symbol rd e = Instruction (Load Ld) (Register rd ∷ Target e ∷ [])

abbrev pub stores_symbol : ℕ → Expression → StatementKind
stores_symbol rt e = Instruction (Store Sd) (Register 10 ∷ Target e ∷ Register rt ∷ [])

abbrev pub calls : ℕ → Expression → StatementKind
calls rd e = Instruction Call (Register rd ∷ Target e ∷ [])

abbrev pub jumps_by : ℕ → Expression → StatementKind
jumps_by rt e = Instruction Jump (Target e ∷ Register rt ∷ [])

-- `addi a0, a0, f(e)`, `slli a0, a0, f(e)`, `li a0, f(e)`, `lui a0, %hi(e)` and `auipc a0,
-- %pcrel_hi(e)`
abbrev pub adds_part : Function → Expression → StatementKind
adds_part f e = Instruction (Immediate Addi) (Register 10 ∷ Register 10 ∷ Applied f e ∷ [])

abbrev pub shifts_part : Function → Expression → StatementKind
shifts_part f e = Instruction (Shift Slli) (Register 10 ∷ Register 10 ∷ Applied f e ∷ [])

abbrev pub li_part : Function → Expression → StatementKind
li_part f e = Instruction Li (Register 10 ∷ Applied f e ∷ [])

abbrev pub upper_part : Expression → StatementKind
upper_part e = Instruction (Upper Lui) (Register 10 ∷ Applied Hi e ∷ [])

abbrev pub upper_distance : Expression → StatementKind
upper_distance e = Instruction (Upper Auipc) (Register 10 ∷ Applied PcrelHi e ∷ [])

-- `mv rd, rs` and `sext.b rd, rs`
abbrev pub moves : ℕ → ℕ → StatementKind
moves rd rs = Instruction (Of_one Mv) (Register rd ∷ Register rs ∷ [])

abbrev pub extends : ℕ → ℕ → StatementKind
extends rd rs = Instruction (Of_one SextB) (Register rd ∷ Register rs ∷ [])

-- `jr k(a0)`
abbrev pub jumps_back : ℕ → StatementKind
jumps_back k = Instruction Jr (Value (constant k) ∷ Register 10 ∷ [])

-- the same after `.set x, 8`, before it, and before `x:`
abbrev pub set_x : StatementKind
set_x = Directs (Sets (codes "x") (constant 8))

abbrev pub after_set : StatementKind → List Statement
after_set s = on_line 1 norvc ∷ on_line 2 set_x ∷ on_line 3 s ∷ []

abbrev pub before_set : StatementKind → List Statement
before_set s = on_line 1 norvc ∷ on_line 2 s ∷ on_line 3 set_x ∷ []

abbrev pub before_label : StatementKind → List Statement
before_label s = on_line 1 norvc ∷ on_line 2 s ∷ on_line 3 (Label (codes "x")) ∷ []

-- after the location `.set x, .`
abbrev pub after_location : StatementKind → List Statement
after_location s =
    on_line 1 norvc
    ∷ on_line 2 (Directs (Enters Data))
    ∷ on_line 3 (Directs (Sets (codes "x") (Leaf Here)))
    ∷ on_line 4 (Directs (Enters Text))
    ∷ on_line 5 s
    ∷ []

-- where compressed code is on
abbrev pub compressed : StatementKind → List Statement
compressed s = on_line 1 s ∷ []

-- `.align 3` in code at line 2, and a statement after it
abbrev pub after_padding : StatementKind → List Statement
after_padding s =
    on_line 1 norvc ∷ on_line 2 (Directs (Aligns As_power (constant 3))) ∷ on_line 3 s ∷ []

-- `.align 2` in a section of code without bytes
abbrev pub padding_without_bytes : List Statement
padding_without_bytes =
    on_line 1 (Directs (Opens (codes "later") (Some (codes "ax")) (Some (codes "nobits"))))
    ∷ on_line 2 (Directs (Aligns As_power (constant 2)))
    ∷ []

-- compressed code is off at line 3, and on again at line 5
abbrev pub options : List Statement
options =
    on_line 1 (Directs (Chooses Push))
    ∷ on_line 2 (Directs (Chooses Norvc))
    ∷ on_line 3 call
    ∷ on_line 4 (Directs (Chooses Pop))
    ∷ on_line 5 call
    ∷ []

-- a division by zero stands before a number out of range
abbrev pub two_faults : List Statement
two_faults =
    on_line 1 norvc
    ∷ on_line 2 (adds (Binary Divide (constant 1) (constant 0)))
    ∷ on_line 3 (adds (constant 2048))
    ∷ []

-- the faults of labels and directives come before those of instructions
abbrev pub directive_later : List Statement
directive_later =
    on_line 1 norvc
    ∷ on_line 2 (adds (constant 2048))
    ∷ on_line 3 (Label (codes "x"))
    ∷ on_line 4 (Label (codes "x"))
    ∷ []
