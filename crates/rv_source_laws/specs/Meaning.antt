-- What a statement does in one step, and how many instructions that counts
-- (RISC-V Assembly Programmer's Manual, pseudo-instructions; RISC-V Unprivileged ISA 20191213).

use Rattle.std.specs.Prelude.{ℕ, pos, ◌+◌, ◌-◌, ◌%◌, ◌^◌, ◌+ℤ◌, ◌*ℤ◌, Bool, false, not, ◌&&◌, ◌==◌, nat_lt, if◌then◌else◌, List, [], ◌∷◌, Option, Some, None, option_map, ℤ}
use Rattle.rv_isa.specs.declared.instruction.Inst.{Inst}
use Rattle.rv_isa.specs.declared.operation.LoadOperation.{LoadOperation}
use Rattle.rv_isa.specs.declared.operation.StoreOperation.{StoreOperation}
use Rattle.rv_isa_laws.specs.Arithmetic.{signed, wrapped, extended, low, one_if, difference_of, word_difference, less_signed}
use Rattle.rv_isa_laws.specs.Halves.{hi, lo}
use Rattle.rv_isa_laws.specs.Hart.{Hart, register, with_register, advanced}
use Rattle.rv_isa_laws.specs.Effect.{Effect, Goes, Loads, Stores, Breaks}
use Rattle.rv_isa_laws.specs.Meaning.{effect, sets, jumps, with_result, is_taken, load_width, load_result, store_width}
use Rattle.rv_statement_laws.specs.declared.mnemonic.Mnemonic.{Mnemonic}
use Rattle.rv_statement_laws.specs.declared.mnemonic.Mnemonic.TheVariants.{Load, Store, Branch, Unary, Compare, ZeroBranch, SwappedBranch, La, Li, Call, Tail, Jump}
use Rattle.rv_statement_laws.specs.declared.pseudo.Function.TheVariants.{Lo}
use Rattle.rv_statement_laws.specs.declared.pseudo.UnaryOperation.{UnaryOperation}
use Rattle.rv_statement_laws.specs.declared.pseudo.UnaryOperation.TheVariants.{Mv, Not, Neg, Negw, SextB, SextH, SextW, ZextB, ZextH, ZextW, Seqz, Snez, Sltz, Sgtz}
use Rattle.rv_statement_laws.specs.declared.pseudo.CompareOperation.{CompareOperation}
use Rattle.rv_statement_laws.specs.declared.pseudo.CompareOperation.TheVariants.{Sgt, Sgtu}
use Rattle.rv_statement_laws.specs.declared.pseudo.ZeroBranchOperation.{ZeroBranchOperation}
use Rattle.rv_statement_laws.specs.declared.pseudo.ZeroBranchOperation.TheVariants.{Beqz, Bnez, Bgez, Bltz, Blez, Bgtz}
use Rattle.rv_statement_laws.specs.declared.pseudo.SwappedBranchOperation.{SwappedBranchOperation}
use Rattle.rv_statement_laws.specs.declared.pseudo.SwappedBranchOperation.TheVariants.{Bgt, Ble, Bgtu, Bleu}
use Rattle.rv_statement_laws.specs.Statement.{StatementKind, Label, Numbered, Instruction, Directs, Operand, Register, Value, Applied, Target, Expression, Directive, Aligns}
use Rattle.rv_source_laws.specs.Program.{Mapped, Program, number, has_values}
use Rattle.rv_source_laws.specs.Lines.{other_operand, operand_number, distance, gives}
use Rattle.rv_source_laws.specs.Holes.{hole}

-- ---- the one assignment that a name says, of a register's number

abbrev pub unary_result : UnaryOperation → ℕ → ℕ
unary_result Mv a = a
unary_result Not a = 2 ^ 64 - 1 - a
unary_result Neg a = difference_of 0 a
unary_result Negw a = word_difference 0 a
unary_result SextB a = extended 8 (a % 2 ^ 8)
unary_result SextH a = extended 16 (a % 2 ^ 16)
unary_result SextW a = extended 32 (low a)
unary_result ZextB a = a % 2 ^ 8
unary_result ZextH a = a % 2 ^ 16
unary_result ZextW a = a % 2 ^ 32
unary_result Seqz a = one_if (a == 0)
unary_result Snez a = one_if (not (a == 0))
unary_result Sltz a = one_if (less_signed a 0)
unary_result Sgtz a = one_if (less_signed 0 a)

abbrev pub compare_result : CompareOperation → ℕ → ℕ → ℕ
compare_result Sgt a b = one_if (less_signed b a)
compare_result Sgtu a b = one_if (nat_lt b a)

-- ---- when a branch is taken

abbrev pub zero_taken : ZeroBranchOperation → ℕ → Bool
zero_taken Beqz a = a == 0
zero_taken Bnez a = not (a == 0)
zero_taken Bgez a = not (less_signed a 0)
zero_taken Bltz a = less_signed a 0
zero_taken Blez a = not (less_signed 0 a)
zero_taken Bgtz a = less_signed 0 a

abbrev pub swapped_taken : SwappedBranchOperation → ℕ → ℕ → Bool
swapped_taken Bgt a b = less_signed b a
swapped_taken Ble a b = not (less_signed b a)
swapped_taken Bgtu a b = nat_lt b a
swapped_taken Bleu a b = not (nat_lt b a)

-- whether a statement is a branch, and is taken
abbrev pub taken : Mnemonic → List Operand → Hart → Option Bool
taken (Branch operation) (Register a ∷ Register b ∷ Target e ∷ []) h =
    Some (is_taken operation (register h a) (register h b))
taken (ZeroBranch operation) (Register a ∷ Target e ∷ []) h =
    Some (zero_taken operation (register h a))
taken (SwappedBranch operation) (Register a ∷ Register b ∷ Target e ∷ []) h =
    Some (swapped_taken operation (register h a) (register h b))
taken mnemonic operands h = None

-- ---- addresses

-- the hart goes to a target, or to the next statement
abbrev pub goes_if : Bool → ℕ → ℕ → Hart → Effect
goes_if is_taken target bytes h =
    Goes (record h { pc = (if is_taken then target else h.pc + bytes) % 2 ^ 64 })

-- what a register holds on the way to a target: an address and the upper part of the distance from
-- there
abbrev pub on_the_way : ℕ → ℕ → ℕ
on_the_way address target =
    wrapped (pos address +ℤ pos 0x1000 *ℤ hi (distance address target))

-- rd gets what is made of the number at a target
abbrev pub loads_from : LoadOperation → ℕ → Hart → ℕ → ℕ → Effect
loads_from operation bytes h rd target =
    Loads (target % 2 ^ 64) (load_width operation)
    (λ n. with_result bytes h rd (load_result operation n))

-- the low bytes of rs2 go to a target, by way of rt
abbrev pub stores_to : StoreOperation → ℕ → Hart → ℕ → ℕ → ℕ → Effect
stores_to operation bytes h rs2 rt target =
    Stores (target % 2 ^ 64) (store_width operation) (register h rs2)
    (with_result bytes h rt (on_the_way h.pc target))

-- the hart goes to a target, by way of rt where the jump has two instructions
abbrev pub goes_by : ℕ → Hart → ℕ → ℕ → Effect
goes_by bytes h rt target =
    if bytes == 8
    then Goes (record (with_register h rt (on_the_way h.pc target)) { pc = target % 2 ^ 64 })
    else Goes (record h { pc = target % 2 ^ 64 })

-- ---- statements

-- a number taken as signed, or the low part of one
abbrev pub signed_operand : (Expression → ℕ) → Operand → ℕ
signed_operand v (Applied Lo e) = wrapped (lo (signed 64 (v e)))
signed_operand v (Value e) = wrapped (signed 64 (v e))
signed_operand v operand = 0

-- what a pseudo-instruction does in so many bytes, where v gives numbers and addresses; none for
-- the others, which do what their one instruction does
abbrev pub pseudo_effect : (Expression → ℕ) → Mnemonic → List Operand → ℕ → Hart → Option Effect
pseudo_effect v (Load operation) (Register rd ∷ Target e ∷ []) bytes h =
    Some (loads_from operation bytes h rd (v e))
pseudo_effect v (Store operation) (Register rs2 ∷ Target e ∷ Register rt ∷ []) bytes h =
    Some (stores_to operation bytes h rs2 rt (v e))
pseudo_effect v (Unary operation) (Register rd ∷ Register rs ∷ []) bytes h =
    Some (sets bytes h rd (unary_result operation (register h rs)))
pseudo_effect v (Compare operation) (Register rd ∷ Register a ∷ Register b ∷ []) bytes h =
    Some (sets bytes h rd (compare_result operation (register h a) (register h b)))
pseudo_effect v La (Register rd ∷ Target e ∷ []) bytes h = Some (sets bytes h rd (v e))
pseudo_effect v Li (Register rd ∷ o ∷ []) bytes h = Some (sets bytes h rd (signed_operand v o))
pseudo_effect v Call (Register rd ∷ Target e ∷ []) bytes h = Some (jumps bytes h rd (v e))
pseudo_effect v Call (Target e ∷ []) bytes h = Some (jumps bytes h 1 (v e))
pseudo_effect v Tail (Target e ∷ []) bytes h = Some (goes_by bytes h 6 (v e))
pseudo_effect v Jump (Target e ∷ Register rt ∷ []) bytes h = Some (goes_by bytes h rt (v e))
pseudo_effect v mnemonic operands bytes h = None

-- the one instruction that another statement spells, by the number that an operand gives
abbrev pub one_instruction : (Option Operand → ℤ) → Mnemonic → List Operand → Option Inst
one_instruction given mnemonic operands =
    option_map (λ make. make (given (other_operand operands))) (hole mnemonic operands)

-- what it does
abbrev pub alone_effect : Option Inst → ℕ → Hart → Effect
alone_effect (Some i) bytes h = effect i bytes h
alone_effect None bytes h = Breaks

abbrev pub else_goes_if : Option Bool → ℕ → ℕ → Hart → Effect → Effect
else_goes_if (Some is_taken) target bytes h other = goes_if is_taken target bytes h
else_goes_if None target bytes h other = other

abbrev pub else_alone : Option Effect → Option Inst → ℕ → Hart → Effect
else_alone (Some e) instruction bytes h = e
else_alone None instruction bytes h = alone_effect instruction bytes h

-- an alignment goes on after its padding
abbrev pub directive_effect : Directive → ℕ → Hart → Effect
directive_effect (Aligns form exponent) bytes h = Goes (advanced h bytes)
directive_effect _ bytes h = Breaks

-- a statement that isn't executed has no bytes in the text, and so is never run
abbrev pub statement_effect : (Expression → ℕ) → (Option Operand → ℤ) → StatementKind → ℕ → Hart →
    Effect
statement_effect v given (Label name) bytes h = Breaks
statement_effect v given (Numbered number) bytes h = Breaks
statement_effect v given (Instruction mnemonic operands) bytes h =
    else_goes_if (taken mnemonic operands h) (operand_number v (other_operand operands)) bytes h
    (else_alone (pseudo_effect v mnemonic operands bytes h)
    (one_instruction given mnemonic operands) bytes h)
statement_effect v given (Directs directive) bytes h = directive_effect directive bytes h

-- what a statement does in one step; one with a name that has no meaning fits no row
abbrev pub meaning : Program → Mapped → Hart → Effect
meaning p s h =
    if has_values p s
    then statement_effect (number p s) (gives p s) s.located.kind s.row.bytes h
    else Breaks

-- ---- cost

-- whether a statement is a branch that isn't taken
abbrev pub is_passed : Option Bool → Bool
is_passed (Some is_taken) = not is_taken
is_passed None = false

abbrev pub is_untaken : StatementKind → Hart → Bool
is_untaken (Instruction mnemonic operands) h = is_passed (taken mnemonic operands h)
is_untaken _ h = false

-- how many instructions of its row run in one step of this hart: of an untaken branch over a jump
-- the branch alone
abbrev pub cost : Program → Mapped → Hart → ℕ
cost p s h =
    if (s.row.bytes == 8) && is_untaken s.located.kind h then 1 else s.row.instructions
