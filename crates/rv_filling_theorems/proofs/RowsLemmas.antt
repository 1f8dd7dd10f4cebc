-- In the code of statements only calls have two instructions that are filled as one.

use Rattle.std.proofs.Common.{◌≡◌, ℕ, Bool, true, false, ◌==◌, refl, sym, ap, ◌∙◌, subst, ℤ, pos, List, [], ◌∷◌, map, Option, Some, None, option_map}
use Rattle.std.specs.Prelude.{if◌then◌else◌, ⊤, unwrap_or}
use Rattle.std.specs.List.{AllByRecursion}
use Rattle.rv_isa.specs.declared.kind.Kind.{Kind}
use Rattle.rv_isa.specs.declared.kind.Kind.TheVariants as kind
use Rattle.rv_isa.specs.declared.instruction.Inst.{Inst}
use Rattle.rv_isa.specs.declared.operation.BranchOperation.{BranchOperation}
use Rattle.rv_isa.specs.declared.operation.BranchOperation.TheVariants.{Beq, Bne, Blt, Bge, Bltu, Bgeu}
use Rattle.rv_isa.specs.Operations.{of_immediate, of_shift, of_upper, of_load, of_store, of_branch}
use Rattle.rv_isa_laws.specs.Arithmetic.{wrapped}
use Rattle.rv_isa_laws.specs.Halves.{hi, lo}
use Rattle.rv_parcel.specs.declared.form.Compressed.{Compressed}
use Rattle.rv_parcel.specs.declared.parcel.ParcelOperation.TheVariants as parcels
use Rattle.rv_parcel.specs.declared.parcel.RegisterSet.TheVariants.{Short}
use Rattle.rv_parcel.specs.Mnemonics.{is_of_set}
use Rattle.rv_parcel.specs.Parcel.{expansion}
use Rattle.rv_statement_laws.specs.declared.mnemonic.Mnemonic.{Mnemonic}
use Rattle.rv_statement_laws.specs.declared.mnemonic.Mnemonic.TheVariants.{Registers, Immediate, Shift, Upper, Load, Store, Branch, Jal, Jalr, LoadReserved, Atomic, Fence, FenceTso, Ecall, Ebreak, Nop, Unary, Compare, ZeroBranch, SwappedBranch, J, Jr, Ret, La, Li, Call, Tail, Jump, Parcel}
use Rattle.rv_statement_laws.specs.declared.pseudo.ZeroBranchOperation.{ZeroBranchOperation}
use Rattle.rv_statement_laws.specs.declared.pseudo.ZeroBranchOperation.TheVariants.{Beqz, Bnez, Bgez, Bltz, Blez, Bgtz}
use Rattle.rv_statement_laws.specs.declared.pseudo.SwappedBranchOperation.{SwappedBranchOperation}
use Rattle.rv_statement_laws.specs.declared.pseudo.SwappedBranchOperation.TheVariants.{Bgt, Ble, Bgtu, Bleu}
use Rattle.rv_statement_laws.specs.declared.pseudo.Function.TheVariants.{Hi, Lo, PcrelHi, PcrelLo}
use Rattle.rv_statement_laws.specs.Statement.{Operand, Register, Value, Applied, Target, Accesses}
use Rattle.rv_parse_laws.specs.Syntax.{with_constant}
use Rattle.rv_pseudo_laws.specs.Li.{li}
use Rattle.rv_pseudo_laws.specs.Code.{Part, Closed, Open, Joined, Constants, i_type, s_type, b_type, u_type, shift_by, jalr, jal, auipc, unary, inverted, branch, jump, near, far, through, zero_branch, swapped_branch, by_number, by_part, signed_12, upper_20, constant_number, by_amount, by_constant, named_form, short_branch, code}
use Rattle.rv_pseudo_laws.proofs.ParcelsLemmas.{named_code}
use Rattle.rv_filling_theorems.specs.Parts.{IsCallPart, IsNamedPart}

-- each part, if there is code
abbrev AreCalls : Option (List Part) → Type 0
AreCalls None = ⊤
AreCalls (Some ps) = AllByRecursion IsCallPart ps

closed_calls : (xs : List Inst) → AllByRecursion IsCallPart (map Closed xs)
closed_calls [] = tt
closed_calls (x ∷ xs) = (tt, closed_calls xs)

-- ---- statements with a target

branch_by : (two eight : Bool) (operation : BranchOperation) (rs1 rs2 : ℕ)
    → AllByRecursion IsCallPart
    (if two then Open kind.RvcBranch (of_branch operation (b_type rs1 rs2 (pos 0))) ∷ []
    else if eight then Closed (of_branch (inverted operation) (b_type rs1 rs2 (pos 8))) ∷ Open kind.Jal (jal 0) ∷ []
    else Open kind.Branch (of_branch operation (b_type rs1 rs2 (pos 0))) ∷ [])
branch_by true eight operation rs1 rs2 = (tt, tt)
branch_by false true operation rs1 rs2 = (tt, (tt, tt))
branch_by false false operation rs1 rs2 = (tt, tt)

branch_calls : (bytes : ℕ) (operation : BranchOperation) (rs1 rs2 : ℕ) → AllByRecursion IsCallPart (branch bytes operation rs1 rs2)
branch_calls bytes operation rs1 rs2 = branch_by (bytes == 2) (bytes == 8) operation rs1 rs2

zero_calls : (bytes : ℕ) (operation : ZeroBranchOperation) (rs : ℕ) → AllByRecursion IsCallPart (zero_branch bytes operation rs)
zero_calls bytes Beqz rs = branch_calls bytes Beq rs 0
zero_calls bytes Bnez rs = branch_calls bytes Bne rs 0
zero_calls bytes Bgez rs = branch_calls bytes Bge rs 0
zero_calls bytes Bltz rs = branch_calls bytes Blt rs 0
zero_calls bytes Blez rs = branch_calls bytes Bge 0 rs
zero_calls bytes Bgtz rs = branch_calls bytes Blt 0 rs

swapped_calls : (bytes : ℕ) (operation : SwappedBranchOperation) (a b : ℕ) → AllByRecursion IsCallPart (swapped_branch bytes operation a b)
swapped_calls bytes Bgt a b = branch_calls bytes Blt b a
swapped_calls bytes Ble a b = branch_calls bytes Bge b a
swapped_calls bytes Bgtu a b = branch_calls bytes Bltu b a
swapped_calls bytes Bleu a b = branch_calls bytes Bgeu b a

far_by : (t : Bool) (bytes link through : ℕ)
    → AllByRecursion IsCallPart (if t then Joined kind.CallPlt (auipc through) (jalr link through (pos 0)) ∷ [] else jump bytes link)
far_by true bytes link through = (refl, tt)
far_by false bytes link through = (tt, tt)

far_calls : (bytes link through : ℕ) → AllByRecursion IsCallPart (far bytes link through)
far_calls bytes link through = far_by (bytes == 8) bytes link through

unless_so : (t : Bool) (o : Option (List Part)) → AreCalls o → AreCalls (if t then None else o)
unless_so true o calls = tt
unless_so false o calls = calls

through_calls : (register : ℕ) (ps : List Part) → AllByRecursion IsCallPart ps → AreCalls (through register ps)
through_calls register ps calls = unless_so (register == 0) (Some ps) calls

-- ---- statements with a number

number_calls : (make : ℤ → Inst) (o : Option ℤ) → AreCalls (by_number make o)
number_calls make None = tt
number_calls make (Some k) = (tt, tt)

part_calls : (kind : Kind) (make : ℤ → Inst) (o : Option ℤ) → AreCalls (by_part kind make o)
part_calls kind make None = (tt, tt)
part_calls kind make (Some k) = (tt, tt)

signed_calls : (v : Constants) (store : Bool) (make : ℤ → Inst) (o : Operand) → AreCalls (signed_12 v store make o)
signed_calls v store make (Value e) = number_calls make (v e)
signed_calls v store make (Applied Lo e) = part_calls _ make (option_map lo (v e))
signed_calls v store make (Applied PcrelLo e) = (tt, tt)
signed_calls v store make _ = tt

amount_calls : (v : Constants) (make : ℕ → Inst) (o : Operand) → AreCalls (by_amount v make o)
amount_calls v make (Value e) = number_calls (λ k. make (wrapped k)) (v e)
amount_calls v make (Applied Lo e) = number_calls (λ k. make (wrapped k)) (option_map lo (v e))
amount_calls v make _ = tt

constant_calls : (v : Constants) (form : Option Mnemonic) (rd rs1 : ℕ) (o : Operand) → AreCalls (by_constant v form rd rs1 o)
constant_calls v (Some (Immediate i)) rd rs1 o = signed_calls v false (λ k. of_immediate i (i_type rd rs1 k)) o
constant_calls v (Some (Shift i)) rd rs1 o = amount_calls v (λ n. of_shift i (shift_by rd rs1 n)) o
constant_calls v _ rd rs1 o = tt

upper_calls : (v : Constants) (make : ℕ → Inst) (o : Operand) → AreCalls (upper_20 v make o)
upper_calls v make (Value e) = number_calls (λ k. make (wrapped k)) (v e)
upper_calls v make (Applied Hi e) = part_calls kind.Hi20 (λ k. make (wrapped k)) (option_map hi (v e))
upper_calls v make (Applied PcrelHi e) = (tt, tt)
upper_calls v make _ = tt

sequence_calls : (rd : ℕ) (o : Option ℤ) → AreCalls (option_map (λ k. map Closed (li rd k)) o)
sequence_calls rd None = tt
sequence_calls rd (Some k) = closed_calls (li rd k)

-- ---- parcels

form_calls : (named : Option Compressed) → AreCalls (option_map (λ form. Closed (expansion form) ∷ []) named)
form_calls None = tt
form_calls (Some form) = (tt, tt)

short_by : (short : Bool) (operation : BranchOperation) (rs : ℕ) → AreCalls (if short then Some (branch 2 operation rs 0) else None)
short_by true operation rs = branch_calls 2 operation rs 0
short_by false operation rs = tt

short_calls : (operation : BranchOperation) (rs : ℕ) → AreCalls (short_branch operation rs)
short_calls operation rs = short_by (is_of_set Short rs) operation rs

-- ---- all rows

rows_calls : (v : Constants) (rvc : Bool) (bytes : ℕ) (mnemonic : Mnemonic) (operands : List Operand) → AreCalls (code v rvc bytes mnemonic operands)
rows_calls v rvc bytes (Registers operation) (Register rd ∷ Register rs1 ∷ Register rs2 ∷ []) = (tt, tt)
rows_calls v rvc bytes (Registers operation) (Register rd ∷ Register rs1 ∷ o ∷ []) = constant_calls v (with_constant operation) rd rs1 o
rows_calls v rvc bytes (Immediate operation) (Register rd ∷ Register rs1 ∷ o ∷ []) = signed_calls v false (λ k. of_immediate operation (i_type rd rs1 k)) o
rows_calls v rvc bytes (Shift operation) (Register rd ∷ Register rs1 ∷ o ∷ []) = amount_calls v (λ n. of_shift operation (shift_by rd rs1 n)) o
rows_calls v rvc bytes (Upper operation) (Register rd ∷ o ∷ []) = upper_calls v (λ n. of_upper operation (u_type rd n)) o
rows_calls v rvc bytes (Load operation) (Register rd ∷ Register rs1 ∷ []) = (tt, tt)
rows_calls v rvc bytes (Load operation) (Register rd ∷ Target e ∷ []) =
    through_calls rd (near rd kind.PcrelLo12I (of_load operation (i_type rd rd (pos 0)))) (tt, (tt, tt))
rows_calls v rvc bytes (Load operation) (Register rd ∷ o ∷ Register rs1 ∷ []) = signed_calls v false (λ k. of_load operation (i_type rd rs1 k)) o
rows_calls v rvc bytes (Store operation) (Register rs2 ∷ Register rs1 ∷ []) = (tt, tt)
rows_calls v rvc bytes (Store operation) (Register rs2 ∷ Target e ∷ Register rt ∷ []) =
    unless_so (rt == rs2) _ (through_calls rt (near rt kind.PcrelLo12S (of_store operation (s_type rs2 rt (pos 0)))) (tt, (tt, tt)))
rows_calls v rvc bytes (Store operation) (Register rs2 ∷ o ∷ Register rs1 ∷ []) = signed_calls v true (λ k. of_store operation (s_type rs2 rs1 k)) o
rows_calls v rvc bytes (Branch operation) (Register rs1 ∷ Register rs2 ∷ Target e ∷ []) = branch_calls bytes operation rs1 rs2
rows_calls v rvc bytes (ZeroBranch operation) (Register rs ∷ Target e ∷ []) = zero_calls bytes operation rs
rows_calls v rvc bytes (SwappedBranch operation) (Register a ∷ Register b ∷ Target e ∷ []) = swapped_calls bytes operation a b
rows_calls v rvc bytes Jal (Register rd ∷ Target e ∷ []) = (tt, tt)
rows_calls v rvc bytes Jal (Target e ∷ []) = (tt, tt)
rows_calls v rvc bytes J (Target e ∷ []) = (tt, tt)
rows_calls v rvc bytes Jalr (Register rs1 ∷ []) = (tt, tt)
rows_calls v rvc bytes Jalr (Register rd ∷ Register rs1 ∷ []) = (tt, tt)
rows_calls v rvc bytes Jalr (o ∷ Register rs1 ∷ []) = signed_calls v false (jalr 1 rs1) o
rows_calls v rvc bytes Jalr (Register rd ∷ Register rs1 ∷ o ∷ []) = signed_calls v false (jalr rd rs1) o
rows_calls v rvc bytes Jalr (Register rd ∷ o ∷ Register rs1 ∷ []) = signed_calls v false (jalr rd rs1) o
rows_calls v rvc bytes Jr (Register rs ∷ []) = (tt, tt)
rows_calls v rvc bytes Jr (o ∷ Register rs ∷ []) = signed_calls v false (jalr 0 rs) o
rows_calls v rvc bytes Ret [] = (tt, tt)
rows_calls v rvc bytes (LoadReserved form) (Register rd ∷ Register rs1 ∷ []) = (tt, tt)
rows_calls v rvc bytes (Atomic operation form) (Register rd ∷ Register rs2 ∷ Register rs1 ∷ []) = (tt, tt)
rows_calls v rvc bytes Fence [] = (tt, tt)
rows_calls v rvc bytes Fence (Accesses before ∷ Accesses after ∷ []) = (tt, tt)
rows_calls v rvc bytes FenceTso [] = (tt, tt)
rows_calls v rvc bytes Ecall [] = (tt, tt)
rows_calls v rvc bytes Ebreak [] = (tt, tt)
rows_calls v rvc bytes Nop [] = (tt, tt)
rows_calls v rvc bytes (Unary operation) (Register rd ∷ Register rs ∷ []) = closed_calls (unary rvc operation rd rs)
rows_calls v rvc bytes (Compare operation) (Register rd ∷ Register a ∷ Register b ∷ []) = (tt, tt)
rows_calls v rvc bytes La (Register rd ∷ Target e ∷ []) = (tt, (tt, tt))
rows_calls v rvc bytes Li (Register rd ∷ o ∷ []) = sequence_calls rd (constant_number v o)
rows_calls v rvc bytes Call (Register rd ∷ Target e ∷ []) = through_calls rd (far bytes rd rd) (far_calls bytes rd rd)
rows_calls v rvc bytes Call (Target e ∷ []) = far_calls bytes 1 1
rows_calls v rvc bytes Tail (Target e ∷ []) = far_calls bytes 0 6
rows_calls v rvc bytes Jump (Target e ∷ Register rt ∷ []) = through_calls rt (far bytes 0 rt) (far_calls bytes 0 rt)
rows_calls v rvc bytes (Parcel parcels.J) (Target e ∷ []) = (tt, tt)
rows_calls v rvc bytes (Parcel parcels.Beqz) (Register rs ∷ Target e ∷ []) = short_calls Beq rs
rows_calls v rvc bytes (Parcel parcels.Bnez) (Register rs ∷ Target e ∷ []) = short_calls Bne rs
rows_calls v rvc bytes (Parcel operation) operands = form_calls (named_form v (Parcel operation) operands)
rows_calls v rvc bytes mnemonic operands = tt

pub code_calls : (v : Constants) (rvc : Bool) (bytes : ℕ) (mnemonic : Mnemonic) (operands : List Operand) (parts : List Part)
    → code v rvc bytes mnemonic operands ≡ Some parts → AllByRecursion IsCallPart parts
code_calls v rvc bytes mnemonic operands parts e = subst AreCalls e (rows_calls v rvc bytes mnemonic operands)

-- ---- statements that name a parcel

any_part : (parts : List Part) → AllByRecursion (IsNamedPart None) parts
any_part [] = tt
any_part (p ∷ parts) = (tt, any_part parts)

closed_by : (named : Option Compressed) (parts : List Part) → ((form : Compressed) → named ≡ Some form → Closed (expansion form) ∷ [] ≡ parts)
    → AllByRecursion (IsNamedPart named) parts
closed_by None parts is = any_part parts
closed_by (Some form) parts is = subst (AllByRecursion (IsNamedPart (Some form))) (is form refl) (refl, tt)

pub named_closed : (v : Constants) (rvc : Bool) (bytes : ℕ) (mnemonic : Mnemonic) (operands : List Operand) (parts : List Part)
    → code v rvc bytes mnemonic operands ≡ Some parts → AllByRecursion (IsNamedPart (named_form v mnemonic operands)) parts
named_closed v rvc bytes mnemonic operands parts e =
    closed_by (named_form v mnemonic operands) parts
    (λ form named. ap (λ o. unwrap_or o []) (sym (named_code v rvc bytes mnemonic operands form named) ∙ e))
