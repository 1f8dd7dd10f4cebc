-- Whether the code of a statement has the upper part of a distance: where the statement takes one.

use Rattle.std.proofs.Common.{◌≡◌, ℕ, Bool, true, false, ◌&&◌, ◌==◌, refl, ap, subst, ℤ, pos, List, [], ◌∷◌, map, Option, Some, None, option_map}
use Rattle.std.specs.Prelude.{⊤, ◌||◌, if◌then◌else◌}
use Rattle.std.specs.List.{list_any}
use Rattle.rv_isa.specs.declared.kind.Kind.{Kind}
use Rattle.rv_isa.specs.declared.kind.Kind.TheVariants as kind
use Rattle.rv_isa.specs.declared.instruction.Inst.{Inst}
use Rattle.rv_isa.specs.declared.operation.BranchOperation.{BranchOperation}
use Rattle.rv_isa.specs.declared.operation.BranchOperation.TheVariants.{Beq, Bne}
use Rattle.rv_isa.specs.declared.operation.UpperOperation.{UpperOperation}
use Rattle.rv_isa.specs.Operations.{of_immediate, of_shift, of_upper, of_load, of_store, of_branch}
use Rattle.rv_isa_laws.specs.Arithmetic.{wrapped}
use Rattle.rv_isa_laws.specs.Halves.{hi, lo}
use Rattle.rv_parcel.specs.declared.form.Compressed.{Compressed}
use Rattle.rv_parcel.specs.declared.parcel.ParcelOperation.TheVariants as parcels
use Rattle.rv_parcel.specs.declared.parcel.RegisterSet.TheVariants.{Short}
use Rattle.rv_parcel.specs.Mnemonics.{is_of_set}
use Rattle.rv_statement_laws.specs.declared.mnemonic.Mnemonic.{Mnemonic}
use Rattle.rv_statement_laws.specs.declared.mnemonic.Mnemonic.TheVariants.{Registers, Immediate, Shift, Upper, Load, Store, Branch, Jal, Jalr, LoadReserved, Atomic, Fence, FenceTso, Ecall, Ebreak, Nop, Unary, Compare, ZeroBranch, SwappedBranch, J, Jr, Ret, La, Li, Call, Tail, Jump, Parcel}
use Rattle.rv_statement_laws.specs.declared.pseudo.Function.TheVariants.{Hi, Lo, PcrelHi, PcrelLo}
use Rattle.rv_statement_laws.specs.Statement.{Instruction, Operand, Register, Value, Applied, Target, Accesses}
use Rattle.rv_parse_laws.specs.Syntax.{with_constant}
use Rattle.rv_pseudo_laws.specs.Li.{li}
use Rattle.rv_pseudo_laws.specs.Code.{Part, Closed, Open, Joined, Constants, i_type, s_type, b_type, u_type, shift_by, jalr, jal, auipc, unary, inverted, branch, jump, near, far, by_number, by_part, signed_12, upper_20, constant_number, by_constant, named_form, code}
use Rattle.rv_source_laws.specs.Lines.{takes_upper}
use Rattle.rv_sources_link_theorems.proofs.statements.QuietLemmas.{formed, zero_branches, swapped_branches}

-- the upper part of a distance
abbrev pub is_upper_part : Part → Bool
is_upper_part (Open kind.PcrelHi20 i) = true
is_upper_part _ = false

-- parts, if there are some, have one or have none
abbrev Have : Bool → Option (List Part) → Type 0
Have b None = ⊤
Have b (Some ps) = list_any is_upper_part ps ≡ b

abbrev HaveNone : List Part → Type 0
HaveNone ps = list_any is_upper_part ps ≡ false

none_closed : (is : List Inst) → HaveNone (map Closed is)
none_closed [] = refl
none_closed (i ∷ is) = none_closed is

none_number : (make : ℤ → Inst) (o : Option ℤ) → Have false (by_number make o)
none_number make None = tt
none_number make (Some k) = refl

none_part : (k : Kind) (make : ℤ → Inst) (o : Option ℤ) → ((i : Inst) → is_upper_part (Open k i) ≡ false) → Have false (by_part k make o)
none_part k make None other = ap (λ b. b || false) (other (make (pos 0)))
none_part k make (Some n) other = refl

none_signed : (v : Constants) (store : Bool) (make : ℤ → Inst) (o : Operand) → Have false (signed_12 v store make o)
none_signed v store make (Value e) = none_number make (v e)
none_signed v true make (Applied Lo e) = none_part kind.Lo12S make (option_map lo (v e)) (λ i. refl)
none_signed v false make (Applied Lo e) = none_part kind.Lo12I make (option_map lo (v e)) (λ i. refl)
none_signed v true make (Applied PcrelLo e) = refl
none_signed v false make (Applied PcrelLo e) = refl
none_signed v store make o = tt

none_constant : (v : Constants) (m : Option Mnemonic) (rd rs1 : ℕ) (o : Operand) → Have false (by_constant v m rd rs1 o)
none_constant v (Some (Immediate operation)) rd rs1 o = none_signed v false (λ k. of_immediate operation (i_type rd rs1 k)) o
none_constant v (Some (Shift operation)) rd rs1 o = none_number (λ k. of_shift operation (shift_by rd rs1 (wrapped k))) (constant_number v o)
none_constant v m rd rs1 o = tt

-- `%pcrel_hi` alone has one
one_upper : (v : Constants) (operation : UpperOperation) (rd : ℕ) (o : Operand)
    → Have (takes_upper (Instruction (Upper operation) (Register rd ∷ o ∷ []))) (upper_20 v (λ n. of_upper operation (u_type rd n)) o)
one_upper v operation rd (Value e) = none_number (λ k. of_upper operation (u_type rd (wrapped k))) (v e)
one_upper v operation rd (Applied Hi e) = none_part kind.Hi20 (λ k. of_upper operation (u_type rd (wrapped k))) (option_map hi (v e)) (λ i. refl)
one_upper v operation rd (Applied PcrelHi e) = refl
one_upper v operation rd o = tt

none_sequence : (rd : ℕ) (o : Option ℤ) → Have false (option_map (λ k. map Closed (li rd k)) o)
none_sequence rd None = tt
none_sequence rd (Some k) = none_closed (li rd k)

branch_by : (u w : Bool) (operation : BranchOperation) (rs1 rs2 : ℕ)
    → HaveNone (if u then Open kind.RvcBranch (of_branch operation (b_type rs1 rs2 (pos 0))) ∷ []
    else if w then Closed (of_branch (inverted operation) (b_type rs1 rs2 (pos 8))) ∷ Open kind.Jal (jal 0) ∷ []
    else Open kind.Branch (of_branch operation (b_type rs1 rs2 (pos 0))) ∷ [])
branch_by true w operation rs1 rs2 = refl
branch_by false true operation rs1 rs2 = refl
branch_by false false operation rs1 rs2 = refl

none_branch : (bytes : ℕ) (operation : BranchOperation) (rs1 rs2 : ℕ) → HaveNone (branch bytes operation rs1 rs2)
none_branch bytes operation rs1 rs2 = branch_by (bytes == 2) (bytes == 8) operation rs1 rs2

jump_by : (t : Bool) (rd : ℕ) → HaveNone (Open (if t then kind.RvcJump else kind.Jal) (jal rd) ∷ [])
jump_by true rd = refl
jump_by false rd = refl

none_jump : (bytes rd : ℕ) → HaveNone (jump bytes rd)
none_jump bytes rd = jump_by ((rd == 0) && (bytes == 2)) rd

far_by : (t : Bool) (bytes link through : ℕ) → HaveNone (if t then Joined kind.CallPlt (auipc through) (jalr link through (pos 0)) ∷ [] else jump bytes link)
far_by true bytes link through = refl
far_by false bytes link through = none_jump bytes link

none_far : (bytes link through : ℕ) → HaveNone (far bytes link through)
none_far bytes link through = far_by (bytes == 8) bytes link through

unless : (t b : Bool) (o : Option (List Part)) → Have b o → Have b (if t then None else o)
unless true b o h = tt
unless false b o h = h

when : (t b : Bool) (ps : List Part) → list_any is_upper_part ps ≡ b → Have b (if t then Some ps else None)
when true b ps h = h
when false b ps h = tt

none_formed : (f : Option Compressed) → Have false (formed f)
none_formed None = tt
none_formed (Some form) = refl

-- ---- all rows

rows : (v : Constants) (rvc : Bool) (bytes : ℕ) (mnemonic : Mnemonic) (os : List Operand) → Have (takes_upper (Instruction mnemonic os)) (code v rvc bytes mnemonic os)
rows v rvc bytes (Registers operation) (Register rd ∷ Register rs1 ∷ Register rs2 ∷ []) = refl
rows v rvc bytes (Registers operation) (Register rd ∷ Register rs1 ∷ o ∷ []) = none_constant v (with_constant operation) rd rs1 o
rows v rvc bytes (Immediate operation) (Register rd ∷ Register rs1 ∷ o ∷ []) = none_signed v false (λ k. of_immediate operation (i_type rd rs1 k)) o
rows v rvc bytes (Shift operation) (Register rd ∷ Register rs1 ∷ o ∷ []) = none_number (λ k. of_shift operation (shift_by rd rs1 (wrapped k))) (constant_number v o)
rows v rvc bytes (Upper operation) (Register rd ∷ o ∷ []) = one_upper v operation rd o
rows v rvc bytes (Load operation) (Register rd ∷ Register rs1 ∷ []) = refl
rows v rvc bytes (Load operation) (Register rd ∷ Target e ∷ []) = unless (rd == 0) true (Some (near rd kind.PcrelLo12I (of_load operation (i_type rd rd (pos 0))))) refl
rows v rvc bytes (Load operation) (Register rd ∷ o ∷ Register rs1 ∷ []) = none_signed v false (λ k. of_load operation (i_type rd rs1 k)) o
rows v rvc bytes (Store operation) (Register rs2 ∷ Register rs1 ∷ []) = refl
rows v rvc bytes (Store operation) (Register rs2 ∷ Target e ∷ Register rt ∷ []) =
    unless (rt == rs2) true (if rt == 0 then None else Some (near rt kind.PcrelLo12S (of_store operation (s_type rs2 rt (pos 0)))))
    (unless (rt == 0) true (Some (near rt kind.PcrelLo12S (of_store operation (s_type rs2 rt (pos 0))))) refl)
rows v rvc bytes (Store operation) (Register rs2 ∷ o ∷ Register rs1 ∷ []) = none_signed v true (λ k. of_store operation (s_type rs2 rs1 k)) o
rows v rvc bytes (Branch operation) (Register rs1 ∷ Register rs2 ∷ Target e ∷ []) = none_branch bytes operation rs1 rs2
rows v rvc bytes (ZeroBranch operation) (Register rs ∷ Target e ∷ []) = zero_branches HaveNone bytes (none_branch bytes) operation rs
rows v rvc bytes (SwappedBranch operation) (Register a ∷ Register b ∷ Target e ∷ []) = swapped_branches HaveNone bytes (none_branch bytes) operation a b
rows v rvc bytes Jal (Register rd ∷ Target e ∷ []) = none_jump bytes rd
rows v rvc bytes Jal (Target e ∷ []) = none_jump bytes 1
rows v rvc bytes J (Target e ∷ []) = none_jump bytes 0
rows v rvc bytes Jalr (Register rs1 ∷ []) = refl
rows v rvc bytes Jalr (Register rd ∷ Register rs1 ∷ []) = refl
rows v rvc bytes Jalr (o ∷ Register rs1 ∷ []) = none_signed v false (jalr 1 rs1) o
rows v rvc bytes Jalr (Register rd ∷ Register rs1 ∷ o ∷ []) = none_signed v false (jalr rd rs1) o
rows v rvc bytes Jalr (Register rd ∷ o ∷ Register rs1 ∷ []) = none_signed v false (jalr rd rs1) o
rows v rvc bytes Jr (Register rs ∷ []) = refl
rows v rvc bytes Jr (o ∷ Register rs ∷ []) = none_signed v false (jalr 0 rs) o
rows v rvc bytes Ret [] = refl
rows v rvc bytes (LoadReserved form) (Register rd ∷ Register rs1 ∷ []) = refl
rows v rvc bytes (Atomic operation form) (Register rd ∷ Register rs2 ∷ Register rs1 ∷ []) = refl
rows v rvc bytes Fence [] = refl
rows v rvc bytes Fence (Accesses before ∷ Accesses after ∷ []) = refl
rows v rvc bytes FenceTso [] = refl
rows v rvc bytes Ecall [] = refl
rows v rvc bytes Ebreak [] = refl
rows v rvc bytes Nop [] = refl
rows v rvc bytes (Unary operation) (Register rd ∷ Register rs ∷ []) = none_closed (unary rvc operation rd rs)
rows v rvc bytes (Compare operation) (Register rd ∷ Register a ∷ Register b ∷ []) = refl
rows v rvc bytes La (Register rd ∷ Target e ∷ []) = refl
rows v rvc bytes Li (Register rd ∷ o ∷ []) = none_sequence rd (constant_number v o)
rows v rvc bytes Call (Register rd ∷ Target e ∷ []) = unless (rd == 0) false (Some (far bytes rd rd)) (none_far bytes rd rd)
rows v rvc bytes Call (Target e ∷ []) = none_far bytes 1 1
rows v rvc bytes Tail (Target e ∷ []) = none_far bytes 0 6
rows v rvc bytes Jump (Target e ∷ Register rt ∷ []) = unless (rt == 0) false (Some (far bytes 0 rt)) (none_far bytes 0 rt)
rows v rvc bytes (Parcel parcels.J) (Target e ∷ []) = none_jump 2 0
rows v rvc bytes (Parcel parcels.Beqz) (Register rs ∷ Target e ∷ []) = when (is_of_set Short rs) false (branch 2 Beq rs 0) (none_branch 2 Beq rs 0)
rows v rvc bytes (Parcel parcels.Bnez) (Register rs ∷ Target e ∷ []) = when (is_of_set Short rs) false (branch 2 Bne rs 0) (none_branch 2 Bne rs 0)
rows v rvc bytes (Parcel operation) os = none_formed (named_form v (Parcel operation) os)
rows v rvc bytes mnemonic os = tt

pub begins_upper : (v : Constants) (rvc : Bool) (bytes : ℕ) (mnemonic : Mnemonic) (os : List Operand) (ps : List Part)
    → code v rvc bytes mnemonic os ≡ Some ps → list_any is_upper_part ps ≡ takes_upper (Instruction mnemonic os)
begins_upper v rvc bytes mnemonic os ps e = subst (Have (takes_upper (Instruction mnemonic os))) e (rows v rvc bytes mnemonic os)
