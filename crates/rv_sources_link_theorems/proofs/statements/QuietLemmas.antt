-- The code of statements that neither branch nor jump, part by part: each instruction is closed, or has a field for a part of an
-- address. And what holds of each branch holds of those that stand for one.

use Rattle.std.proofs.Common.{◌≡◌, ℕ, Bool, true, false, List, [], ◌∷◌, map, ℤ, pos, Option, Some, None, option_map}
use Rattle.std.specs.Prelude.{⊤, ◌==◌, if◌then◌else◌}
use Rattle.std.specs.List.{AllByRecursion}
use Rattle.rv_isa.specs.declared.instruction.Inst.{Inst}
use Rattle.rv_isa.specs.declared.kind.Kind.{Kind}
use Rattle.rv_isa.specs.declared.kind.Kind.TheVariants as kind
use Rattle.rv_isa.specs.declared.operation.BranchOperation.{BranchOperation}
use Rattle.rv_isa.specs.declared.operation.BranchOperation.TheVariants.{Beq, Bne, Blt, Bge, Bltu, Bgeu}
use Rattle.rv_isa.specs.Operations.{of_immediate, of_shift, of_upper, of_load, of_store}
use Rattle.rv_isa_laws.specs.Arithmetic.{wrapped}
use Rattle.rv_isa_laws.specs.Halves.{hi, lo}
use Rattle.rv_statement_laws.specs.declared.mnemonic.Mnemonic.{Mnemonic}
use Rattle.rv_statement_laws.specs.declared.mnemonic.Mnemonic.TheVariants.{Registers, Immediate, Shift, Upper, Load, Store, Branch, Jal, Jalr, LoadReserved, Atomic, Fence, FenceTso, Ecall, Ebreak, Nop, Unary, Compare, ZeroBranch, SwappedBranch, J, Jr, Ret, La, Li, Call, Tail, Jump, Parcel}
use Rattle.rv_parcel.specs.declared.parcel.RegisterSet.TheVariants.{Short}
use Rattle.rv_parcel.specs.Mnemonics.{is_of_set}
use Rattle.rv_parcel.specs.declared.form.Compressed.{Compressed}
use Rattle.rv_parcel.specs.Parcel.{expansion}
use Rattle.rv_statement_laws.specs.declared.pseudo.ZeroBranchOperation.{ZeroBranchOperation}
use Rattle.rv_statement_laws.specs.declared.pseudo.ZeroBranchOperation.TheVariants.{Beqz, Bnez, Bgez, Bltz, Blez, Bgtz}
use Rattle.rv_statement_laws.specs.declared.pseudo.SwappedBranchOperation.{SwappedBranchOperation}
use Rattle.rv_statement_laws.specs.declared.pseudo.SwappedBranchOperation.TheVariants.{Bgt, Ble, Bgtu, Bleu}
use Rattle.rv_statement_laws.specs.declared.pseudo.Function.TheVariants.{Hi, Lo, PcrelHi, PcrelLo}
use Rattle.rv_statement_laws.specs.Statement.{Operand, Register, Value, Applied, Target, Accesses}
use Rattle.rv_parse_laws.specs.Syntax.{with_constant}
use Rattle.rv_pseudo_laws.specs.Li.{addi, li}
use Rattle.rv_pseudo_laws.specs.Code.{Part, Closed, Open, Constants, i_type, s_type, u_type, shift_by, jalr, auipc, unary, branch, near, zero_branch, swapped_branch, by_number, by_part, signed_12, upper_20, constant_number, by_amount, by_constant, short_branch, code}

-- ---- branches

module _ (Q : List Part → Type 0) (bytes : ℕ) (each : (operation : BranchOperation) (rs1 rs2 : ℕ) → Q (branch bytes operation rs1 rs2)) where
  pub zero_branches : (operation : ZeroBranchOperation) (rs : ℕ) → Q (zero_branch bytes operation rs)
  zero_branches Beqz rs = each Beq rs 0
  zero_branches Bnez rs = each Bne rs 0
  zero_branches Bgez rs = each Bge rs 0
  zero_branches Bltz rs = each Blt rs 0
  zero_branches Blez rs = each Bge 0 rs
  zero_branches Bgtz rs = each Blt 0 rs

  pub swapped_branches : (operation : SwappedBranchOperation) (a b : ℕ) → Q (swapped_branch bytes operation a b)
  swapped_branches Bgt a b = each Blt b a
  swapped_branches Ble a b = each Bge b a
  swapped_branches Bgtu a b = each Bltu b a
  swapped_branches Bleu a b = each Bgeu b a

-- ---- all others

-- a branch, a jump to a target, or a parcel, which may be one
abbrev pub is_branching : Mnemonic → Bool
is_branching (Branch operation) = true
is_branching (ZeroBranch operation) = true
is_branching (SwappedBranch operation) = true
is_branching Jal = true
is_branching J = true
is_branching Call = true
is_branching Tail = true
is_branching Jump = true
is_branching (Parcel operation) = true
is_branching _ = false

-- holds of a part that is closed, and of one with a field for a part of an address
pub record IsCalm (P : Part → Type 0) : Type 0 where
  pub closed : (i : Inst) → P (Closed i)
  pub upper : (i : Inst) → P (Open kind.Hi20 i)
  pub low_i : (i : Inst) → P (Open kind.Lo12I i)
  pub low_s : (i : Inst) → P (Open kind.Lo12S i)
  pub pcrel_upper : (i : Inst) → P (Open kind.PcrelHi20 i)
  pub pcrel_low_i : (i : Inst) → P (Open kind.PcrelLo12I i)
  pub pcrel_low_s : (i : Inst) → P (Open kind.PcrelLo12S i)

-- of each part of the code, where there is any
abbrev pub InCode : (Part → Type 0) → Option (List Part) → Type 0
InCode P None = ⊤
InCode P (Some ps) = AllByRecursion P ps

pub either_kind : (P : Part → Type 0) (b : Bool) (k q : Kind) → ((i : Inst) → P (Open k i)) → ((i : Inst) → P (Open q i)) → (i : Inst) → P (Open (if b then k else q) i)
either_kind P true k q e f i = e i
either_kind P false k q e f i = f i

-- the code of a parcel, by its form
abbrev pub formed : Option Compressed → Option (List Part)
formed f = option_map (λ form. Closed (expansion form) ∷ []) f

module _ (P : Part → Type 0) (calm : IsCalm P) where
  closed_quiet : (xs : List Inst) → AllByRecursion P (map Closed xs)
  closed_quiet [] = tt
  closed_quiet (x ∷ xs) = (calm.closed x, closed_quiet xs)

  number_quiet : (make : ℤ → Inst) (n : Option ℤ) → InCode P (by_number make n)
  number_quiet make None = tt
  number_quiet make (Some k) = (calm.closed (make k), tt)

  part_quiet : (k : Kind) → ((i : Inst) → P (Open k i)) → (make : ℤ → Inst) (n : Option ℤ) → InCode P (by_part k make n)
  part_quiet k e make None = (e (make (pos 0)), tt)
  part_quiet k e make (Some n) = (calm.closed (make n), tt)

  signed_quiet : (v : Constants) (store : Bool) (make : ℤ → Inst) (o : Operand) → InCode P (signed_12 v store make o)
  signed_quiet v store make (Value e) = number_quiet make (v e)
  signed_quiet v store make (Applied Lo e) = part_quiet (if store then kind.Lo12S else kind.Lo12I) (either_kind P store kind.Lo12S kind.Lo12I calm.low_s calm.low_i) make (option_map lo (v e))
  signed_quiet v store make (Applied PcrelLo e) = (either_kind P store kind.PcrelLo12S kind.PcrelLo12I calm.pcrel_low_s calm.pcrel_low_i (make (pos 0)), tt)
  signed_quiet v store make _ = tt

  amount_quiet : (v : Constants) (make : ℕ → Inst) (o : Operand) → InCode P (by_amount v make o)
  amount_quiet v make o = number_quiet (λ k. make (wrapped k)) (constant_number v o)

  constant_quiet : (v : Constants) (form : Option Mnemonic) (rd rs1 : ℕ) (o : Operand) → InCode P (by_constant v form rd rs1 o)
  constant_quiet v (Some (Immediate i)) rd rs1 o = signed_quiet v false (λ k. of_immediate i (i_type rd rs1 k)) o
  constant_quiet v (Some (Shift i)) rd rs1 o = amount_quiet v (λ n. of_shift i (shift_by rd rs1 n)) o
  constant_quiet v _ rd rs1 o = tt

  upper_quiet : (v : Constants) (make : ℕ → Inst) (o : Operand) → InCode P (upper_20 v make o)
  upper_quiet v make (Value e) = number_quiet (λ k. make (wrapped k)) (v e)
  upper_quiet v make (Applied Hi e) = part_quiet kind.Hi20 calm.upper (λ k. make (wrapped k)) (option_map hi (v e))
  upper_quiet v make (Applied PcrelHi e) = (calm.pcrel_upper (make 0), tt)
  upper_quiet v make _ = tt

  sequence_quiet : (rd : ℕ) (n : Option ℤ) → InCode P (option_map (λ k. map Closed (li rd k)) n)
  sequence_quiet rd None = tt
  sequence_quiet rd (Some k) = closed_quiet (li rd k)

  unless_quiet : (t : Bool) (o : Option (List Part)) → InCode P o → InCode P (if t then None else o)
  unless_quiet true o h = tt
  unless_quiet false o h = h

  near_quiet : (rd : ℕ) (k : Kind) (i : Inst) → P (Open k i) → AllByRecursion P (near rd k i)
  near_quiet rd k i e = (calm.pcrel_upper (auipc rd), (e, tt))

  -- of parcels
  pub short_quiet : (operation : BranchOperation) (rs : ℕ) → AllByRecursion P (branch 2 operation rs 0) → InCode P (short_branch operation rs)
  short_quiet operation rs h = go (is_of_set Short rs)
    where
      go : (t : Bool) → InCode P (if t then Some (branch 2 operation rs 0) else None)
      go true = h
      go false = tt

  pub form_quiet : (f : Option Compressed) → InCode P (formed f)
  form_quiet None = tt
  form_quiet (Some form) = (calm.closed (expansion form), tt)

  pub quiet : (v : Constants) (rvc : Bool) (bytes : ℕ) (mnemonic : Mnemonic) (os : List Operand) → is_branching mnemonic ≡ false → InCode P (code v rvc bytes mnemonic os)
  quiet v rvc bytes (Registers operation) (Register rd ∷ Register rs1 ∷ Register rs2 ∷ []) e = (calm.closed _, tt)
  quiet v rvc bytes (Registers operation) (Register rd ∷ Register rs1 ∷ o ∷ []) e = constant_quiet v (with_constant operation) rd rs1 o
  quiet v rvc bytes (Immediate operation) (Register rd ∷ Register rs1 ∷ o ∷ []) e = signed_quiet v false (λ k. of_immediate operation (i_type rd rs1 k)) o
  quiet v rvc bytes (Shift operation) (Register rd ∷ Register rs1 ∷ o ∷ []) e = amount_quiet v (λ n. of_shift operation (shift_by rd rs1 n)) o
  quiet v rvc bytes (Upper operation) (Register rd ∷ o ∷ []) e = upper_quiet v (λ n. of_upper operation (u_type rd n)) o
  quiet v rvc bytes (Load operation) (Register rd ∷ Register rs1 ∷ []) e = (calm.closed _, tt)
  quiet v rvc bytes (Load operation) (Register rd ∷ Target x ∷ []) e =
      unless_quiet (rd == 0) (Some (near rd kind.PcrelLo12I (of_load operation (i_type rd rd (pos 0))))) (near_quiet rd kind.PcrelLo12I (of_load operation (i_type rd rd (pos 0))) (calm.pcrel_low_i (of_load operation (i_type rd rd (pos 0)))))
  quiet v rvc bytes (Load operation) (Register rd ∷ o ∷ Register rs1 ∷ []) e = signed_quiet v false (λ k. of_load operation (i_type rd rs1 k)) o
  quiet v rvc bytes (Store operation) (Register rs2 ∷ Register rs1 ∷ []) e = (calm.closed _, tt)
  quiet v rvc bytes (Store operation) (Register rs2 ∷ Target x ∷ Register rt ∷ []) e =
      unless_quiet (rt == rs2) _ (unless_quiet (rt == 0) (Some (near rt kind.PcrelLo12S (of_store operation (s_type rs2 rt (pos 0))))) (near_quiet rt kind.PcrelLo12S (of_store operation (s_type rs2 rt (pos 0))) (calm.pcrel_low_s (of_store operation (s_type rs2 rt (pos 0))))))
  quiet v rvc bytes (Store operation) (Register rs2 ∷ o ∷ Register rs1 ∷ []) e = signed_quiet v true (λ k. of_store operation (s_type rs2 rs1 k)) o
  quiet v rvc bytes Jalr (Register rs1 ∷ []) e = (calm.closed _, tt)
  quiet v rvc bytes Jalr (Register rd ∷ Register rs1 ∷ []) e = (calm.closed _, tt)
  quiet v rvc bytes Jalr (o ∷ Register rs1 ∷ []) e = signed_quiet v false (jalr 1 rs1) o
  quiet v rvc bytes Jalr (Register rd ∷ Register rs1 ∷ o ∷ []) e = signed_quiet v false (jalr rd rs1) o
  quiet v rvc bytes Jalr (Register rd ∷ o ∷ Register rs1 ∷ []) e = signed_quiet v false (jalr rd rs1) o
  quiet v rvc bytes Jr (Register rs ∷ []) e = (calm.closed _, tt)
  quiet v rvc bytes Jr (o ∷ Register rs ∷ []) e = signed_quiet v false (jalr 0 rs) o
  quiet v rvc bytes Ret [] e = (calm.closed _, tt)
  quiet v rvc bytes (LoadReserved form) (Register rd ∷ Register rs1 ∷ []) e = (calm.closed _, tt)
  quiet v rvc bytes (Atomic operation form) (Register rd ∷ Register rs2 ∷ Register rs1 ∷ []) e = (calm.closed _, tt)
  quiet v rvc bytes Fence [] e = (calm.closed _, tt)
  quiet v rvc bytes Fence (Accesses before ∷ Accesses after ∷ []) e = (calm.closed _, tt)
  quiet v rvc bytes FenceTso [] e = (calm.closed _, tt)
  quiet v rvc bytes Ecall [] e = (calm.closed _, tt)
  quiet v rvc bytes Ebreak [] e = (calm.closed _, tt)
  quiet v rvc bytes Nop [] e = (calm.closed _, tt)
  quiet v rvc bytes (Unary operation) (Register rd ∷ Register rs ∷ []) e = closed_quiet (unary rvc operation rd rs)
  quiet v rvc bytes (Compare operation) (Register rd ∷ Register a ∷ Register b ∷ []) e = (calm.closed _, tt)
  quiet v rvc bytes La (Register rd ∷ Target x ∷ []) e = near_quiet rd kind.PcrelLo12I (addi rd rd (pos 0)) (calm.pcrel_low_i (addi rd rd (pos 0)))
  quiet v rvc bytes Li (Register rd ∷ o ∷ []) e = sequence_quiet rd (constant_number v o)
  quiet v rvc bytes (Branch operation) os e = absurd (cc)
  quiet v rvc bytes (ZeroBranch operation) os e = absurd (cc)
  quiet v rvc bytes (SwappedBranch operation) os e = absurd (cc)
  quiet v rvc bytes Jal os e = absurd (cc)
  quiet v rvc bytes J os e = absurd (cc)
  quiet v rvc bytes Call os e = absurd (cc)
  quiet v rvc bytes Tail os e = absurd (cc)
  quiet v rvc bytes Jump os e = absurd (cc)
  quiet v rvc bytes (Parcel operation) os e = absurd (cc)
  quiet v rvc bytes mnemonic os e = tt
