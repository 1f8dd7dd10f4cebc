-- What code goes by no size: that of all statements but branches, jumps and calls.

use Rattle.std.proofs.Common.{◌≡◌, ℕ, Bool, true, false, List, [], ◌∷◌, refl, Some, None}
use Rattle.std.specs.Prelude.{◌&&◌, ◌==◌, if◌then◌else◌}
use Rattle.rv_isa.specs.declared.instruction.Inst.{Inst}
use Rattle.rv_isa.specs.declared.kind.Kind.TheVariants as kind
use Rattle.rv_statement_laws.specs.declared.mnemonic.Mnemonic.{Mnemonic}
use Rattle.rv_statement_laws.specs.declared.mnemonic.Mnemonic.TheVariants.{Registers, Immediate, Shift, Upper, Load, Store, Branch, Jal, Jalr, LoadReserved, Atomic, Fence, FenceTso, Ecall, Ebreak, Nop, Unary, Compare, ZeroBranch, SwappedBranch, J, Jr, Ret, La, Li, Call, Tail, Jump, Parcel}
use Rattle.rv_statement_laws.specs.declared.pseudo.ZeroBranchOperation.TheVariants.{Beqz, Bnez, Bgez, Bltz, Blez, Bgtz}
use Rattle.rv_statement_laws.specs.Statement.{Operand, Register, Target, Accesses}
use Rattle.rv_size_laws.specs.declared.item.Forms.{Forms}
use Rattle.rv_pseudo_laws.specs.Code.{Open, Constants, jal, code}
use Rattle.rv_pseudo_laws.proofs.ParcelsLemmas.{parcel_code}
use Rattle.rv_source_laws.specs.Sizes.{jump_forms, near_forms}

jump_fixed : (b : Bool) (f : Forms) (x y : Bool) (i : Inst) → (if b then Some f else None) ≡ None
    → Some (Open (if b && x then kind.RvcJump else kind.Jal) i ∷ []) ≡ Some (Open (if b && y then kind.RvcJump else kind.Jal) i ∷ [])
jump_fixed true f x y i e = absurd (cc)
jump_fixed false f x y i e = refl

-- but for branches, jumps and calls a statement's code goes by no size
pub code_fixed : (v : Constants) (rvc : Bool) (n k : ℕ) (m : Mnemonic) (os : List Operand) → near_forms rvc m os ≡ None → code v rvc n m os ≡ code v rvc k m os
code_fixed v rvc n k (Registers operation) (Register rd ∷ Register rs1 ∷ Register rs2 ∷ []) e = refl
code_fixed v rvc n k (Registers operation) (Register rd ∷ Register rs1 ∷ o ∷ []) e = refl
code_fixed v rvc n k (Immediate operation) (Register rd ∷ Register rs1 ∷ o ∷ []) e = refl
code_fixed v rvc n k (Shift operation) (Register rd ∷ Register rs1 ∷ o ∷ []) e = refl
code_fixed v rvc n k (Upper operation) (Register rd ∷ o ∷ []) e = refl
code_fixed v rvc n k (Load operation) (Register rd ∷ Register rs1 ∷ []) e = refl
code_fixed v rvc n k (Load operation) (Register rd ∷ Target x ∷ []) e = refl
code_fixed v rvc n k (Load operation) (Register rd ∷ o ∷ Register rs1 ∷ []) e = refl
code_fixed v rvc n k (Store operation) (Register rs2 ∷ Register rs1 ∷ []) e = refl
code_fixed v rvc n k (Store operation) (Register rs2 ∷ Target x ∷ Register rt ∷ []) e = refl
code_fixed v rvc n k (Store operation) (Register rs2 ∷ o ∷ Register rs1 ∷ []) e = refl
code_fixed v rvc n k (Branch operation) (Register rs1 ∷ Register rs2 ∷ Target x ∷ []) e = absurd (cc)
code_fixed v rvc n k (ZeroBranch Beqz) (Register rs ∷ Target x ∷ []) e = absurd (cc)
code_fixed v rvc n k (ZeroBranch Bnez) (Register rs ∷ Target x ∷ []) e = absurd (cc)
code_fixed v rvc n k (ZeroBranch Bgez) (Register rs ∷ Target x ∷ []) e = absurd (cc)
code_fixed v rvc n k (ZeroBranch Bltz) (Register rs ∷ Target x ∷ []) e = absurd (cc)
code_fixed v rvc n k (ZeroBranch Blez) (Register rs ∷ Target x ∷ []) e = absurd (cc)
code_fixed v rvc n k (ZeroBranch Bgtz) (Register rs ∷ Target x ∷ []) e = absurd (cc)
code_fixed v rvc n k (SwappedBranch operation) (Register a ∷ Register b ∷ Target x ∷ []) e = absurd (cc)
code_fixed v rvc n k Jal (Register rd ∷ Target x ∷ []) e = jump_fixed (rd == 0) (jump_forms rvc) (n == 2) (k == 2) (jal rd) e
code_fixed v rvc n k Jal (Target x ∷ []) e = refl
code_fixed v rvc n k J (Target x ∷ []) e = absurd (cc)
code_fixed v rvc n k Jalr (Register rs1 ∷ []) e = refl
code_fixed v rvc n k Jalr (Register rd ∷ Register rs1 ∷ []) e = refl
code_fixed v rvc n k Jalr (o ∷ Register rs1 ∷ []) e = refl
code_fixed v rvc n k Jalr (Register rd ∷ Register rs1 ∷ o ∷ []) e = refl
code_fixed v rvc n k Jalr (Register rd ∷ o ∷ Register rs1 ∷ []) e = refl
code_fixed v rvc n k Jr (Register rs ∷ []) e = refl
code_fixed v rvc n k Jr (o ∷ Register rs ∷ []) e = refl
code_fixed v rvc n k Ret [] e = refl
code_fixed v rvc n k (LoadReserved form) (Register rd ∷ Register rs1 ∷ []) e = refl
code_fixed v rvc n k (Atomic operation form) (Register rd ∷ Register rs2 ∷ Register rs1 ∷ []) e = refl
code_fixed v rvc n k Fence [] e = refl
code_fixed v rvc n k Fence (Accesses before ∷ Accesses after ∷ []) e = refl
code_fixed v rvc n k FenceTso [] e = refl
code_fixed v rvc n k Ecall [] e = refl
code_fixed v rvc n k Ebreak [] e = refl
code_fixed v rvc n k Nop [] e = refl
code_fixed v rvc n k (Unary operation) (Register rd ∷ Register rs ∷ []) e = refl
code_fixed v rvc n k (Compare operation) (Register rd ∷ Register a ∷ Register b ∷ []) e = refl
code_fixed v rvc n k La (Register rd ∷ Target x ∷ []) e = refl
code_fixed v rvc n k Li (Register rd ∷ o ∷ []) e = refl
code_fixed v rvc n k Call (Register rd ∷ Target x ∷ []) e = absurd (cc)
code_fixed v rvc n k Call (Target x ∷ []) e = absurd (cc)
code_fixed v rvc n k Tail (Target x ∷ []) e = absurd (cc)
code_fixed v rvc n k Jump (Target x ∷ Register rt ∷ []) e = absurd (cc)
code_fixed v rvc n k (Parcel operation) os e = parcel_code v rvc rvc n k operation os
code_fixed v rvc n k m os e = refl
