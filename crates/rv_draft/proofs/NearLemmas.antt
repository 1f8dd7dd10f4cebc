-- The lengths of branches, jumps and calls: each may be asked for, and is below 256.

use Rattle.std.proofs.Common.{◌≡◌, ℕ, ◌≤◌, Bool, true, false, List, [], ◌∷◌, Option, Some, None, refl, subst, arith, inl, inr}
use Rattle.std.specs.Prelude.{⊤, ◌&&◌, ◌==◌, is_some, if◌then◌else◌}
use Rattle.rv_statement_laws.specs.declared.mnemonic.Mnemonic.{Mnemonic}
use Rattle.rv_statement_laws.specs.declared.mnemonic.Mnemonic.TheVariants.{Branch, Jal, J, ZeroBranch, SwappedBranch, Call, Tail, Jump}
use Rattle.rv_statement_laws.specs.declared.pseudo.ZeroBranchOperation.TheVariants.{Beqz, Bnez}
use Rattle.rv_statement_laws.specs.Statement.{StatementKind, Label, Numbered, Instruction, Directs, Operand, Register, Target}
use Rattle.rv_size_laws.specs.declared.item.Forms.{Forms}
use Rattle.rv_size_laws.specs.declared.item.Forms.TheVariants.{Settled, CompressedBranch, Branch as FullBranch, CompressedJump}
use Rattle.rv_size_laws.specs.Branches.{Offers}
use Rattle.rv_source_laws.specs.Sizes.{branch_forms, jump_forms, is_short_branch, is_short_register, near_forms}
use Rattle.rv_instruction.specs.Code.{near_forms_of, OffersAny, MayHave}

abbrev IsLow : Option Forms → Type 0
IsLow None = ⊤
IsLow (Some (Settled bytes)) = bytes ≤ 8
IsLow (Some forms) = ⊤

branch_low : (short : Bool) → IsLow (Some (branch_forms short))
branch_low true = tt
branch_low false = tt

jump_low : (rvc : Bool) → IsLow (Some (jump_forms rvc))
jump_low true = tt
jump_low false = let low : 4 ≤ 8 = omega arith in low

jal_low : (b rvc : Bool) → IsLow (if b then Some (jump_forms rvc) else None)
jal_low true rvc = jump_low rvc
jal_low false rvc = tt

call_low : IsLow (Some (Settled 8))
call_low = let low : 8 ≤ 8 = omega arith in low

forms_low : (rvc : Bool) (m : Mnemonic) (os : List Operand) → IsLow (near_forms rvc m os)
forms_low rvc (Branch operation) (Register rs1 ∷ Register rs2 ∷ os) = branch_low (rvc && is_short_branch operation rs1 rs2)
forms_low rvc (ZeroBranch Beqz) (Register rs ∷ os) = branch_low (rvc && is_short_register rs)
forms_low rvc (ZeroBranch Bnez) (Register rs ∷ os) = branch_low (rvc && is_short_register rs)
forms_low rvc (ZeroBranch operation) os = tt
forms_low rvc (SwappedBranch operation) os = tt
forms_low rvc Jal (Register rd ∷ Target e ∷ []) = jal_low (rd == 0) rvc
forms_low rvc J os = jump_low rvc
forms_low rvc Call os = call_low
forms_low rvc Tail os = call_low
forms_low rvc Jump os = call_low
forms_low rvc m os = tt

offered_low : (forms : Forms) (n : ℕ) → IsLow (Some forms) → Offers forms n → n ≤ 255
offered_low (Settled bytes) n low is = let few : bytes ≤ 8 = low in let same : n ≡ bytes = is in omega (arith, few, same)
offered_low CompressedBranch n low (inl e) = omega (arith, e)
offered_low CompressedBranch n low (inr (inl e)) = omega (arith, e)
offered_low CompressedBranch n low (inr (inr e)) = omega (arith, e)
offered_low FullBranch n low (inl e) = omega (arith, e)
offered_low FullBranch n low (inr e) = omega (arith, e)
offered_low CompressedJump n low (inl e) = omega (arith, e)
offered_low CompressedJump n low (inr e) = omega (arith, e)

any_low : (o : Option Forms) (n : ℕ) → IsLow o → OffersAny o n → is_some o ≡ true → n ≤ 255
any_low None n low may near = absurd (cc)
any_low (Some forms) n low may near = offered_low forms n low may

kind_low : (rvc : Bool) (kind : StatementKind) → IsLow (near_forms_of rvc kind)
kind_low rvc (Label name) = tt
kind_low rvc (Numbered number) = tt
kind_low rvc (Instruction mnemonic operands) = forms_low rvc mnemonic operands
kind_low rvc (Directs directive) = tt

any_by : (o : Option Forms) (n m : ℕ) → (is_some o ≡ true → m ≡ n) → OffersAny o n → OffersAny o m
any_by None n m same may = tt
any_by (Some forms) n m same may = subst (Offers forms) (let e : n ≡ m = let f = same refl in omega (arith, f) in e) may

-- a number that is the length where that is below 256
pub asked_same : (n m : ℕ) → (n ≤ 255 → m ≡ n) → (rvc : Bool) (kind : StatementKind) → MayHave rvc kind n → is_some (near_forms_of rvc kind) ≡ true → m ≡ n
asked_same n m same rvc kind may near = same (any_low (near_forms_of rvc kind) n (kind_low rvc kind) may near)

pub asked_may : (n m : ℕ) → (n ≤ 255 → m ≡ n) → (rvc : Bool) (kind : StatementKind) → MayHave rvc kind n → MayHave rvc kind m
asked_may n m same rvc kind may = any_by (near_forms_of rvc kind) n m (asked_same n m same rvc kind may) may
