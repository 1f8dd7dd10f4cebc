-- The code of calls, whole and shortened, and that no other statement has a call.

use Rattle.std.proofs.Common.{◌≡◌, ℕ, ◌<◌, Bool, true, false, List, [], ◌∷◌, length, refl, sym, ap, subst, arith, pos, Option, Some, None, ◌⊎◌, inl, inr}
use Rattle.std.proofs.lemmas.Int.{ints}
use Rattle.std.specs.Prelude.{⊤, ◌&&◌, ◌==◌, if◌then◌else◌}
use Rattle.std.specs.List.{AllByRecursion}
use Rattle.rv_isa.specs.declared.kind.Kind.{Kind}
use Rattle.rv_isa.specs.declared.kind.Kind.TheVariants as kind
use Rattle.rv_isa.specs.declared.operation.BranchOperation.{BranchOperation}
use Rattle.rv_isa.specs.declared.operation.BranchOperation.TheVariants.{Beq, Bne}
use Rattle.rv_isa.specs.Operations.{of_branch}
use Rattle.rv_parcel.specs.declared.form.Compressed.{Compressed}
use Rattle.rv_parcel.specs.declared.form.Compressed.TheVariants.{J as ShortJump}
use Rattle.rv_parcel.specs.declared.parcel.ParcelOperation.TheVariants as parcels
use Rattle.rv_parcel.specs.Parcel.{IsShortOf}
use Rattle.rv_statement_laws.specs.declared.mnemonic.Mnemonic.{Mnemonic}
use Rattle.rv_statement_laws.specs.declared.mnemonic.Mnemonic.TheVariants.{Registers, Branch, Jal, ZeroBranch, SwappedBranch, J, Call, Tail, Jump, Parcel}
use Rattle.rv_statement_laws.specs.Statement.{Operand, Register, Target, Expression}
use Rattle.rv_pseudo_laws.specs.Code.{Part, Closed, Open, Joined, Constants, b_type, jal, inverted, branch, jump, far, named_form, code}
use Rattle.rv_pseudo_laws.specs.Valid.{IsOpen}
use Rattle.rv_link_laws.specs.CallSites as objects
use Rattle.rv_link_laws.specs.Shortened.{empty_jump, short_call}
use Rattle.rv_assemble_laws.specs.Coded.{IsCodedPart}
use Rattle.rv_source_laws.specs.Lines.{other_operand}
use Rattle.rv_source_laws.specs.Sizes.{target_in}
use Rattle.rv_source_laws.specs.Sized.{is_call_mnemonic}
use Rattle.rv_source_laws.specs.Shortened.{link_register}
use Rattle.rv_sources_link_theorems.proofs.statements.QuietLemmas.{IsCalm, InCode, either_kind, form_quiet, short_quiet, quiet, zero_branches, swapped_branches}

-- ---- statements that are no calls

abbrev pub IsUncalled : Part → Type 0
IsUncalled (Closed i) = ⊤
IsUncalled (Open k i) = objects.is_call k ≡ false
IsUncalled (Joined k i j) = ⊥

abbrev AreUncalled : List Part → Type 0
AreUncalled ps = AllByRecursion IsUncalled ps

calm : IsCalm IsUncalled
calm = record { closed = λ i. tt; upper = λ i. refl; low_i = λ i. refl; low_s = λ i. refl; pcrel_upper = λ i. refl; pcrel_low_i = λ i. refl; pcrel_low_s = λ i. refl }

branch_by : (two eight : Bool) (operation : BranchOperation) (rs1 rs2 : ℕ)
    → AreUncalled
    (if two then Open kind.RvcBranch (of_branch operation (b_type rs1 rs2 (pos 0))) ∷ []
    else if eight then Closed (of_branch (inverted operation) (b_type rs1 rs2 (pos 8))) ∷ Open kind.Jal (jal 0) ∷ []
    else Open kind.Branch (of_branch operation (b_type rs1 rs2 (pos 0))) ∷ [])
branch_by true eight operation rs1 rs2 = (refl, tt)
branch_by false true operation rs1 rs2 = (tt, (refl, tt))
branch_by false false operation rs1 rs2 = (refl, tt)

branch_quiet : (bytes : ℕ) (operation : BranchOperation) (rs1 rs2 : ℕ) → AreUncalled (branch bytes operation rs1 rs2)
branch_quiet bytes operation rs1 rs2 = branch_by (bytes == 2) (bytes == 8) operation rs1 rs2

jump_quiet : (bytes rd : ℕ) → AreUncalled (jump bytes rd)
jump_quiet bytes rd = (either_kind IsUncalled ((rd == 0) && (bytes == 2)) kind.RvcJump kind.Jal (λ i. refl) (λ i. refl) (jal rd), tt)

uncalled_code : (v : Constants) (rvc : Bool) (bytes : ℕ) (mnemonic : Mnemonic) (os : List Operand) → is_call_mnemonic mnemonic ≡ false → InCode IsUncalled (code v rvc bytes mnemonic os)
uncalled_code v rvc bytes (Branch operation) (Register rs1 ∷ Register rs2 ∷ Target x ∷ []) e = branch_quiet bytes operation rs1 rs2
uncalled_code v rvc bytes (Branch operation) os e = tt
uncalled_code v rvc bytes (ZeroBranch operation) (Register rs ∷ Target x ∷ []) e = zero_branches AreUncalled bytes (branch_quiet bytes) operation rs
uncalled_code v rvc bytes (ZeroBranch operation) os e = tt
uncalled_code v rvc bytes (SwappedBranch operation) (Register a ∷ Register b ∷ Target x ∷ []) e = swapped_branches AreUncalled bytes (branch_quiet bytes) operation a b
uncalled_code v rvc bytes (SwappedBranch operation) os e = tt
uncalled_code v rvc bytes Jal (Register rd ∷ Target x ∷ []) e = jump_quiet bytes rd
uncalled_code v rvc bytes Jal (Target x ∷ []) e = jump_quiet bytes 1
uncalled_code v rvc bytes Jal os e = tt
uncalled_code v rvc bytes J (Target x ∷ []) e = jump_quiet bytes 0
uncalled_code v rvc bytes J os e = tt
uncalled_code v rvc bytes (Parcel parcels.J) (Target x ∷ []) e = jump_quiet 2 0
uncalled_code v rvc bytes (Parcel parcels.Beqz) (Register rs ∷ Target x ∷ []) e = short_quiet IsUncalled calm Beq rs (branch_quiet 2 Beq rs 0)
uncalled_code v rvc bytes (Parcel parcels.Bnez) (Register rs ∷ Target x ∷ []) e = short_quiet IsUncalled calm Bne rs (branch_quiet 2 Bne rs 0)
uncalled_code v rvc bytes (Parcel operation) os e = form_quiet IsUncalled calm (named_form v (Parcel operation) os)
uncalled_code v rvc bytes Call os e = absurd (cc)
uncalled_code v rvc bytes Tail os e = absurd (cc)
uncalled_code v rvc bytes Jump os e = absurd (cc)
uncalled_code v rvc bytes mnemonic os e = quiet IsUncalled calm v rvc bytes mnemonic os refl

pub uncalled : (v : Constants) (rvc : Bool) (bytes : ℕ) (mnemonic : Mnemonic) (os : List Operand) (ps : List Part)
    → is_call_mnemonic mnemonic ≡ false → code v rvc bytes mnemonic os ≡ Some ps → AllByRecursion IsUncalled ps
uncalled v rvc bytes mnemonic os ps e f = subst (InCode IsUncalled) f (uncalled_code v rvc bytes mnemonic os e)

-- ---- calls

-- a call goes by a register to a target
pub record IsCalled (v : Constants) (rvc : Bool) (mnemonic : Mnemonic) (os : List Operand) : Type 0 where
  pub by : ℕ
  pub to : Expression
  pub operand : other_operand os ≡ Some (Target to)
  pub target : target_in os ≡ Some to
  pub codes : (bytes : ℕ) → code v rvc bytes mnemonic os ≡ Some (far bytes (link_register mnemonic os) by)

through_as : (t : Bool) (ps qs : List Part) → (if t then None else Some ps) ≡ Some qs → t ≡ false
through_as true ps qs e = absurd (cc)
through_as false ps qs e = refl

pub called : (v : Constants) (rvc : Bool) (b : ℕ) (mnemonic : Mnemonic) (os : List Operand) (ps : List Part)
    → is_call_mnemonic mnemonic ≡ true → code v rvc b mnemonic os ≡ Some ps → IsCalled v rvc mnemonic os
called v rvc b Call (Register rd ∷ Target x ∷ []) ps e f =
    let some = through_as (rd == 0) (far b rd rd) ps f in
    record { by = rd; to = x; operand = refl; target = refl; codes = λ n. ap (λ t. if t then None else Some (far n rd rd)) some }
called v rvc b Call (Target x ∷ []) ps e f = record { by = 1; to = x; operand = refl; target = refl; codes = λ n. refl }
called v rvc b Tail (Target x ∷ []) ps e f = record { by = 6; to = x; operand = refl; target = refl; codes = λ n. refl }
called v rvc b Jump (Target x ∷ Register rt ∷ []) ps e f =
    let some = through_as (rt == 0) (far b 0 rt) ps f in
    record { by = rt; to = x; operand = refl; target = refl; codes = λ n. ap (λ t. if t then None else Some (far n 0 rt)) some }
called v rvc b Call _ ps e f = absurd (cc)
called v rvc b Tail _ ps e f = absurd (cc)
called v rvc b Jump _ ps e f = absurd (cc)
called v rvc b (Registers operation) os ps e f = absurd (cc)
called v rvc b _ os ps e f = absurd (cc)

-- ---- one instruction

-- what a call may be: 8 bytes, or one instruction of 4, or of 2 where it links no register
abbrev pub IsForm : (link size : ℕ) → Type 0
IsForm link size = (size ≡ 8) ⊎ ((size ≡ 4) ⊎ ((size ≡ 2) × (link ≡ 0)))

jump_short : IsShortOf (jal 0) empty_jump
jump_short = record {
  form = ShortJump (pos 0);
  spells = record { line = (omega (arith, ints), omega (arith, ints), refl); sum = refl };
  chosen = tt;
  same = refl;
}

jump_open : (k : Kind) → (k ≡ kind.Jal) ⊎ (k ≡ kind.RvcJump) → (link : ℕ) → link < 32 → IsOpen k (jal link)
jump_open k (inl e) link low = subst (λ k. IsOpen k (jal link)) (sym e) ((low, (omega (arith, ints), omega (arith, ints), refl)), refl)
jump_open k (inr e) link low = subst (λ k. IsOpen k (jal link)) (sym e) ((low, (omega (arith, ints), omega (arith, ints), refl)), refl)

-- the one part of a shortened call
abbrev pub short_part : (size link : ℕ) → Part
short_part size link = Open (if (link == 0) && (size == 2) then kind.RvcJump else kind.Jal) (jal link)

pub short_coded : (named : Option Compressed) (c : Bool) (link size : ℕ) → link < 32 → (size ≡ 4) ⊎ ((size ≡ 2) × (link ≡ 0))
    → IsCodedPart named c (short_part size link) (short_call size link) × (length (short_call size link) ≡ size)
short_coded named c link size low (inl four) =
    subst (λ n. IsCodedPart named c (short_part n link) (short_call n link) × (length (short_call n link) ≡ n)) (sym four)
    (go (link == 0), refl)
  where
    go : (b : Bool) → IsCodedPart named c (Open (if b && false then kind.RvcJump else kind.Jal) (jal link)) (short_call 4 link)
    go true = (jump_open kind.Jal (inl refl) link low, inl (refl, refl))
    go false = (jump_open kind.Jal (inl refl) link low, inl (refl, refl))
short_coded named c link size low (inr (two, none)) =
    subst (λ n. IsCodedPart named c (short_part n link) (short_call n link) × (length (short_call n link) ≡ n)) (sym two)
    (subst (λ l. IsCodedPart named c (short_part 2 l) (short_call 2 l) × (length (short_call 2 l) ≡ 2)) (sym none)
    ((jump_open kind.RvcJump (inr refl) 0 (omega arith), inr (refl, (empty_jump, jump_short, refl))), refl))

-- which a call of that size is
pub short_one : (size link by : ℕ) → (size ≡ 4) ⊎ ((size ≡ 2) × (link ≡ 0)) → far size link by ≡ short_part size link ∷ []
short_one size link by (inl four) = subst (λ n. far n link by ≡ short_part n link ∷ []) (sym four) refl
short_one size link by (inr (two, none)) = subst (λ n. far n link by ≡ short_part n link ∷ []) (sym two) refl
