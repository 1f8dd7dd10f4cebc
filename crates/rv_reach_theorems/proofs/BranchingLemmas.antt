-- Which statements have a branch or a jump in a form below the largest, and in which.

use Rattle.std.proofs.Common.{◌≡◌, ℕ, Bool, true, false, List, [], ◌∷◌, refl, sym, ap, subst, pos, Option, Some, None, option_map, ◌⊎◌, inl, inr}
use Rattle.std.specs.Prelude.{⊤, ◌&&◌, ◌==◌, if◌then◌else◌}
use Rattle.std.specs.List.{AllByRecursion}
use Rattle.rv_isa.specs.declared.instruction.Inst.{Inst}
use Rattle.rv_isa.specs.declared.kind.Kind.{Kind}
use Rattle.rv_isa.specs.declared.kind.Kind.TheVariants as kind
use Rattle.rv_isa.specs.declared.operation.BranchOperation.{BranchOperation}
use Rattle.rv_isa.specs.declared.operation.BranchOperation.TheVariants.{Beq, Bne, Blt, Bge, Bltu, Bgeu}
use Rattle.rv_isa.specs.Operations.{of_branch}
use Rattle.rv_parcel.specs.declared.form.Compressed.{Compressed}
use Rattle.rv_parcel.specs.declared.parcel.ParcelOperation.{ParcelOperation}
use Rattle.rv_parcel.specs.declared.parcel.ParcelOperation.TheVariants as parcels
use Rattle.rv_parcel.specs.declared.parcel.RegisterSet.TheVariants.{Short}
use Rattle.rv_parcel.specs.Mnemonics.{is_of_set}
use Rattle.rv_parcel.specs.Parcel.{expansion}
use Rattle.rv_statement_laws.specs.declared.mnemonic.Mnemonic.{Mnemonic}
use Rattle.rv_statement_laws.specs.declared.mnemonic.Mnemonic.TheVariants.{Registers, Branch, Jal, ZeroBranch, SwappedBranch, J, Call, Tail, Jump, Parcel}
use Rattle.rv_statement_laws.specs.declared.pseudo.ZeroBranchOperation.TheVariants.{Beqz, Bnez, Bgez, Bltz, Blez, Bgtz}
use Rattle.rv_statement_laws.specs.declared.pseudo.SwappedBranchOperation.TheVariants.{Bgt, Ble, Bgtu, Bleu}
use Rattle.rv_statement_laws.specs.Statement.{Operand, Register, Target, Expression}
use Rattle.rv_pseudo_laws.specs.Code.{Part, Closed, Open, Joined, Constants, b_type, jal, inverted, branch, far, named_form, short_branch, code}
use Rattle.rv_source_laws.specs.Lines.{other_operand}
use Rattle.rv_size_laws.specs.declared.item.Forms.{Forms}
use Rattle.rv_size_laws.specs.declared.item.Forms.TheVariants.{Settled, CompressedBranch, Branch as FullBranch, CompressedJump}
use Rattle.rv_source_laws.specs.Sizes.{branch_forms, jump_forms, is_short_branch as is_short_pair, is_short_register, near_forms, target_in}
use Rattle.rv_reach_theorems.specs.Reach.{is_short_branch}
use Rattle.rv_source_laws.specs.Sized.{is_call_mnemonic}
use Rattle.rv_sources_link_theorems.proofs.statements.QuietLemmas.{is_branching, IsCalm, InCode, quiet}

-- ---- statements that are none

abbrev pub IsUnshort : Part → Type 0
IsUnshort (Closed i) = ⊤
IsUnshort (Open k i) = is_short_branch k ≡ false
IsUnshort (Joined k i j) = is_short_branch k ≡ false

abbrev AreUnshort : List Part → Type 0
AreUnshort ps = AllByRecursion IsUnshort ps

calm : IsCalm IsUnshort
calm = record { closed = λ i. tt; upper = λ i. refl; low_i = λ i. refl; low_s = λ i. refl; pcrel_upper = λ i. refl; pcrel_low_i = λ i. refl; pcrel_low_s = λ i. refl }

-- ---- branches and jumps

abbrev pub IsBranchForm : Forms → Type 0
IsBranchForm f = (f ≡ CompressedBranch) ⊎ (f ≡ FullBranch)

abbrev pub IsJumpForm : Forms → Type 0
IsJumpForm f = (f ≡ CompressedJump) ⊎ (f ≡ Settled 4)

-- the forms of a statement with a field of this kind, of so many bytes
abbrev pub HasForms : Kind → ℕ → Forms → Type 0
HasForms kind.Branch bytes f = ((bytes == 2) ≡ false) × ((bytes == 8) ≡ false) × IsBranchForm f
HasForms kind.RvcBranch bytes f = ((bytes == 2) ≡ true) × IsBranchForm f
HasForms kind.RvcJump bytes f = ((bytes == 2) ≡ true) × IsJumpForm f
HasForms _ bytes f = ⊤

pub record IsBranching (rvc : Bool) (bytes : ℕ) (m : Mnemonic) (os : List Operand) (k : Kind) : Type 0 where
  pub forms : Forms
  pub chosen : near_forms rvc m os ≡ Some forms
  pub to : Expression
  pub operand : other_operand os ≡ Some (Target to)
  pub target : target_in os ≡ Some to
  pub has : HasForms k bytes forms

-- one part alone, with such a field
pub record IsAlone (rvc : Bool) (bytes : ℕ) (m : Mnemonic) (os : List Operand) (ps : List Part) : Type 0 where
  pub kind : Kind
  pub instruction : Inst
  pub is : ps ≡ Open kind instruction ∷ []
  pub branching : IsBranching rvc bytes m os kind

-- the field of a parcel that the statement names
pub record IsParcelled (m : Mnemonic) (ps : List Part) : Type 0 where
  pub operation : ParcelOperation
  pub named : m ≡ Parcel operation
  pub kind : Kind
  pub instruction : Inst
  pub is : ps ≡ Open kind instruction ∷ []

abbrev pub Sorted : Bool → ℕ → Mnemonic → List Operand → List Part → Type 0
Sorted rvc bytes m os ps = AreUnshort ps ⊎ (IsAlone rvc bytes m os ps ⊎ IsParcelled m ps)

abbrev SortedIn : Bool → ℕ → Mnemonic → List Operand → Option (List Part) → Type 0
SortedIn rvc bytes m os None = ⊤
SortedIn rvc bytes m os (Some ps) = Sorted rvc bytes m os ps

branch_form : (short : Bool) → IsBranchForm (branch_forms short)
branch_form true = inl refl
branch_form false = inr refl

jump_form : (rvc : Bool) → IsJumpForm (jump_forms rvc)
jump_form true = inl refl
jump_form false = inr refl

module _ (rvc : Bool) (bytes : ℕ) (m : Mnemonic) (os : List Operand) (to : Expression) (operand : other_operand os ≡ Some (Target to)) (target : target_in os ≡ Some to) where
  a_branch : (forms : Forms) → near_forms rvc m os ≡ Some forms → IsBranchForm forms → (operation : BranchOperation) (rs1 rs2 : ℕ) → Sorted rvc bytes m os (branch bytes operation rs1 rs2)
  a_branch forms chosen is operation rs1 rs2 = by (bytes == 2) refl (bytes == 8) refl
    where
      by : (two : Bool) → (bytes == 2) ≡ two → (eight : Bool) → (bytes == 8) ≡ eight
          → Sorted rvc bytes m os
          (if two then Open kind.RvcBranch (of_branch operation (b_type rs1 rs2 (pos 0))) ∷ []
          else if eight then Closed (of_branch (inverted operation) (b_type rs1 rs2 (pos 8))) ∷ Open kind.Jal (jal 0) ∷ []
          else Open kind.Branch (of_branch operation (b_type rs1 rs2 (pos 0))) ∷ [])
      by true a eight b = inr (inl (record {
        kind = kind.RvcBranch;
        instruction = of_branch operation (b_type rs1 rs2 (pos 0));
        is = refl;
        branching = record { forms = forms; chosen = chosen; to = to; operand = operand; target = target; has = (a, is) };
      }))
      by false a true b = inl (tt, (refl, tt))
      by false a false b = inr (inl (record {
        kind = kind.Branch;
        instruction = of_branch operation (b_type rs1 rs2 (pos 0));
        is = refl;
        branching = record { forms = forms; chosen = chosen; to = to; operand = operand; target = target; has = (a, b, is) };
      }))

  a_jump : (zero : Bool) (rd : ℕ) → (zero ≡ true → near_forms rvc m os ≡ Some (jump_forms rvc)) → Sorted rvc bytes m os (Open (if zero && (bytes == 2) then kind.RvcJump else kind.Jal) (jal rd) ∷ [])
  a_jump false rd chosen = inl (refl, tt)
  a_jump true rd chosen = by (bytes == 2) refl
    where
      by : (two : Bool) → (bytes == 2) ≡ two → Sorted rvc bytes m os (Open (if two then kind.RvcJump else kind.Jal) (jal rd) ∷ [])
      by true a = inr (inl (record {
        kind = kind.RvcJump;
        instruction = jal rd;
        is = refl;
        branching = record { forms = jump_forms rvc; chosen = chosen refl; to = to; operand = operand; target = target; has = (a, jump_form rvc) };
      }))
      by false a = inl (refl, tt)

far_sorted : (rvc : Bool) (bytes : ℕ) (m : Mnemonic) (os : List Operand) (link by : ℕ) → bytes ≡ 8 → Sorted rvc bytes m os (far bytes link by)
far_sorted rvc bytes m os link by eight = subst (λ n. AreUnshort (far n link by) ⊎ (IsAlone rvc bytes m os (far n link by) ⊎ IsParcelled m (far n link by))) (sym eight) (inl (refl, tt))

unless_sorted : (t rvc : Bool) (bytes : ℕ) (m : Mnemonic) (os : List Operand) (ps : List Part) → Sorted rvc bytes m os ps → SortedIn rvc bytes m os (if t then None else Some ps)
unless_sorted true rvc bytes m os ps h = tt
unless_sorted false rvc bytes m os ps h = h

-- ---- parcels

parcelled : (rvc : Bool) (bytes : ℕ) (operation : ParcelOperation) (os : List Operand) (k : Kind) (i : Inst) → Sorted rvc bytes (Parcel operation) os (Open k i ∷ [])
parcelled rvc bytes operation os k i = inr (inr (record { operation = operation; named = refl; kind = k; instruction = i; is = refl }))

short_sorted : (rvc : Bool) (bytes : ℕ) (operation : ParcelOperation) (os : List Operand) (b : BranchOperation) (rs : ℕ) → SortedIn rvc bytes (Parcel operation) os (short_branch b rs)
short_sorted rvc bytes operation os b rs = go (is_of_set Short rs)
  where
    go : (t : Bool) → SortedIn rvc bytes (Parcel operation) os (if t then Some (branch 2 b rs 0) else None)
    go true = parcelled rvc bytes operation os kind.RvcBranch (of_branch b (b_type rs 0 (pos 0)))
    go false = tt

form_sorted : (rvc : Bool) (bytes : ℕ) (m : Mnemonic) (os : List Operand) (form : Option Compressed) → SortedIn rvc bytes m os (option_map (λ f. Closed (expansion f) ∷ []) form)
form_sorted rvc bytes m os None = tt
form_sorted rvc bytes m os (Some f) = inl (tt, tt)

sorted_jump : (v : Constants) (rvc : Bool) (bytes : ℕ) (m : Mnemonic) (os : List Operand) → is_branching m ≡ true → (is_call_mnemonic m ≡ true → bytes ≡ 8) → SortedIn rvc bytes m os (code v rvc bytes m os)
sorted_jump v rvc bytes (Branch operation) (Register rs1 ∷ Register rs2 ∷ Target x ∷ []) e c =
    a_branch rvc bytes (Branch operation) (Register rs1 ∷ Register rs2 ∷ Target x ∷ []) x refl refl (branch_forms (rvc && is_short_pair operation rs1 rs2)) refl (branch_form (rvc && is_short_pair operation rs1 rs2)) operation rs1 rs2
sorted_jump v rvc bytes (ZeroBranch Beqz) (Register rs ∷ Target x ∷ []) e c =
    a_branch rvc bytes (ZeroBranch Beqz) (Register rs ∷ Target x ∷ []) x refl refl (branch_forms (rvc && is_short_register rs)) refl (branch_form (rvc && is_short_register rs)) Beq rs 0
sorted_jump v rvc bytes (ZeroBranch Bnez) (Register rs ∷ Target x ∷ []) e c =
    a_branch rvc bytes (ZeroBranch Bnez) (Register rs ∷ Target x ∷ []) x refl refl (branch_forms (rvc && is_short_register rs)) refl (branch_form (rvc && is_short_register rs)) Bne rs 0
sorted_jump v rvc bytes (ZeroBranch Bgez) (Register rs ∷ Target x ∷ []) e c = a_branch rvc bytes (ZeroBranch Bgez) (Register rs ∷ Target x ∷ []) x refl refl FullBranch refl (inr refl) Bge rs 0
sorted_jump v rvc bytes (ZeroBranch Bltz) (Register rs ∷ Target x ∷ []) e c = a_branch rvc bytes (ZeroBranch Bltz) (Register rs ∷ Target x ∷ []) x refl refl FullBranch refl (inr refl) Blt rs 0
sorted_jump v rvc bytes (ZeroBranch Blez) (Register rs ∷ Target x ∷ []) e c = a_branch rvc bytes (ZeroBranch Blez) (Register rs ∷ Target x ∷ []) x refl refl FullBranch refl (inr refl) Bge 0 rs
sorted_jump v rvc bytes (ZeroBranch Bgtz) (Register rs ∷ Target x ∷ []) e c = a_branch rvc bytes (ZeroBranch Bgtz) (Register rs ∷ Target x ∷ []) x refl refl FullBranch refl (inr refl) Blt 0 rs
sorted_jump v rvc bytes (SwappedBranch Bgt) (Register a ∷ Register b ∷ Target x ∷ []) e c = a_branch rvc bytes (SwappedBranch Bgt) (Register a ∷ Register b ∷ Target x ∷ []) x refl refl FullBranch refl (inr refl) Blt b a
sorted_jump v rvc bytes (SwappedBranch Ble) (Register a ∷ Register b ∷ Target x ∷ []) e c = a_branch rvc bytes (SwappedBranch Ble) (Register a ∷ Register b ∷ Target x ∷ []) x refl refl FullBranch refl (inr refl) Bge b a
sorted_jump v rvc bytes (SwappedBranch Bgtu) (Register a ∷ Register b ∷ Target x ∷ []) e c = a_branch rvc bytes (SwappedBranch Bgtu) (Register a ∷ Register b ∷ Target x ∷ []) x refl refl FullBranch refl (inr refl) Bltu b a
sorted_jump v rvc bytes (SwappedBranch Bleu) (Register a ∷ Register b ∷ Target x ∷ []) e c = a_branch rvc bytes (SwappedBranch Bleu) (Register a ∷ Register b ∷ Target x ∷ []) x refl refl FullBranch refl (inr refl) Bgeu b a
sorted_jump v rvc bytes Jal (Register rd ∷ Target x ∷ []) e c =
    a_jump rvc bytes Jal (Register rd ∷ Target x ∷ []) x refl refl (rd == 0) rd (λ z. ap (λ b. if b then Some (jump_forms rvc) else None) z)
sorted_jump v rvc bytes Jal (Target x ∷ []) e c = inl (refl, tt)
sorted_jump v rvc bytes J (Target x ∷ []) e c = a_jump rvc bytes J (Target x ∷ []) x refl refl true 0 (λ z. refl)
sorted_jump v rvc bytes Call (Register rd ∷ Target x ∷ []) e c =
    unless_sorted (rd == 0) rvc bytes Call (Register rd ∷ Target x ∷ []) (far bytes rd rd) (far_sorted rvc bytes Call (Register rd ∷ Target x ∷ []) rd rd (c refl))
sorted_jump v rvc bytes Call (Target x ∷ []) e c = far_sorted rvc bytes Call (Target x ∷ []) 1 1 (c refl)
sorted_jump v rvc bytes Tail (Target x ∷ []) e c = far_sorted rvc bytes Tail (Target x ∷ []) 0 6 (c refl)
sorted_jump v rvc bytes Jump (Target x ∷ Register rt ∷ []) e c =
    unless_sorted (rt == 0) rvc bytes Jump (Target x ∷ Register rt ∷ []) (far bytes 0 rt) (far_sorted rvc bytes Jump (Target x ∷ Register rt ∷ []) 0 rt (c refl))
sorted_jump v rvc bytes (Parcel parcels.J) (Target x ∷ []) e c = parcelled rvc bytes parcels.J (Target x ∷ []) kind.RvcJump (jal 0)
sorted_jump v rvc bytes (Parcel parcels.Beqz) (Register rs ∷ Target x ∷ []) e c = short_sorted rvc bytes parcels.Beqz (Register rs ∷ Target x ∷ []) Beq rs
sorted_jump v rvc bytes (Parcel parcels.Bnez) (Register rs ∷ Target x ∷ []) e c = short_sorted rvc bytes parcels.Bnez (Register rs ∷ Target x ∷ []) Bne rs
sorted_jump v rvc bytes (Parcel operation) os e c = form_sorted rvc bytes (Parcel operation) os (named_form v (Parcel operation) os)
sorted_jump v rvc bytes (Branch operation) os e c = tt
sorted_jump v rvc bytes (ZeroBranch operation) os e c = tt
sorted_jump v rvc bytes (SwappedBranch operation) os e c = tt
sorted_jump v rvc bytes Jal os e c = tt
sorted_jump v rvc bytes J os e c = tt
sorted_jump v rvc bytes Call os e c = tt
sorted_jump v rvc bytes Tail os e c = tt
sorted_jump v rvc bytes Jump os e c = tt
sorted_jump v rvc bytes (Registers operation) os e c = absurd (cc)
sorted_jump v rvc bytes m os e c = absurd (cc)

-- the code of a statement in a source, whose calls are whole
pub sorted : (v : Constants) (rvc : Bool) (bytes : ℕ) (m : Mnemonic) (os : List Operand) (ps : List Part) → (is_call_mnemonic m ≡ true → bytes ≡ 8) → code v rvc bytes m os ≡ Some ps → Sorted rvc bytes m os ps
sorted v rvc bytes m os ps whole is = by (is_branching m) refl
  where
    by : (b : Bool) → is_branching m ≡ b → Sorted rvc bytes m os ps
    by true e = subst (SortedIn rvc bytes m os) is (sorted_jump v rvc bytes m os e whole)
    by false e = inl (subst (InCode IsUnshort) is (quiet IsUnshort calm v rvc bytes m os e))
