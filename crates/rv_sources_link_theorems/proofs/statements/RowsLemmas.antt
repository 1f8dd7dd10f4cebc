-- Which parts the code of a statement has, by its operand that is no register.

use Rattle.std.proofs.Common.{◌≡◌, ℕ, Bool, true, false, ◌&&◌, ◌==◌, refl, sym, ap, subst, ◌∙◌, ℤ, pos, List, [], ◌∷◌, map, Option, Some, None, option_map, ◌⊎◌, inl, inr}
use Rattle.std.specs.Prelude.{if◌then◌else◌, ⊤, flat_map, is_some}
use Rattle.std.specs.List.{AllByRecursion}
use Rattle.rv_isa.specs.Kinds.{is_low_part}
use Rattle.rv_isa.specs.declared.kind.Kind.{Kind}
use Rattle.rv_isa.specs.declared.kind.Kind.TheVariants as kind
use Rattle.rv_isa.specs.declared.instruction.Inst.{Inst}
use Rattle.rv_isa.specs.declared.operation.BranchOperation.{BranchOperation}
use Rattle.rv_isa.specs.declared.operation.BranchOperation.TheVariants.{Beq, Bne}
use Rattle.rv_isa.specs.Operations.{of_immediate, of_shift, of_upper, of_load, of_store, of_branch, format_of}
use Rattle.rv_isa_laws.specs.Arithmetic.{wrapped}
use Rattle.rv_isa_laws.specs.Halves.{hi, lo}
use Rattle.rv_statement_laws.specs.declared.mnemonic.Mnemonic.{Mnemonic}
use Rattle.rv_statement_laws.specs.declared.mnemonic.Mnemonic.TheVariants.{Registers, Immediate, Shift, Upper, Load, Store, Branch, Jal, Jalr, LoadReserved, Atomic, Fence, FenceTso, Ecall, Ebreak, Nop, Unary, Compare, ZeroBranch, SwappedBranch, J, Jr, Ret, La, Li, Call, Tail, Jump, Parcel}
use Rattle.rv_parcel.specs.declared.parcel.ParcelOperation.{ParcelOperation}
use Rattle.rv_parcel.specs.declared.parcel.ParcelOperation.TheVariants as parcels
use Rattle.rv_parcel.specs.declared.form.Compressed.{Compressed}
use Rattle.rv_parcel.specs.declared.parcel.OperandShape.{OperandShape}
use Rattle.rv_parcel.specs.declared.parcel.OperandShape.TheVariants as shapes
use Rattle.rv_parcel.specs.declared.parcel.RegisterSet.TheVariants.{Short}
use Rattle.rv_parcel.specs.Mnemonics.{is_of_set, shape_of, form_of}
use Rattle.rv_parcel.specs.Parcel.{expansion}
use Rattle.rv_statement_laws.specs.declared.pseudo.Function.TheVariants.{Hi, Lo, PcrelHi, PcrelLo}
use Rattle.rv_statement_laws.specs.Statement.{Operand, Register, Value, Applied, Target, Accesses, Word, Quoted, Expression}
use Rattle.rv_parse_laws.specs.Syntax.{with_constant}
use Rattle.rv_pseudo_laws.specs.Li.{li}
use Rattle.rv_pseudo_laws.specs.Code.{Part, Closed, Open, Joined, Constants, i_type, s_type, b_type, u_type, shift_by, jalr, jal, auipc, unary, inverted, branch, jump, near, far, through, zero_branch, swapped_branch, by_number, by_part, signed_12, upper_20, constant_number, by_amount, by_constant, by_form, parcel_form, short_branch, code}
use Rattle.rv_pseudo_laws.specs.Filled.{are_closed}
use Rattle.rv_pseudo_laws.proofs.FilledLemmas.{all_closed}
use Rattle.rv_source_laws.specs.Program.{in_operand}
use Rattle.rv_source_laws.specs.Lines.{other_operand}
use Rattle.rv_filling_theorems.specs.Parts.{fills_call_pair}
use Rattle.rv_sources_link_theorems.proofs.statements.QuietLemmas.{formed, zero_branches, swapped_branches}

-- ---- shapes

-- a kind of a branch, a jump or a call, which takes the distance to a symbol
abbrev pub is_distance : Kind → Bool
is_distance kind.Branch = true
is_distance kind.Jal = true
is_distance kind.RvcBranch = true
is_distance kind.RvcJump = true
is_distance kind.CallPlt = true
is_distance k = false

abbrev pub IsFar : Part → Type 0
IsFar (Closed i) = ⊤
IsFar (Open k i) = is_distance k ≡ true
IsFar (Joined k i j) = (is_distance k ≡ true) × (fills_call_pair k (format_of i) (format_of j) ≡ true)

abbrev pub IsPair : List Part → Type 0
IsPair ps = (k : Kind) × ((i : Inst) × ((j : Inst) × (is_low_part k ≡ true) × (ps ≡ Open kind.PcrelHi20 i ∷ Open k j ∷ [])))

abbrev pub IsOpened : (Kind → Type 0) → List Part → Type 0
IsOpened K ps = (k : Kind) × ((i : Inst) × K k × (ps ≡ Open k i ∷ []))

abbrev pub IsClosed : List Part → Type 0
IsClosed ps = are_closed ps ≡ true

abbrev pub IsHi : Kind → Type 0
IsHi k = k ≡ kind.Hi20

abbrev pub IsLo : Kind → Type 0
IsLo k = (k ≡ kind.Lo12I) ⊎ (k ≡ kind.Lo12S)

abbrev pub IsUpper : Kind → Type 0
IsUpper k = k ≡ kind.PcrelHi20

abbrev pub IsLower : Kind → Type 0
IsLower k = is_low_part k ≡ true

abbrev pub Shape : Constants → Option Operand → List Part → Type 0
Shape v (Some (Value e)) ps = IsClosed ps × (is_some (v e) ≡ true)
Shape v (Some (Applied Hi e)) ps = (IsClosed ps × (is_some (v e) ≡ true)) ⊎ (IsOpened IsHi ps × (v e ≡ None))
Shape v (Some (Applied Lo e)) ps = (IsClosed ps × (is_some (v e) ≡ true)) ⊎ (IsOpened IsLo ps × (v e ≡ None))
Shape v (Some (Applied PcrelHi e)) ps = IsOpened IsUpper ps
Shape v (Some (Applied PcrelLo e)) ps = IsOpened IsLower ps
Shape v (Some (Target e)) ps = (AllByRecursion IsFar ps × (are_closed ps ≡ false)) ⊎ IsPair ps
Shape v o ps = IsClosed ps

abbrev pub in_maybe : Option Operand → List Expression
in_maybe None = []
in_maybe (Some o) = in_operand o

-- a statement has one operand at most with an expression
pub record IsRow (v : Constants) (os : List Operand) (ps : List Part) : Type 0 where
  pub alone : flat_map in_operand os ≡ in_maybe (other_operand os)
  pub shape : Shape v (other_operand os) ps

abbrev AreRow : Constants → List Operand → Option (List Part) → Type 0
AreRow v os None = ⊤
AreRow v os (Some ps) = IsRow v os ps

abbrev AreShaped : Constants → Operand → Option (List Part) → Type 0
AreShaped v o None = ⊤
AreShaped v o (Some ps) = Shape v (Some o) ps

-- ---- one operand among registers

abbrev IsOther : Operand → Type 0
IsOther (Register r) = ⊥
IsOther o = ⊤

module _ (v : Constants) (C : Operand → List Operand)
    (says : (o : Operand) → IsOther o → (other_operand (C o) ≡ Some o) × (flat_map in_operand (C o) ≡ in_operand o)) where
  row_by : (o : Operand) → IsOther o → (ps : Option (List Part)) → AreShaped v o ps → AreRow v (C o) ps
  row_by o other None h = tt
  row_by o other (Some ps) h =
      let (is, whole) = says o other in
      record { alone = whole ∙ ap in_maybe (sym is); shape = subst (λ q. Shape v q ps) (sym is) h }

  number_shaped : (make : ℤ → Inst) (e : Expression) → AreShaped v (Value e) (by_number make (v e))
  number_shaped make e = go (v e) refl
    where
      go : (n : Option ℤ) → v e ≡ n → AreShaped v (Value e) (by_number make n)
      go None is = tt
      go (Some k) is = (refl, ap is_some is)

  low_shaped : (k : Kind) → IsLo k → (make : ℤ → Inst) (e : Expression) → AreShaped v (Applied Lo e) (by_part k make (option_map lo (v e)))
  low_shaped k is_lo make e = go (v e) refl
    where
      go : (n : Option ℤ) → v e ≡ n → AreShaped v (Applied Lo e) (by_part k make (option_map lo n))
      go None is = inr ((k, (make (pos 0), is_lo, refl)), is)
      go (Some n) is = inl (refl, ap is_some is)

  low_number : (make : ℤ → Inst) (e : Expression) → AreShaped v (Applied Lo e) (by_number make (option_map lo (v e)))
  low_number make e = go (v e) refl
    where
      go : (n : Option ℤ) → v e ≡ n → AreShaped v (Applied Lo e) (by_number make (option_map lo n))
      go None is = tt
      go (Some n) is = inl (refl, ap is_some is)

  high_shaped : (make : ℤ → Inst) (e : Expression) → AreShaped v (Applied Hi e) (by_part kind.Hi20 make (option_map hi (v e)))
  high_shaped make e = go (v e) refl
    where
      go : (n : Option ℤ) → v e ≡ n → AreShaped v (Applied Hi e) (by_part kind.Hi20 make (option_map hi n))
      go None is = inr ((kind.Hi20, (make (pos 0), refl, refl)), is)
      go (Some n) is = inl (refl, ap is_some is)

  lo_kind : (store : Bool) → IsLo (if store then kind.Lo12S else kind.Lo12I)
  lo_kind true = inr refl
  lo_kind false = inl refl

  lower_kind : (store : Bool) → is_low_part (if store then kind.PcrelLo12S else kind.PcrelLo12I) ≡ true
  lower_kind true = refl
  lower_kind false = refl

  signed_row : (store : Bool) (make : ℤ → Inst) (o : Operand) → AreRow v (C o) (signed_12 v store make o)
  signed_row store make (Value e) = row_by (Value e) tt (by_number make (v e)) (number_shaped make e)
  signed_row store make (Applied Lo e) =
      row_by (Applied Lo e) tt (by_part (if store then kind.Lo12S else kind.Lo12I) make (option_map lo (v e))) (low_shaped _ (lo_kind store) make e)
  signed_row store make (Applied PcrelLo e) =
      row_by (Applied PcrelLo e) tt (Some (Open (if store then kind.PcrelLo12S else kind.PcrelLo12I) (make (pos 0)) ∷ []))
      (_, (make (pos 0), lower_kind store, refl))
  signed_row store make _ = tt

  form_shaped : (o : Operand) (f : Option Compressed) → ((form : Compressed) → Shape v (Some o) (Closed (expansion form) ∷ [])) → AreShaped v o (formed f)
  form_shaped o None h = tt
  form_shaped o (Some form) h = h form

  number_form : (make : ℤ → Option Compressed) (e : Expression) → AreShaped v (Value e) (formed (by_form make (v e)))
  number_form make e = go (v e) refl
    where
      go : (n : Option ℤ) → v e ≡ n → AreShaped v (Value e) (formed (by_form make n))
      go None is = tt
      go (Some k) is = form_shaped (Value e) (make k) (λ form. (refl, ap is_some is))

  low_form : (make : ℤ → Option Compressed) (e : Expression) → AreShaped v (Applied Lo e) (formed (by_form make (option_map lo (v e))))
  low_form make e = go (v e) refl
    where
      go : (n : Option ℤ) → v e ≡ n → AreShaped v (Applied Lo e) (formed (by_form make (option_map lo n)))
      go None is = tt
      go (Some k) is = form_shaped (Applied Lo e) (make (lo k)) (λ form. inl (refl, ap is_some is))

  form_row : (make : ℤ → Option Compressed) (o : Operand) → AreRow v (C o) (formed (by_form make (constant_number v o)))
  form_row make (Value e) = row_by (Value e) tt (formed (by_form make (v e))) (number_form make e)
  form_row make (Applied Lo e) = row_by (Applied Lo e) tt (formed (by_form make (option_map lo (v e)))) (low_form make e)
  form_row make _ = tt

  amount_row : (make : ℕ → Inst) (o : Operand) → AreRow v (C o) (by_amount v make o)
  amount_row make (Value e) = row_by (Value e) tt (by_number (λ k. make (wrapped k)) (v e)) (number_shaped (λ k. make (wrapped k)) e)
  amount_row make (Applied Lo e) = row_by (Applied Lo e) tt (by_number (λ k. make (wrapped k)) (option_map lo (v e))) (low_number (λ k. make (wrapped k)) e)
  amount_row make _ = tt

  constant_row : (form : Option Mnemonic) (rd rs1 : ℕ) (o : Operand) → AreRow v (C o) (by_constant v form rd rs1 o)
  constant_row (Some (Immediate i)) rd rs1 o = signed_row false (λ k. of_immediate i (i_type rd rs1 k)) o
  constant_row (Some (Shift i)) rd rs1 o = amount_row (λ n. of_shift i (shift_by rd rs1 n)) o
  constant_row _ rd rs1 o = tt

  upper_row : (make : ℕ → Inst) (o : Operand) → AreRow v (C o) (upper_20 v make o)
  upper_row make (Value e) = row_by (Value e) tt (by_number (λ k. make (wrapped k)) (v e)) (number_shaped (λ k. make (wrapped k)) e)
  upper_row make (Applied Hi e) = row_by (Applied Hi e) tt (by_part kind.Hi20 (λ k. make (wrapped k)) (option_map hi (v e))) (high_shaped (λ k. make (wrapped k)) e)
  upper_row make (Applied PcrelHi e) = row_by (Applied PcrelHi e) tt (Some (Open kind.PcrelHi20 (make 0) ∷ [])) (kind.PcrelHi20, (make 0, refl, refl))
  upper_row make _ = tt

  value_sequence : (rd : ℕ) (e : Expression) → AreShaped v (Value e) (option_map (λ k. map Closed (li rd k)) (v e))
  value_sequence rd e = go (v e) refl
    where
      go : (n : Option ℤ) → v e ≡ n → AreShaped v (Value e) (option_map (λ k. map Closed (li rd k)) n)
      go None is = tt
      go (Some n) is = (all_closed (li rd n), ap is_some is)

  low_sequence : (rd : ℕ) (e : Expression) → AreShaped v (Applied Lo e) (option_map (λ k. map Closed (li rd k)) (option_map lo (v e)))
  low_sequence rd e = go (v e) refl
    where
      go : (n : Option ℤ) → v e ≡ n → AreShaped v (Applied Lo e) (option_map (λ k. map Closed (li rd k)) (option_map lo n))
      go None is = tt
      go (Some n) is = inl (all_closed (li rd (lo n)), ap is_some is)

  sequence_row : (rd : ℕ) (o : Operand) → AreRow v (C o) (option_map (λ k. map Closed (li rd k)) (constant_number v o))
  sequence_row rd (Value e) = row_by (Value e) tt (option_map (λ k. map Closed (li rd k)) (v e)) (value_sequence rd e)
  sequence_row rd (Applied Lo e) = row_by (Applied Lo e) tt (option_map (λ k. map Closed (li rd k)) (option_map lo (v e))) (low_sequence rd e)
  sequence_row rd _ = tt

-- where it stands
in_front : (s : ℕ) (o : Operand) → IsOther o → (other_operand (o ∷ Register s ∷ []) ≡ Some o) × (flat_map in_operand (o ∷ Register s ∷ []) ≡ in_operand o)
in_front s (Register r) h = absurd h
in_front s (Value e) h = (refl, refl)
in_front s (Applied f e) h = (refl, refl)
in_front s (Target e) h = (refl, refl)
in_front s (Accesses set) h = (refl, refl)
in_front s (Word w) h = (refl, refl)
in_front s (Quoted q) h = (refl, refl)

at_end : (r : ℕ) (o : Operand) → IsOther o → (other_operand (Register r ∷ o ∷ []) ≡ Some o) × (flat_map in_operand (Register r ∷ o ∷ []) ≡ in_operand o)
at_end r (Register q) h = absurd h
at_end r (Value e) h = (refl, refl)
at_end r (Applied f e) h = (refl, refl)
at_end r (Target e) h = (refl, refl)
at_end r (Accesses set) h = (refl, refl)
at_end r (Word w) h = (refl, refl)
at_end r (Quoted q) h = (refl, refl)

between : (r s : ℕ) (o : Operand) → IsOther o → (other_operand (Register r ∷ o ∷ Register s ∷ []) ≡ Some o) × (flat_map in_operand (Register r ∷ o ∷ Register s ∷ []) ≡ in_operand o)
between r s (Register q) h = absurd h
between r s (Value e) h = (refl, refl)
between r s (Applied f e) h = (refl, refl)
between r s (Target e) h = (refl, refl)
between r s (Accesses set) h = (refl, refl)
between r s (Word w) h = (refl, refl)
between r s (Quoted q) h = (refl, refl)

third : (r s : ℕ) (o : Operand) → IsOther o → (other_operand (Register r ∷ Register s ∷ o ∷ []) ≡ Some o) × (flat_map in_operand (Register r ∷ Register s ∷ o ∷ []) ≡ in_operand o)
third r s (Register q) h = absurd h
third r s (Value e) h = (refl, refl)
third r s (Applied f e) h = (refl, refl)
third r s (Target e) h = (refl, refl)
third r s (Accesses set) h = (refl, refl)
third r s (Word w) h = (refl, refl)
third r s (Quoted q) h = (refl, refl)

-- ---- statements with a target

abbrev IsAim : List Part → Type 0
IsAim ps = (AllByRecursion IsFar ps × (are_closed ps ≡ false)) ⊎ IsPair ps

abbrev AreFar : List Part → Type 0
AreFar ps = AllByRecursion IsFar ps × (are_closed ps ≡ false)

branch_by : (two eight : Bool) (operation : BranchOperation) (rs1 rs2 : ℕ)
    → AreFar
    (if two then Open kind.RvcBranch (of_branch operation (b_type rs1 rs2 (pos 0))) ∷ []
    else if eight then Closed (of_branch (inverted operation) (b_type rs1 rs2 (pos 8))) ∷ Open kind.Jal (jal 0) ∷ []
    else Open kind.Branch (of_branch operation (b_type rs1 rs2 (pos 0))) ∷ [])
branch_by true eight operation rs1 rs2 = ((refl, tt), refl)
branch_by false true operation rs1 rs2 = ((tt, (refl, tt)), refl)
branch_by false false operation rs1 rs2 = ((refl, tt), refl)

branch_far : (bytes : ℕ) (operation : BranchOperation) (rs1 rs2 : ℕ) → AreFar (branch bytes operation rs1 rs2)
branch_far bytes operation rs1 rs2 = branch_by (bytes == 2) (bytes == 8) operation rs1 rs2

jump_by : (t : Bool) (rd : ℕ) → is_distance (if t then kind.RvcJump else kind.Jal) ≡ true
jump_by true rd = refl
jump_by false rd = refl

jump_far : (bytes rd : ℕ) → AreFar (jump bytes rd)
jump_far bytes rd = ((jump_by ((rd == 0) && (bytes == 2)) rd, tt), refl)

far_by : (t : Bool) (bytes link through : ℕ)
    → AreFar (if t then Joined kind.CallPlt (auipc through) (jalr link through (pos 0)) ∷ [] else jump bytes link)
far_by true bytes link through = (((refl, refl), tt), refl)
far_by false bytes link through = jump_far bytes link

far_far : (bytes link through : ℕ) → AreFar (far bytes link through)
far_far bytes link through = far_by (bytes == 8) bytes link through

near_pair : (rd : ℕ) (k : Kind) (i : Inst) → is_low_part k ≡ true → IsPair (near rd k i)
near_pair rd k i low = (k, (auipc rd, (i, low, refl)))

module _ (v : Constants) (os : List Operand) (e : Expression) (alone : flat_map in_operand os ≡ in_maybe (other_operand os)) (is : other_operand os ≡ Some (Target e)) where
  aimed : (ps : List Part) → IsAim ps → IsRow v os ps
  aimed ps h = record { alone = alone; shape = subst (λ q. Shape v q ps) (sym is) h }

  unless_so : (t : Bool) (o : Option (List Part)) → AreRow v os o → AreRow v os (if t then None else o)
  unless_so true o h = tt
  unless_so false o h = h

  through_row : (register : ℕ) (ps : List Part) → IsAim ps → AreRow v os (through register ps)
  through_row register ps h = unless_so (register == 0) (Some ps) (aimed ps h)

-- ---- parcels

-- of registers alone
bare_row : (v : Constants) (os : List Operand) (f : Option Compressed) → flat_map in_operand os ≡ in_maybe (other_operand os)
    → ((form : Compressed) → Shape v (other_operand os) (Closed (expansion form) ∷ [])) → AreRow v os (formed f)
bare_row v os None alone shape = tt
bare_row v os (Some form) alone shape = record { alone = alone; shape = shape form }

parcel_row : (v : Constants) (operation : ParcelOperation) (shape : OperandShape) (os : List Operand) → AreRow v os (formed (parcel_form v operation shape os))
parcel_row v operation shapes.Registers [] = bare_row v [] (form_of operation [] (pos 0)) refl (λ form. refl)
parcel_row v operation shapes.Registers (Register a ∷ []) = bare_row v (Register a ∷ []) (form_of operation (a ∷ []) (pos 0)) refl (λ form. refl)
parcel_row v operation shapes.Registers (Register a ∷ Register b ∷ []) = bare_row v (Register a ∷ Register b ∷ []) (form_of operation (a ∷ b ∷ []) (pos 0)) refl (λ form. refl)
parcel_row v operation shapes.Number (Register a ∷ Register b ∷ o ∷ []) = form_row v (λ o. Register a ∷ Register b ∷ o ∷ []) (third a b) (form_of operation (a ∷ b ∷ [])) o
parcel_row v operation shapes.Number (Register a ∷ o ∷ []) = form_row v (λ o. Register a ∷ o ∷ []) (at_end a) (form_of operation (a ∷ [])) o
parcel_row v operation shapes.Address (Register a ∷ Register b ∷ []) = bare_row v (Register a ∷ Register b ∷ []) (form_of operation (a ∷ b ∷ []) (pos 0)) refl (λ form. refl)
parcel_row v operation shapes.Address (Register a ∷ o ∷ Register b ∷ []) = form_row v (λ o. Register a ∷ o ∷ Register b ∷ []) (between a b) (form_of operation (a ∷ b ∷ [])) o
parcel_row v operation shape os = tt

short_row : (v : Constants) (operation : BranchOperation) (rs : ℕ) (e : Expression) → AreRow v (Register rs ∷ Target e ∷ []) (short_branch operation rs)
short_row v operation rs e = go (is_of_set Short rs)
  where
    go : (t : Bool) → AreRow v (Register rs ∷ Target e ∷ []) (if t then Some (branch 2 operation rs 0) else None)
    go true = aimed v (Register rs ∷ Target e ∷ []) e refl refl (branch 2 operation rs 0) (inl (branch_far 2 operation rs 0))
    go false = tt

-- ---- all rows

rows : (v : Constants) (rvc : Bool) (bytes : ℕ) (mnemonic : Mnemonic) (os : List Operand) → AreRow v os (code v rvc bytes mnemonic os)
rows v rvc bytes (Registers operation) (Register rd ∷ Register rs1 ∷ Register rs2 ∷ []) = record { alone = refl; shape = refl }
rows v rvc bytes (Registers operation) (Register rd ∷ Register rs1 ∷ o ∷ []) = constant_row v (λ o. Register rd ∷ Register rs1 ∷ o ∷ []) (third rd rs1) (with_constant operation) rd rs1 o
rows v rvc bytes (Immediate operation) (Register rd ∷ Register rs1 ∷ o ∷ []) =
    signed_row v (λ o. Register rd ∷ Register rs1 ∷ o ∷ []) (third rd rs1) false (λ k. of_immediate operation (i_type rd rs1 k)) o
rows v rvc bytes (Shift operation) (Register rd ∷ Register rs1 ∷ o ∷ []) =
    amount_row v (λ o. Register rd ∷ Register rs1 ∷ o ∷ []) (third rd rs1) (λ n. of_shift operation (shift_by rd rs1 n)) o
rows v rvc bytes (Upper operation) (Register rd ∷ o ∷ []) = upper_row v (λ o. Register rd ∷ o ∷ []) (at_end rd) (λ n. of_upper operation (u_type rd n)) o
rows v rvc bytes (Load operation) (Register rd ∷ Register rs1 ∷ []) = record { alone = refl; shape = refl }
rows v rvc bytes (Load operation) (Register rd ∷ Target e ∷ []) =
    through_row v (Register rd ∷ Target e ∷ []) e refl refl rd (near rd kind.PcrelLo12I (of_load operation (i_type rd rd (pos 0)))) (inr (near_pair rd kind.PcrelLo12I _ refl))
rows v rvc bytes (Load operation) (Register rd ∷ o ∷ Register rs1 ∷ []) =
    signed_row v (λ o. Register rd ∷ o ∷ Register rs1 ∷ []) (between rd rs1) false (λ k. of_load operation (i_type rd rs1 k)) o
rows v rvc bytes (Store operation) (Register rs2 ∷ Register rs1 ∷ []) = record { alone = refl; shape = refl }
rows v rvc bytes (Store operation) (Register rs2 ∷ Target e ∷ Register rt ∷ []) =
    unless_so v (Register rs2 ∷ Target e ∷ Register rt ∷ []) e refl refl (rt == rs2) _
    (through_row v (Register rs2 ∷ Target e ∷ Register rt ∷ []) e refl refl rt (near rt kind.PcrelLo12S (of_store operation (s_type rs2 rt (pos 0)))) (inr (near_pair rt kind.PcrelLo12S _ refl)))
rows v rvc bytes (Store operation) (Register rs2 ∷ o ∷ Register rs1 ∷ []) =
    signed_row v (λ o. Register rs2 ∷ o ∷ Register rs1 ∷ []) (between rs2 rs1) true (λ k. of_store operation (s_type rs2 rs1 k)) o
rows v rvc bytes (Branch operation) (Register rs1 ∷ Register rs2 ∷ Target e ∷ []) =
    aimed v (Register rs1 ∷ Register rs2 ∷ Target e ∷ []) e refl refl (branch bytes operation rs1 rs2) (inl (branch_far bytes operation rs1 rs2))
rows v rvc bytes (ZeroBranch operation) (Register rs ∷ Target e ∷ []) =
    aimed v (Register rs ∷ Target e ∷ []) e refl refl (zero_branch bytes operation rs) (inl (zero_branches AreFar bytes (branch_far bytes) operation rs))
rows v rvc bytes (SwappedBranch operation) (Register a ∷ Register b ∷ Target e ∷ []) =
    aimed v (Register a ∷ Register b ∷ Target e ∷ []) e refl refl (swapped_branch bytes operation a b) (inl (swapped_branches AreFar bytes (branch_far bytes) operation a b))
rows v rvc bytes Jal (Register rd ∷ Target e ∷ []) = aimed v (Register rd ∷ Target e ∷ []) e refl refl (jump bytes rd) (inl (jump_far bytes rd))
rows v rvc bytes Jal (Target e ∷ []) = aimed v (Target e ∷ []) e refl refl (jump bytes 1) (inl (jump_far bytes 1))
rows v rvc bytes J (Target e ∷ []) = aimed v (Target e ∷ []) e refl refl (jump bytes 0) (inl (jump_far bytes 0))
rows v rvc bytes Jalr (Register rs1 ∷ []) = record { alone = refl; shape = refl }
rows v rvc bytes Jalr (Register rd ∷ Register rs1 ∷ []) = record { alone = refl; shape = refl }
rows v rvc bytes Jalr (o ∷ Register rs1 ∷ []) = signed_row v (λ o. o ∷ Register rs1 ∷ []) (in_front rs1) false (jalr 1 rs1) o
rows v rvc bytes Jalr (Register rd ∷ Register rs1 ∷ o ∷ []) = signed_row v (λ o. Register rd ∷ Register rs1 ∷ o ∷ []) (third rd rs1) false (jalr rd rs1) o
rows v rvc bytes Jalr (Register rd ∷ o ∷ Register rs1 ∷ []) = signed_row v (λ o. Register rd ∷ o ∷ Register rs1 ∷ []) (between rd rs1) false (jalr rd rs1) o
rows v rvc bytes Jr (Register rs ∷ []) = record { alone = refl; shape = refl }
rows v rvc bytes Jr (o ∷ Register rs ∷ []) = signed_row v (λ o. o ∷ Register rs ∷ []) (in_front rs) false (jalr 0 rs) o
rows v rvc bytes Ret [] = record { alone = refl; shape = refl }
rows v rvc bytes (LoadReserved form) (Register rd ∷ Register rs1 ∷ []) = record { alone = refl; shape = refl }
rows v rvc bytes (Atomic operation form) (Register rd ∷ Register rs2 ∷ Register rs1 ∷ []) = record { alone = refl; shape = refl }
rows v rvc bytes Fence [] = record { alone = refl; shape = refl }
rows v rvc bytes Fence (Accesses before ∷ Accesses after ∷ []) = record { alone = refl; shape = refl }
rows v rvc bytes FenceTso [] = record { alone = refl; shape = refl }
rows v rvc bytes Ecall [] = record { alone = refl; shape = refl }
rows v rvc bytes Ebreak [] = record { alone = refl; shape = refl }
rows v rvc bytes Nop [] = record { alone = refl; shape = refl }
rows v rvc bytes (Unary operation) (Register rd ∷ Register rs ∷ []) = record { alone = refl; shape = all_closed (unary rvc operation rd rs) }
rows v rvc bytes (Compare operation) (Register rd ∷ Register a ∷ Register b ∷ []) = record { alone = refl; shape = refl }
rows v rvc bytes La (Register rd ∷ Target e ∷ []) =
    aimed v (Register rd ∷ Target e ∷ []) e refl refl (near rd kind.PcrelLo12I _) (inr (near_pair rd kind.PcrelLo12I _ refl))
rows v rvc bytes Li (Register rd ∷ o ∷ []) = sequence_row v (λ o. Register rd ∷ o ∷ []) (at_end rd) rd o
rows v rvc bytes Call (Register rd ∷ Target e ∷ []) = through_row v (Register rd ∷ Target e ∷ []) e refl refl rd (far bytes rd rd) (inl (far_far bytes rd rd))
rows v rvc bytes Call (Target e ∷ []) = aimed v (Target e ∷ []) e refl refl (far bytes 1 1) (inl (far_far bytes 1 1))
rows v rvc bytes Tail (Target e ∷ []) = aimed v (Target e ∷ []) e refl refl (far bytes 0 6) (inl (far_far bytes 0 6))
rows v rvc bytes Jump (Target e ∷ Register rt ∷ []) = through_row v (Target e ∷ Register rt ∷ []) e refl refl rt (far bytes 0 rt) (inl (far_far bytes 0 rt))
rows v rvc bytes (Parcel parcels.J) (Target e ∷ []) = aimed v (Target e ∷ []) e refl refl (jump 2 0) (inl (jump_far 2 0))
rows v rvc bytes (Parcel parcels.Beqz) (Register rs ∷ Target e ∷ []) = short_row v Beq rs e
rows v rvc bytes (Parcel parcels.Bnez) (Register rs ∷ Target e ∷ []) = short_row v Bne rs e
rows v rvc bytes (Parcel operation) os = parcel_row v operation (shape_of operation) os
rows v rvc bytes mnemonic os = tt

pub row_of : (v : Constants) (rvc : Bool) (bytes : ℕ) (mnemonic : Mnemonic) (os : List Operand) (ps : List Part)
    → code v rvc bytes mnemonic os ≡ Some ps → IsRow v os ps
row_of v rvc bytes mnemonic os ps e = subst (AreRow v os) e (rows v rvc bytes mnemonic os)
