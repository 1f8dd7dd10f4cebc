-- One open field, and the two of a call.

use Rattle.std.proofs.Common.{◌≡◌, ℕ, true, List, ◌++◌, refl, sym, ap, ◌∙◌, subst, arith, ℤ, ◌⊎◌, inl, inr, None}
use Rattle.std.proofs.lemmas.Int.{ints}
use Rattle.std.proofs.lemmas.Bool.{or_cases}
use Rattle.rv_isa.specs.declared.kind.Kind.{Kind}
use Rattle.rv_isa.specs.declared.kind.Kind.TheVariants as kind
use Rattle.rv_isa.specs.declared.instruction.BType.{BType}
use Rattle.rv_isa.specs.declared.instruction.IType.{IType}
use Rattle.rv_isa.specs.declared.instruction.JType.{JType}
use Rattle.rv_isa.specs.declared.instruction.Format.{Format}
use Rattle.rv_isa.specs.declared.instruction.Format.TheVariants as format
use Rattle.rv_isa.specs.declared.instruction.Inst.{Inst}
use Rattle.rv_isa.specs.declared.instruction.Inst.TheVariants as inst
use Rattle.rv_isa.specs.declared.operation.BranchOperation.{BranchOperation}
use Rattle.rv_isa.specs.declared.operation.BranchOperation.TheVariants.{Beq, Bne}
use Rattle.rv_isa.specs.Kinds.{width_of}
use Rattle.rv_isa.specs.Operations.{format_of, instruction_of, of_branch}
use Rattle.rv_isa.specs.Ranges.{IsIType, IsValidFormat}
use Rattle.rv_isa.proofs.OperationsLemmas.{rebuilt}
use Rattle.rv_isa_laws.specs.Bytes.{little_endian}
use Rattle.rv_isa_laws.specs.Word.{Form, Immediate, Upper, form}
use Rattle.rv_parcel.specs.declared.form.Compressed.{Compressed}
use Rattle.rv_parcel.specs.declared.form.Compressed.TheVariants.{J, Beqz, Bnez}
use Rattle.rv_parcel.specs.Parcel.{IsBranch, IsJump, IsLine, IsShortOf, expansion, parcel}
use Rattle.rv_reloc_laws.specs.Fields.{patched}
use Rattle.rv_reloc_laws.specs.Operands.{branch_to, jump_to, immediate_of, store_of, upper_of, format_with, with_value}
use Rattle.rv_reloc_laws.specs.Ranges.{Takes}
use Rattle.rv_parcel.specs.Encoded.{IsEncodedIn}
use Rattle.rv_filling_theorems.specs.Formats.{word_bytes, Fills, IsUpperKind, IsLowerKind, IsStoreKind, IsCallKind}
use Rattle.rv_filling_theorems.proofs.FormatsLemmas.{branches, jumps, uppers, immediates, stores, calls, zero, nonzero, short_jumps}
use Rattle.rv_pseudo_laws.specs.Code.{Joined}
use Rattle.rv_pseudo_laws.specs.Valid.{fills_branch, fills_jump, fills_call, fills_upper, fills_lower, fills_store, fills, IsOpen}
use Rattle.rv_pseudo_laws.proofs.FormatsLemmas.{branch_format}
use Rattle.rv_pseudo_laws.proofs.FillingLemmas.{even}
use Rattle.rv_filling_theorems.specs.Parts.{fills_call_pair, IsEncodedPart}
use Rattle.rv_filling_theorems.proofs.FormsLemmas.{immediate_opcode, immediate_funct3, load_funct3, store_funct3, branch_funct3, upper_opcode, immediate_form, load_form, store_form, branch_form, upper_form, immediate_selectors, load_selectors, store_selectors, branch_selectors, upper_selector}

-- ---- words

four_not_two : {A : Type 0} → ◌≡◌ {A = ℕ} 4 2 → A
four_not_two e = absurd (omega (arith, e))

two_not_four : {A : Type 0} → ◌≡◌ {A = ℕ} 2 4 → A
two_not_four e = absurd (omega (arith, e))

-- a word whose field is filled, by the forms of both instructions
four : (k : Kind) (v : ℤ) (i j : Inst) (before after : Form) (bytes : List ℕ) → form i ≡ before → form j ≡ after → width_of k ≡ 4
    → Fills k v (word_bytes before) (word_bytes after) → Takes k v → IsEncodedIn i (width_of k) bytes → IsEncodedIn j (width_of k) (patched k v bytes)
four k v i j before after bytes e f wide fills t (inl (n, is)) =
    inl (n, ap (patched k v) (is ∙ ap word_bytes e) ∙ fills t ∙ ap word_bytes (sym f))
four k v i j before after bytes e f wide fills t (inr (n, short)) = four_not_two (sym wide ∙ n)

-- no instruction has eight bytes
no_eight : {A : Type 0} (i : Inst) (n : ℕ) (bytes : List ℕ) → n ≡ 8 → IsEncodedIn i n bytes → A
no_eight i n bytes e (inl (f, is)) = absurd (omega (arith, e, f))
no_eight i n bytes e (inr (f, short)) = absurd (omega (arith, e, f))

lower_kind : (k : Kind) → fills_lower k ≡ true → IsLowerKind k × (width_of k ≡ 4)
lower_kind kind.Lo12I e = (tt, refl)
lower_kind kind.PcrelLo12I e = (tt, refl)
lower_kind _ e = absurd (cc)

store_kind : (k : Kind) → fills_store k ≡ true → IsStoreKind k × (width_of k ≡ 4)
store_kind kind.Lo12S e = (tt, refl)
store_kind kind.PcrelLo12S e = (tt, refl)
store_kind _ e = absurd (cc)

upper_kind : (k : Kind) → fills_upper k ≡ true → (IsUpperKind k × (width_of k ≡ 4)) ⊎ (width_of k ≡ 8)
upper_kind kind.Hi20 e = inl (tt, refl)
upper_kind kind.PcrelHi20 e = inl (tt, refl)
upper_kind kind.Call e = inr refl
upper_kind kind.CallPlt e = inr refl
upper_kind _ e = absurd (cc)

call_kind : (k : Kind) → fills_call k ≡ true → IsCallKind k × (width_of k ≡ 8)
call_kind kind.Call e = (tt, refl)
call_kind kind.CallPlt e = (tt, refl)
call_kind _ e = absurd (cc)

-- ---- parcels

branch_range : (v : ℤ) → Takes kind.RvcBranch v → IsBranch v
branch_range v t =
    let low = t.range.0 in
    let high = t.range.1 in
    (omega (arith, ints), omega (arith, ints), even v (t.even refl))

jump_range : (v : ℤ) → Takes kind.RvcJump v → IsJump v
jump_range v t =
    let low = t.range.0 in
    let high = t.range.1 in
    (omega (arith, ints), omega (arith, ints), even v (t.even refl))

-- what a parcel becomes
abbrev IsRefilled : Kind → ℤ → Inst → ℕ → Type 0
IsRefilled k v i p = (q : ℕ) × IsShortOf i q × (patched k v (little_endian 2 p) ≡ little_endian 2 q)

same_branch : (k : Kind) (v : ℤ) (p : ℕ) (operation o : BranchOperation) (x y : BType) → format.Branch operation x ≡ format.Branch o y
    → IsRefilled k v (of_branch operation (branch_to x v)) p → IsRefilled k v (of_branch o (branch_to y v)) p
same_branch k v p operation o x y e h =
    let f : operation ≡ o = cc in
    let g : x ≡ y = cc in
    subst (λ o. IsRefilled k v (of_branch o (branch_to y v)) p) f
    (subst (λ y. IsRefilled k v (of_branch operation (branch_to y v)) p) g h)

short_branch : (c : Compressed) (operation : BranchOperation) (x : BType) (v : ℤ) → IsLine c → format_of (expansion c) ≡ format.Branch operation x
    → Takes kind.RvcBranch v → IsRefilled kind.RvcBranch v (of_branch operation (branch_to x v)) (parcel c)
short_branch (Beqz rs1 old) operation x v line e t =
    same_branch kind.RvcBranch v (parcel (Beqz rs1 old)) Beq operation _ x e (
      parcel (Beqz rs1 v),
      record { form = Beqz rs1 v; spells = record { line = (line.0, branch_range v t); sum = refl }; chosen = tt; same = refl },
      zero rs1 old v line t,
    )
short_branch (Bnez rs1 old) operation x v line e t =
    same_branch kind.RvcBranch v (parcel (Bnez rs1 old)) Bne operation _ x e (
      parcel (Bnez rs1 v),
      record { form = Bnez rs1 v; spells = record { line = (line.0, branch_range v t); sum = refl }; chosen = tt; same = refl },
      nonzero rs1 old v line t,
    )
short_branch _ operation x v line e t = absurd (cc)

same_jump : (k : Kind) (v : ℤ) (p : ℕ) (x y : JType) → format.Jal x ≡ format.Jal y → IsRefilled k v (inst.Jal (jump_to x v)) p → IsRefilled k v (inst.Jal (jump_to y v)) p
same_jump k v p x y e h = let g : x ≡ y = cc in subst (λ y. IsRefilled k v (inst.Jal (jump_to y v)) p) g h

short_jump : (c : Compressed) (x : JType) (v : ℤ) → IsLine c → format_of (expansion c) ≡ format.Jal x → Takes kind.RvcJump v
    → IsRefilled kind.RvcJump v (inst.Jal (jump_to x v)) (parcel c)
short_jump (J old) x v line e t =
    same_jump kind.RvcJump v (parcel (J old)) _ x e (
      parcel (J v),
      record { form = J v; spells = record { line = jump_range v t; sum = refl }; chosen = tt; same = refl },
      short_jumps old v line t,
    )
short_jump _ x v line e t = absurd (cc)

-- a parcel whose field is filled
two : (k : Kind) (v : ℤ) (i j : Inst) (bytes : List ℕ) → width_of k ≡ 2 → ((c : Compressed) → IsLine c → expansion c ≡ i → IsRefilled k v j (parcel c))
    → IsEncodedIn i (width_of k) bytes → IsEncodedIn j (width_of k) (patched k v bytes)
two k v i j bytes wide refilled (inl (n, is)) = two_not_four (sym wide ∙ n)
two k v i j bytes wide refilled (inr (n, (q, short, is))) =
    let r = refilled short.form short.spells.line short.same in
    inr (n, (r.0, r.1, ap (patched k v) (is ∙ ap (little_endian 2) (sym short.spells.sum)) ∙ r.2))

-- ---- by the format

branch_filled : (k : Kind) (v : ℤ) (operation : BranchOperation) (x : BType) (bytes : List ℕ) → IsValidFormat (format.Branch operation x) → fills_branch k ≡ true → Takes k v
    → IsEncodedIn (of_branch operation x) (width_of k) bytes → IsEncodedIn (of_branch operation (branch_to x v)) (width_of k) (patched k v bytes)
branch_filled kind.Branch v operation x bytes valid e t h =
    four kind.Branch v _ _ _ _ bytes (branch_form operation x) (branch_form operation (branch_to x v)) refl
    (branches 0x63 (branch_funct3 operation) x v (branch_selectors operation) valid) t h
branch_filled kind.RvcBranch v operation x bytes valid e t h =
    two kind.RvcBranch v (of_branch operation x) (of_branch operation (branch_to x v)) bytes refl
    (λ c line same. short_branch c operation x v line (ap format_of same ∙ branch_format operation x) t) h
branch_filled _ v operation x bytes valid e t h = absurd (cc)

jump_filled : (k : Kind) (v : ℤ) (x : JType) (bytes : List ℕ) → IsValidFormat (format.Jal x) → fills_jump k ≡ true → Takes k v
    → IsEncodedIn (inst.Jal x) (width_of k) bytes → IsEncodedIn (inst.Jal (jump_to x v)) (width_of k) (patched k v bytes)
jump_filled kind.Jal v x bytes valid e t h = four kind.Jal v _ _ _ _ bytes refl refl refl (jumps 0x6f x v (omega arith) valid) t h
jump_filled kind.RvcJump v x bytes valid e t h =
    two kind.RvcJump v (inst.Jal x) (inst.Jal (jump_to x v)) bytes refl (λ c line same. short_jump c x v line (ap format_of same) t) h
jump_filled _ v x bytes valid e t h = absurd (cc)

jalr_filled : (k : Kind) (v : ℤ) (x : IType) (bytes : List ℕ) → IsIType x → IsLowerKind k × (width_of k ≡ 4) → Takes k v
    → IsEncodedIn (inst.Jalr x) (width_of k) bytes → IsEncodedIn (inst.Jalr (immediate_of x v)) (width_of k) (patched k v bytes)
jalr_filled k v x bytes valid (lower, wide) t h =
    four k v _ _ _ _ bytes refl refl wide (immediates k 0x67 0 x v lower (omega arith, omega arith) valid) t h

format_filled : (f : Format) (k : Kind) (v : ℤ) (i : Inst) (bytes : List ℕ) → IsValidFormat f → fills f k ≡ true → Takes k v
    → IsEncodedIn (instruction_of f) (width_of k) bytes → IsEncodedIn (format_with f v i) (width_of k) (patched k v bytes)
format_filled (format.Immediate operation x) k v i bytes valid e t h =
    let l = lower_kind k e in
    four k v _ _ _ _ bytes (immediate_form operation x) (immediate_form operation (immediate_of x v)) l.1
    (immediates k (immediate_opcode operation) (immediate_funct3 operation) x v l.0 (immediate_selectors operation) valid) t h
format_filled (format.Load operation x) k v i bytes valid e t h =
    let l = lower_kind k e in
    four k v _ _ _ _ bytes (load_form operation x) (load_form operation (immediate_of x v)) l.1
    (immediates k 0x03 (load_funct3 operation) x v l.0 (load_selectors operation) valid) t h
format_filled (format.Store operation x) k v i bytes valid e t h =
    let l = store_kind k e in
    four k v _ _ _ _ bytes (store_form operation x) (store_form operation (store_of x v)) l.1
    (stores k 0x23 (store_funct3 operation) x v l.0 (store_selectors operation) valid) t h
format_filled (format.Upper operation x) k v i bytes valid e t h = elim (upper_kind k e) [
  | inl l ↦ four k v _ _ _ _ bytes (upper_form operation x) (upper_form operation (upper_of x v)) l.1
      (uppers k (upper_opcode operation) x v l.0 (upper_selector operation) valid) t h
  | inr wide ↦ no_eight _ (width_of k) bytes wide h
]
format_filled (format.Branch operation x) k v i bytes valid e t h = branch_filled k v operation x bytes valid e t h
format_filled (format.Jal x) k v i bytes valid e t h = jump_filled k v x bytes valid e t h
format_filled (format.Jalr x) k v i bytes valid e t h = elim (or_cases (fills_lower k) (fills_call k) e) [
  | inl low ↦ jalr_filled k v x bytes valid (lower_kind k low) t h
  | inr call ↦ no_eight _ (width_of k) bytes (call_kind k call).1 h
]
format_filled _ k v i bytes valid e t h = absurd (cc)

pub open_filled : (k : Kind) (v : ℤ) (i : Inst) (bytes : List ℕ) → IsOpen k i → Takes k v → IsEncodedIn i (width_of k) bytes
    → IsEncodedIn (with_value v i) (width_of k) (patched k v bytes)
open_filled k v i bytes (valid, e) t h =
    format_filled (format_of i) k v i bytes valid e t (subst (λ i. IsEncodedIn i (width_of k) bytes) (sym (rebuilt i)) h)

-- ---- the two of a call

-- a word of four bytes
as_word : (i : Inst) (bytes : List ℕ) → IsEncodedIn i 4 bytes → bytes ≡ word_bytes (form i)
as_word i bytes (inl (n, is)) = is
as_word i bytes (inr (n, short)) = four_not_two n

word_encoded : (i : Inst) (f : Form) → form i ≡ f → IsEncodedIn i 4 (word_bytes f)
word_encoded i f e = inl (refl, ap word_bytes (sym e))

call_filled_by : (f g : Format) (k : Kind) (v : ℤ) (i j : Inst) (first second : List ℕ) → IsValidFormat f → IsValidFormat g → fills_call_pair k f g ≡ true → Takes k v
    → first ≡ word_bytes (form (instruction_of f)) → second ≡ word_bytes (form (instruction_of g))
    → IsEncodedPart None (Joined k (format_with f v i) (format_with g v j)) (patched k v (first ++ second))
call_filled_by (format.Upper operation x) (format.Jalr y) k v i j first second valid valid' e t a b =
    let after = word_bytes (Upper (upper_opcode operation) (upper_of x v)) in
    let later = word_bytes (Immediate 0x67 0 (immediate_of y v)) in (
      after,
      (
        later,
        word_encoded _ _ (upper_form operation (upper_of x v)),
        word_encoded (inst.Jalr (immediate_of y v)) _ refl,
        ap (λ l. patched k v (l ++ second)) (a ∙ ap word_bytes (upper_form operation x)) ∙ ap (λ l. patched k v (word_bytes (Upper (upper_opcode operation) x) ++ l)) b
            ∙ calls k (upper_opcode operation) 0x67 0 x y v (call_kind k e).0 (upper_selector operation) (omega arith, omega arith) valid valid' t,
      ),
    )
call_filled_by (format.Jal x) g k v i j first second valid valid' e t a b = absurd (cc)
call_filled_by (format.Upper operation x) g k v i j first second valid valid' e t a b = absurd (cc)
call_filled_by f g k v i j first second valid valid' e t a b = absurd (cc)

pub call_filled : (k : Kind) (v : ℤ) (i j : Inst) (bytes : List ℕ) → IsOpen k i → IsOpen k j → fills_call_pair k (format_of i) (format_of j) ≡ true → Takes k v
    → IsEncodedPart None (Joined k i j) bytes → IsEncodedPart None (Joined k (with_value v i) (with_value v j)) (patched k v bytes)
call_filled k v i j bytes (valid, a) (valid', b) e t (first, (second, x, y, whole)) =
    subst (λ l. IsEncodedPart None (Joined k (with_value v i) (with_value v j)) (patched k v l)) (sym whole)
    (call_filled_by (format_of i) (format_of j) k v i j first second valid valid' e t
    (as_word i first x ∙ ap (λ i. word_bytes (form i)) (sym (rebuilt i))) (as_word j second y ∙ ap (λ i. word_bytes (form i)) (sym (rebuilt j))))

pub call_width : (k : Kind) (f g : Format) → fills_call_pair k f g ≡ true → width_of k ≡ 8
call_width k (format.Upper operation x) (format.Jalr y) e = (call_kind k e).1
call_width k (format.Upper operation x) g e = absurd (cc)
call_width k (format.Jal x) g e = absurd (cc)
call_width k f g e = absurd (cc)
