-- The rows of operations with an address, whose field stays open: as many bytes as they have ask for the same parts again.

use Rattle.std.proofs.Common.{◌≡◌, ◌⊎◌, inl, inr, ℕ, Bool, true, false, refl, sym, ap, ◌∙◌, subst, arith, ℤ, pos, List, [], ◌∷◌, Option, Some, None, option_map}
use Rattle.std.proofs.lemmas.Bool.{and_parts, or_parts}
use Rattle.std.proofs.lemmas.Int.{ints}
use Rattle.std.proofs.lemmas.Bool.Decides.{nat_tests}
use Rattle.std.specs.Prelude.{◌&&◌, ◌==◌, is_some, if◌then◌else◌}
use Rattle.std.specs.List.{AllByRecursion}
use Rattle.rv_isa.specs.declared.instruction.Inst.{Inst}
use Rattle.rv_isa.specs.declared.instruction.Inst.TheVariants as isa
use Rattle.rv_isa.specs.declared.kind.Kind.{Kind}
use Rattle.rv_isa.specs.declared.kind.Kind.TheVariants as kinds
use Rattle.rv_isa.specs.declared.operation.BranchOperation.{BranchOperation}
use Rattle.rv_isa.specs.declared.operation.BranchOperation.TheVariants.{Beq, Bne, Blt, Bge, Bltu, Bgeu}
use Rattle.rv_isa.specs.Kinds.{width_of}
use Rattle.rv_isa.specs.Operations.{of_immediate, of_upper, of_load, of_store, of_branch}
use Rattle.rv_parcel.specs.declared.parcel.ParcelOperation.TheVariants as parcels
use Rattle.rv_parcel.specs.declared.parcel.RegisterSet.TheVariants.{Short}
use Rattle.rv_parcel.specs.Mnemonics.{is_of_set}
use Rattle.rv_parcel.specs.Parcel.{parcel, IsShort, IsBranch, IsJump}
use Rattle.rv_parcel.specs.declared.form.Compressed.TheVariants as compressed
use Rattle.rv_statement_laws.specs.declared.mnemonic.Mnemonic.{Mnemonic}
use Rattle.rv_statement_laws.specs.declared.mnemonic.Mnemonic.TheVariants as mnemonics
use Rattle.rv_statement_laws.specs.declared.pseudo.Function.{Function}
use Rattle.rv_statement_laws.specs.declared.pseudo.Function.TheVariants.{Hi, Lo, PcrelHi, PcrelLo}
use Rattle.rv_statement_laws.specs.declared.pseudo.ZeroBranchOperation.TheVariants.{Beqz, Bnez, Bgez, Bltz, Blez, Bgtz}
use Rattle.rv_statement_laws.specs.declared.pseudo.SwappedBranchOperation.TheVariants.{Bgt, Ble, Bgtu, Bleu}
use Rattle.rv_statement.specs.declared.statement.Operation.{Operation}
use Rattle.rv_statement.specs.declared.statement.Operation.TheVariants as operations
use Rattle.rv_statement_laws.specs.Statement.{StatementKind, Instruction, Expression, Applied}
use Rattle.rv_parse_laws.specs.Syntax.{with_constant}
use Rattle.rv_size_laws.specs.declared.item.Forms.{Forms}
use Rattle.rv_size_laws.specs.declared.item.Forms.TheVariants.{Settled}
use Rattle.rv_parcel.specs.Encoded.{HasShort}
use Rattle.rv_pseudo_laws.specs.Code.{Part, Closed, Open, Joined, Constants, i_type, s_type, b_type, u_type, jal, jalr, opened, by_part, signed_12, upper_20, by_constant, branch, inverted, jump, near, far, through, short_branch}
use Rattle.rv_pseudo_laws.specs.Li.{addi}
use Rattle.rv_pseudo_laws.specs.Filled.{are_closed, code_bytes}
use Rattle.rv_isa_laws.specs.Halves.{hi, lo}
use Rattle.rv_isa_laws.specs.Arithmetic.{wrapped}
use Rattle.rv_pseudo.specs.Faults.{is_upper, is_bad_scratch, is_written, takes_target}
use Rattle.rv_pseudo.specs.Templates.{all_templates, asked_bytes, statement_with}
use Rattle.rv_pseudo.proofs.InRangeLemmas.{is_immediate, is_low, takes_part, is_taken}
use Rattle.rv_source_laws.specs.Lines as lines
use Rattle.rv_source_laws.specs.Sizes.{is_short_register, is_short_branch, branch_forms, jump_forms}
use Rattle.rv_instruction.specs.Code.{parts_in, is_short, OffersAny, near_forms_of}

-- ---- what is said of parts

abbrev pub IsFit : Part → Type 0
IsFit (Closed i) = Unit {0}
IsFit (Open k i) = ((is_short k ≡ false) × (width_of k ≡ 4)) ⊎ ((is_short k ≡ true) × HasShort i)
IsFit (Joined k i j) = width_of k ≡ 8

-- parts by their bytes, where they are asked for so many
pub record AreOpen (F : ℕ → List Part) (forms : Option Forms) (b : ℕ) : Type 0 where
  pub back : parts_in (all_templates (F b)) ≡ F b
  pub same : F (code_bytes (F b)) ≡ F b
  pub left : are_closed (F b) ≡ false
  pub near : OffersAny forms b → is_some forms ≡ true → code_bytes (F b) ≡ b
  pub fit : OffersAny forms b → AllByRecursion IsFit (F b)

-- the row of what a statement says with an expression that is no constant
pub record OpenRow (kind : StatementKind) (e : Expression) (forms : Option Forms) (b : ℕ) : Type 0 where
  pub F : ℕ → List Part
  pub rows : (c : Constants) (rvc : Bool) (size : ℕ) → c e ≡ None → lines.parts_by_size c rvc size kind ≡ Some (F size)
  pub are : AreOpen F forms b

-- the bytes for which its code is asked
abbrev pub asked_of : StatementKind → ℕ → ℕ
asked_of (Instruction mnemonic operands) b = asked_bytes mnemonic b
asked_of kind b = b

abbrev no_forms : Option Forms
no_forms = None

never : {A : Type 0} → is_some no_forms ≡ true → A
never e = absurd (cc)

-- ---- instructions alone, and pairs

single_open : (k : Kind) (i : Inst) (b : ℕ) → is_short k ≡ false → width_of k ≡ 4 → AreOpen (λ n. Open k i ∷ []) None b
single_open k i b whole four = record {
  back = refl;
  same = refl;
  left = refl;
  near = λ o e. never e;
  fit = λ o. (inl (whole, four), tt);
}

near_open : (rd : ℕ) (k : Kind) (i : Inst) (b : ℕ) → is_short k ≡ false → width_of k ≡ 4 → AreOpen (λ n. near rd k i) None b
near_open rd k i b whole four = record {
  back = refl;
  same = refl;
  left = refl;
  near = λ o e. never e;
  fit = λ o. (inl (refl, refl), (inl (whole, four), tt));
}

far_open : (link through : ℕ) → AreOpen (λ n. far n link through) (Some (Settled 8)) 8
far_open link through = record {
  back = refl;
  same = refl;
  left = refl;
  near = λ o e. refl;
  fit = λ o. (refl, tt);
}

-- ---- branches

short_line : (r : ℕ) → is_short_register r ≡ true → IsShort r
short_line r e = grind (arith, nat_tests)

branch_zero : IsBranch (pos 0)
branch_zero = grind (arith, ints)

jump_zero : IsJump (pos 0)
jump_zero = grind (arith, ints)

zero_is : (r : ℕ) → (r == 0) ≡ true → 0 ≡ r
zero_is r e = grind (arith, nat_tests)

beqz_short : (r s : ℕ) → IsShort r → 0 ≡ s → HasShort (of_branch Beq (b_type r s (pos 0)))
beqz_short r s short zero = (
  parcel (compressed.Beqz r (pos 0)),
  record {
    form = compressed.Beqz r (pos 0);
    spells = record { line = (short, branch_zero); sum = refl };
    chosen = tt;
    same = ap (λ n. isa.Beq (b_type r n (pos 0))) zero;
  },
)

bnez_short : (r s : ℕ) → IsShort r → 0 ≡ s → HasShort (of_branch Bne (b_type r s (pos 0)))
bnez_short r s short zero = (
  parcel (compressed.Bnez r (pos 0)),
  record {
    form = compressed.Bnez r (pos 0);
    spells = record { line = (short, branch_zero); sum = refl };
    chosen = tt;
    same = ap (λ n. isa.Bne (b_type r n (pos 0))) zero;
  },
)

branch_short : (o : BranchOperation) (r s : ℕ) → is_short_branch o r s ≡ true → HasShort (of_branch o (b_type r s (pos 0)))
branch_short Beq r s e = beqz_short r s (short_line r (and_parts (s == 0) _ e).1) (zero_is s (and_parts (s == 0) _ e).0)
branch_short Bne r s e = bnez_short r s (short_line r (and_parts (s == 0) _ e).1) (zero_is s (and_parts (s == 0) _ e).0)
branch_short _ r s e = absurd (cc)

abbrev branch_by : (two eight : Bool) → BranchOperation → ℕ → ℕ → List Part
branch_by two eight o r s =
    if two then Open kinds.RvcBranch (of_branch o (b_type r s (pos 0))) ∷ []
    else if eight
    then Closed (of_branch (inverted o) (b_type r s (pos 8)))
    ∷ Open kinds.Jal (jal 0) ∷ []
    else Open kinds.Branch (of_branch o (b_type r s (pos 0))) ∷ []

branch_back : (x y : Bool) (o : BranchOperation) (r s : ℕ) → parts_in (all_templates (branch_by x y o r s)) ≡ branch_by x y o r s
branch_back true y o r s = refl
branch_back false true o r s = refl
branch_back false false o r s = refl

branch_same : (x y : Bool) (o : BranchOperation) (r s : ℕ) → branch (code_bytes (branch_by x y o r s)) o r s ≡ branch_by x y o r s
branch_same true y o r s = refl
branch_same false true o r s = refl
branch_same false false o r s = refl

branch_left : (x y : Bool) (o : BranchOperation) (r s : ℕ) → are_closed (branch_by x y o r s) ≡ false
branch_left true y o r s = refl
branch_left false true o r s = refl
branch_left false false o r s = refl

branch_near : (short : Bool) (b : ℕ) (o : BranchOperation) (r s : ℕ) → OffersAny (Some (branch_forms short)) b → code_bytes (branch b o r s) ≡ b
branch_near true b o r s (inl e) = subst (λ n. code_bytes (branch n o r s) ≡ n) (sym e) refl
branch_near true b o r s (inr (inl e)) = subst (λ n. code_bytes (branch n o r s) ≡ n) (sym e) refl
branch_near true b o r s (inr (inr e)) = subst (λ n. code_bytes (branch n o r s) ≡ n) (sym e) refl
branch_near false b o r s (inl e) = subst (λ n. code_bytes (branch n o r s) ≡ n) (sym e) refl
branch_near false b o r s (inr e) = subst (λ n. code_bytes (branch n o r s) ≡ n) (sym e) refl

branch_fit : (short : Bool) (b : ℕ) (o : BranchOperation) (r s : ℕ) → (short ≡ true → HasShort (of_branch o (b_type r s (pos 0))))
    → OffersAny (Some (branch_forms short)) b → AllByRecursion IsFit (branch b o r s)
branch_fit true b o r s has (inl e) = subst (λ n. AllByRecursion IsFit (branch n o r s)) (sym e) (inr (refl, has refl), tt)
branch_fit true b o r s has (inr (inl e)) = subst (λ n. AllByRecursion IsFit (branch n o r s)) (sym e) (inl (refl, refl), tt)
branch_fit true b o r s has (inr (inr e)) = subst (λ n. AllByRecursion IsFit (branch n o r s)) (sym e) (tt, (inl (refl, refl), tt))
branch_fit false b o r s has (inl e) = subst (λ n. AllByRecursion IsFit (branch n o r s)) (sym e) (inl (refl, refl), tt)
branch_fit false b o r s has (inr e) = subst (λ n. AllByRecursion IsFit (branch n o r s)) (sym e) (tt, (inl (refl, refl), tt))

branch_open : (short : Bool) (b : ℕ) (o : BranchOperation) (r s : ℕ) → (short ≡ true → HasShort (of_branch o (b_type r s (pos 0))))
    → AreOpen (λ n. branch n o r s) (Some (branch_forms short)) b
branch_open short b o r s has = record {
  back = branch_back (b == 2) (b == 8) o r s;
  same = branch_same (b == 2) (b == 8) o r s;
  left = branch_left (b == 2) (b == 8) o r s;
  near = λ offers some. branch_near short b o r s offers;
  fit = branch_fit short b o r s has;
}

not_short : {A : Type 0} → false ≡ true → A
not_short e = absurd (cc)

-- ---- jumps

abbrev jump_by : Bool → ℕ → List Part
jump_by two rd = Open (if two then kinds.RvcJump else kinds.Jal) (jal rd) ∷ []

jump_back : (x : Bool) (rd : ℕ) → parts_in (all_templates (jump_by x rd)) ≡ jump_by x rd
jump_back true rd = refl
jump_back false rd = refl

jump_left : (x : Bool) (rd : ℕ) → are_closed (jump_by x rd) ≡ false
jump_left true rd = refl
jump_left false rd = refl

jump_same : (zero x : Bool) (rd : ℕ) → (rd == 0) ≡ zero → jump (code_bytes (jump_by (zero && x) rd)) rd ≡ jump_by (zero && x) rd
jump_same true true rd e = ap (λ t. jump_by (t && true) rd) e
jump_same true false rd e = ap (λ t. jump_by (t && false) rd) e
jump_same false x rd e = ap (λ t. jump_by (t && false) rd) e

jump_short : HasShort (jal 0)
jump_short = (
  parcel (compressed.J (pos 0)),
  record {
    form = compressed.J (pos 0);
    spells = record { line = jump_zero; sum = refl };
    chosen = tt;
    same = refl;
  },
)

jump_near : (rvc : Bool) (b : ℕ) → OffersAny (Some (jump_forms rvc)) b → code_bytes (jump b 0) ≡ b
jump_near true b (inl e) = subst (λ n. code_bytes (jump n 0) ≡ n) (sym e) refl
jump_near true b (inr e) = subst (λ n. code_bytes (jump n 0) ≡ n) (sym e) refl
jump_near false b e = subst (λ n. code_bytes (jump n 0) ≡ n) (sym e) refl

jump_fit : (rvc : Bool) (b : ℕ) → OffersAny (Some (jump_forms rvc)) b → AllByRecursion IsFit (jump b 0)
jump_fit true b (inl e) = subst (λ n. AllByRecursion IsFit (jump n 0)) (sym e) (inr (refl, jump_short), tt)
jump_fit true b (inr e) = subst (λ n. AllByRecursion IsFit (jump n 0)) (sym e) (inl (refl, refl), tt)
jump_fit false b e = subst (λ n. AllByRecursion IsFit (jump n 0)) (sym e) (inl (refl, refl), tt)

jump_open : (rvc : Bool) (b : ℕ) → AreOpen (λ n. jump n 0) (Some (jump_forms rvc)) b
jump_open rvc b = record {
  back = jump_back (b == 2) 0;
  same = jump_same true (b == 2) 0 refl;
  left = jump_left (b == 2) 0;
  near = λ offers some. jump_near rvc b offers;
  fit = jump_fit rvc b;
}

whole_fit : (x : Bool) (rd : ℕ) → x ≡ false → AllByRecursion IsFit (jump_by x rd)
whole_fit true rd e = absurd (cc)
whole_fit false rd e = (inl (refl, refl), tt)

link_open : (rd b : ℕ) → (rd == 0) ≡ false → AreOpen (λ n. jump n rd) None b
link_open rd b e = record {
  back = jump_back ((rd == 0) && (b == 2)) rd;
  same = subst (λ t. jump (code_bytes (jump_by (t && (b == 2)) rd)) rd ≡ jump_by (t && (b == 2)) rd) (sym e) (jump_same false (b == 2) rd e);
  left = jump_left ((rd == 0) && (b == 2)) rd;
  near = λ o e. never e;
  fit = λ o. whole_fit ((rd == 0) && (b == 2)) rd (ap (λ t. t && (b == 2)) e);
}

jal_open : (zero : Bool) (rd b : ℕ) (rvc : Bool) → (rd == 0) ≡ zero → AreOpen (λ n. jump n rd) (if zero then Some (jump_forms rvc) else None) b
jal_open true rd b rvc e = subst (λ r. AreOpen (λ n. jump n r) (Some (jump_forms rvc)) b) (zero_is rd e) (jump_open rvc b)
jal_open false rd b rvc e = link_open rd b e

-- ---- parcels

-- an instruction in a parcel, however long it is asked to be
parcel_open : (k : Kind) (i : Inst) (b : ℕ) → is_short k ≡ true → width_of k ≡ 2 → HasShort i → AreOpen (λ n. Open k i ∷ []) None b
parcel_open k i b short two has = record {
  back = refl;
  same = refl;
  left = refl;
  near = λ o e. never e;
  fit = λ o. (inr (short, has), tt);
}

short_in : (r : ℕ) → (is_of_set Short r && true) ≡ true → is_of_set Short r ≡ true
short_in r e = (and_parts (is_of_set Short r) true e).0

in_line : (r : ℕ) → is_of_set Short r ≡ true → IsShort r
in_line r e = grind (arith, nat_tests)

short_is : (o : BranchOperation) (r : ℕ) → is_of_set Short r ≡ true → short_branch o r ≡ Some (branch 2 o r 0)
short_is o r e = ap (λ t. if t then Some (branch 2 o r 0) else None) e

-- ---- through a register

through_is : (r : ℕ) (ps : List Part) → (r == 0) ≡ false → through r ps ≡ Some ps
through_is r ps e = ap (λ t. if t then None else Some ps) e

-- ---- parts of addresses

-- the row of a field that takes a part of an address
pub record PartRow (row : Constants → Option (List Part)) (e : Expression) : Type 0 where
  pub kind : Kind
  pub made : Inst
  pub rows : (c : Constants) → c e ≡ None → row c ≡ opened kind made
  pub whole : is_short kind ≡ false
  pub four : width_of kind ≡ 4

abbrev is_low_function : Function → Bool
is_low_function Hi = false
is_low_function Lo = true
is_low_function PcrelHi = false
is_low_function PcrelLo = true

signed_part : (f : Function) (store : Bool) (make : ℤ → Inst) (e : Expression) → is_low_function f ≡ true → PartRow (λ c. signed_12 c store make (Applied f e)) e
signed_part Lo true make e low = record {
  kind = kinds.Lo12S;
  made = make (pos 0);
  rows = λ c none. ap (λ o. by_part kinds.Lo12S make (option_map lo o)) none;
  whole = refl;
  four = refl;
}
signed_part Lo false make e low = record {
  kind = kinds.Lo12I;
  made = make (pos 0);
  rows = λ c none. ap (λ o. by_part kinds.Lo12I make (option_map lo o)) none;
  whole = refl;
  four = refl;
}
signed_part PcrelLo true make e low = record { kind = kinds.PcrelLo12S; made = make (pos 0); rows = λ c none. refl; whole = refl; four = refl }
signed_part PcrelLo false make e low = record { kind = kinds.PcrelLo12I; made = make (pos 0); rows = λ c none. refl; whole = refl; four = refl }
signed_part Hi store make e low = absurd (cc)
signed_part PcrelHi store make e low = absurd (cc)

upper_part : (f : Function) (make : ℕ → Inst) (e : Expression) → is_low_function f ≡ false → PartRow (λ c. upper_20 c make (Applied f e)) e
upper_part Hi make e high = record {
  kind = kinds.Hi20;
  made = make 0;
  rows = λ c none. ap (λ o. by_part kinds.Hi20 (λ k. make (wrapped k)) (option_map hi o)) none;
  whole = refl;
  four = refl;
}
upper_part PcrelHi make e high = record { kind = kinds.PcrelHi20; made = make 0; rows = λ c none. refl; whole = refl; four = refl }
upper_part Lo make e high = absurd (cc)
upper_part PcrelLo make e high = absurd (cc)

-- a field takes an upper part or a low part
low_taken : (f : Function) (o : Operation) → takes_part f o ≡ true → is_upper o ≡ false → is_low_function f ≡ true
low_taken Hi o e upper = absurd (cc)
low_taken PcrelHi o e upper = absurd (cc)
low_taken Lo o e upper = refl
low_taken PcrelLo o e upper = refl

high_taken : (f : Function) (o : Operation) → takes_part f o ≡ true → is_low o ≡ false → is_low_function f ≡ false
high_taken Hi o e low = refl
high_taken PcrelHi o e low = refl
high_taken Lo o e low = absurd (cc)
high_taken PcrelLo o e low = absurd (cc)

none_taken : {A : Type 0} (f : Function) (o : Operation) → takes_part f o ≡ true → is_upper o ≡ false → is_low o ≡ false → A
none_taken Hi o e upper low = absurd (cc)
none_taken PcrelHi o e upper low = absurd (cc)
none_taken Lo o e upper low = absurd (cc)
none_taken PcrelLo o e upper low = absurd (cc)

by_parts : (kind : StatementKind) (e : Expression) (b : ℕ) (row : Constants → Option (List Part)) → PartRow row e
    → ((c : Constants) (rvc : Bool) (size : ℕ) → lines.parts_by_size c rvc size kind ≡ row c) → OpenRow kind e None b
by_parts kind e b row p rows = record {
  F = λ n. Open p.kind p.made ∷ [];
  rows = λ c rvc size none. rows c rvc size ∙ p.rows c none;
  are = single_open p.kind p.made b p.whole p.four;
}

constant_part : (form : Option Mnemonic) (rd rs1 : ℕ) (f : Function) (e : Expression) → is_immediate form ≡ true → is_low_function f ≡ true
    → PartRow (λ c. by_constant c form rd rs1 (Applied f e)) e
constant_part (Some (mnemonics.Immediate i)) rd rs1 f e immediate low = signed_part f false (λ k. of_immediate i (i_type rd rs1 k)) e low
constant_part _ rd rs1 f e immediate low = absurd (cc)

is_immediate_taken : (f : Function) (o : Operation) → takes_part f o ≡ true → is_upper o ≡ false → is_low o ≡ true
is_immediate_taken Hi o e upper = absurd (cc)
is_immediate_taken PcrelHi o e upper = absurd (cc)
is_immediate_taken Lo o e upper = e
is_immediate_taken PcrelLo o e upper = e

-- ---- all operations

abbrev IsRowOf : Operation → Option Function → Bool → ℕ → Expression → Type 0
IsRowOf o f rvc b e = OpenRow (statement_with o f e) e (near_forms_of rvc (statement_with o f e)) (asked_of (statement_with o f e) b)

part_row : (o : Operation) (f : Function) (rvc : Bool) (b : ℕ) (e : Expression) → takes_part f o ≡ true → IsRowOf o (Some f) rvc b e
part_row (operations.Registers operation rd rs1) f rvc b e t =
    by_parts _ e b _ (constant_part (with_constant operation) rd rs1 f e (is_immediate_taken f (operations.Registers operation rd rs1) t refl) (low_taken f (operations.Registers operation rd rs1) t refl)) (λ c rvc size. refl)
part_row (operations.Immediate operation rd rs1) f rvc b e t =
    by_parts _ e b _ (signed_part f false (λ k. of_immediate operation (i_type rd rs1 k)) e (low_taken f (operations.Immediate operation rd rs1) t refl)) (λ c rvc size. refl)
part_row (operations.Upper operation rd) f rvc b e t =
    by_parts _ e b _ (upper_part f (λ n. of_upper operation (u_type rd n)) e (high_taken f (operations.Upper operation rd) t refl)) (λ c rvc size. refl)
part_row (operations.Load operation rd rs1) f rvc b e t =
    by_parts _ e b _ (signed_part f false (λ k. of_load operation (i_type rd rs1 k)) e (low_taken f (operations.Load operation rd rs1) t refl)) (λ c rvc size. refl)
part_row (operations.Store operation rs2 rs1) f rvc b e t =
    by_parts _ e b _ (signed_part f true (λ k. of_store operation (s_type rs2 rs1 k)) e (low_taken f (operations.Store operation rs2 rs1) t refl)) (λ c rvc size. refl)
part_row (operations.Jalr rd rs1) f rvc b e t = by_parts _ e b _ (signed_part f false (jalr rd rs1) e (low_taken f (operations.Jalr rd rs1) t refl)) (λ c rvc size. refl)
part_row (operations.JalrThen rd rs1) f rvc b e t = by_parts _ e b _ (signed_part f false (jalr rd rs1) e (low_taken f (operations.JalrThen rd rs1) t refl)) (λ c rvc size. refl)
part_row (operations.JalrLinked rs1) f rvc b e t = by_parts _ e b _ (signed_part f false (jalr 1 rs1) e (low_taken f (operations.JalrLinked rs1) t refl)) (λ c rvc size. refl)
part_row (operations.Jr rs) f rvc b e t = by_parts _ e b _ (signed_part f false (jalr 0 rs) e (low_taken f (operations.Jr rs) t refl)) (λ c rvc size. refl)
part_row (operations.Shift operation rd rs1) f rvc b e t = none_taken f (operations.Shift operation rd rs1) t refl refl
part_row (operations.Li rd) f rvc b e t = none_taken f (operations.Li rd) t refl refl
part_row (operations.Branch operation r s) f rvc b e t = none_taken f (operations.Branch operation r s) t refl refl
part_row (operations.ZeroBranch operation r) f rvc b e t = none_taken f (operations.ZeroBranch operation r) t refl refl
part_row (operations.SwappedBranch operation r s) f rvc b e t = none_taken f (operations.SwappedBranch operation r s) t refl refl
part_row (operations.Jal rd) f rvc b e t = none_taken f (operations.Jal rd) t refl refl
part_row (operations.LoadSymbol operation rd) f rvc b e t = none_taken f (operations.LoadSymbol operation rd) t refl refl
part_row (operations.StoreSymbol operation rs2 rt) f rvc b e t = none_taken f (operations.StoreSymbol operation rs2 rt) t refl refl
part_row (operations.La rd) f rvc b e t = none_taken f (operations.La rd) t refl refl
part_row (operations.Call rd) f rvc b e t = none_taken f (operations.Call rd) t refl refl
part_row (operations.Jump rt) f rvc b e t = none_taken f (operations.Jump rt) t refl refl
part_row (operations.Parcel operation r s) f rvc b e t = none_taken f (operations.Parcel operation r s) t refl refl
part_row operations.JalLinked f rvc b e t = none_taken f operations.JalLinked t refl refl
part_row operations.J f rvc b e t = none_taken f operations.J t refl refl
part_row operations.CallLinked f rvc b e t = none_taken f operations.CallLinked t refl refl
part_row operations.Tail f rvc b e t = none_taken f operations.Tail t refl refl

made_of : (kind : StatementKind) (e : Expression) (forms : Option Forms) (b : ℕ) (F : ℕ → List Part)
    → ((c : Constants) (rvc : Bool) (size : ℕ) → lines.parts_by_size c rvc size kind ≡ Some (F size)) → AreOpen F forms b → OpenRow kind e forms b
made_of kind e forms b F rows are = record { F = F; rows = λ c rvc size none. rows c rvc size; are = are }

target_row : (o : Operation) (rvc : Bool) (b : ℕ) (e : Expression) → is_bad_scratch o ≡ false → is_written o ≡ true → takes_target o ≡ true → IsRowOf o None rvc b e
target_row (operations.Branch operation r s) rvc b e good written t =
    made_of _ e _ _ (λ n. branch n operation r s) (λ c rvc size. refl) (branch_open (rvc && is_short_branch operation r s) b operation r s (λ x. branch_short operation r s (and_parts rvc _ x).1))
target_row (operations.ZeroBranch Beqz r) rvc b e good written t =
    made_of _ e _ _ (λ n. branch n Beq r 0) (λ c rvc size. refl) (branch_open (rvc && is_short_register r) b Beq r 0 (λ x. beqz_short r 0 (short_line r (and_parts rvc _ x).1) refl))
target_row (operations.ZeroBranch Bnez r) rvc b e good written t =
    made_of _ e _ _ (λ n. branch n Bne r 0) (λ c rvc size. refl) (branch_open (rvc && is_short_register r) b Bne r 0 (λ x. bnez_short r 0 (short_line r (and_parts rvc _ x).1) refl))
target_row (operations.ZeroBranch Bgez r) rvc b e good written t = made_of _ e _ _ (λ n. branch n Bge r 0) (λ c rvc size. refl) (branch_open false b Bge r 0 not_short)
target_row (operations.ZeroBranch Bltz r) rvc b e good written t = made_of _ e _ _ (λ n. branch n Blt r 0) (λ c rvc size. refl) (branch_open false b Blt r 0 not_short)
target_row (operations.ZeroBranch Blez r) rvc b e good written t = made_of _ e _ _ (λ n. branch n Bge 0 r) (λ c rvc size. refl) (branch_open false b Bge 0 r not_short)
target_row (operations.ZeroBranch Bgtz r) rvc b e good written t = made_of _ e _ _ (λ n. branch n Blt 0 r) (λ c rvc size. refl) (branch_open false b Blt 0 r not_short)
target_row (operations.SwappedBranch Bgt r s) rvc b e good written t = made_of _ e _ _ (λ n. branch n Blt s r) (λ c rvc size. refl) (branch_open false b Blt s r not_short)
target_row (operations.SwappedBranch Ble r s) rvc b e good written t = made_of _ e _ _ (λ n. branch n Bge s r) (λ c rvc size. refl) (branch_open false b Bge s r not_short)
target_row (operations.SwappedBranch Bgtu r s) rvc b e good written t = made_of _ e _ _ (λ n. branch n Bltu s r) (λ c rvc size. refl) (branch_open false b Bltu s r not_short)
target_row (operations.SwappedBranch Bleu r s) rvc b e good written t = made_of _ e _ _ (λ n. branch n Bgeu s r) (λ c rvc size. refl) (branch_open false b Bgeu s r not_short)
target_row (operations.Jal rd) rvc b e good written t = made_of _ e _ _ (λ n. jump n rd) (λ c rvc size. refl) (jal_open (rd == 0) rd b rvc refl)
target_row operations.JalLinked rvc b e good written t = made_of _ e _ _ (λ n. jump n 1) (λ c rvc size. refl) (link_open 1 b refl)
target_row operations.J rvc b e good written t = made_of _ e _ _ (λ n. jump n 0) (λ c rvc size. refl) (jump_open rvc b)
target_row (operations.La rd) rvc b e good written t =
    made_of _ e _ _ (λ n. near rd kinds.PcrelLo12I (addi rd rd (pos 0))) (λ c rvc size. refl) (near_open rd kinds.PcrelLo12I (addi rd rd (pos 0)) b refl refl)
target_row (operations.LoadSymbol operation rd) rvc b e good written t =
    made_of _ e _ _ (λ n. near rd kinds.PcrelLo12I (of_load operation (i_type rd rd (pos 0)))) (λ c rvc size. through_is rd _ good)
    (near_open rd kinds.PcrelLo12I (of_load operation (i_type rd rd (pos 0))) b refl refl)
target_row (operations.StoreSymbol operation rs2 rt) rvc b e good written t =
    made_of _ e _ _ (λ n. near rt kinds.PcrelLo12S (of_store operation (s_type rs2 rt (pos 0))))
    (λ c rvc size. ap (λ x. if x then None else through rt (near rt kinds.PcrelLo12S (of_store operation (s_type rs2 rt (pos 0))))) (or_parts (rt == 0) _ good).1 ∙ through_is rt _ (or_parts (rt == 0) _ good).0)
    (near_open rt kinds.PcrelLo12S (of_store operation (s_type rs2 rt (pos 0))) b refl refl)
target_row (operations.Call rd) rvc b e good written t = made_of _ e _ _ (λ n. far n rd rd) (λ c rvc size. through_is rd _ good) (far_open rd rd)
target_row operations.CallLinked rvc b e good written t = made_of _ e _ _ (λ n. far n 1 1) (λ c rvc size. refl) (far_open 1 1)
target_row operations.Tail rvc b e good written t = made_of _ e _ _ (λ n. far n 0 6) (λ c rvc size. refl) (far_open 0 6)
target_row (operations.Jump rt) rvc b e good written t = made_of _ e _ _ (λ n. far n 0 rt) (λ c rvc size. through_is rt _ good) (far_open 0 rt)
target_row (operations.Parcel parcels.J r s) rvc b e good written t = made_of _ e _ _ (λ n. jump 2 0) (λ c rvc size. refl) (parcel_open kinds.RvcJump (jal 0) b refl refl jump_short)
target_row (operations.Parcel parcels.Beqz r s) rvc b e good written t =
    let short = short_in r written in
    made_of _ e _ _ (λ n. branch 2 Beq r 0) (λ c rvc size. short_is Beq r short)
    (parcel_open kinds.RvcBranch (of_branch Beq (b_type r 0 (pos 0))) b refl refl (beqz_short r 0 (in_line r short) refl))
target_row (operations.Parcel parcels.Bnez r s) rvc b e good written t =
    let short = short_in r written in
    made_of _ e _ _ (λ n. branch 2 Bne r 0) (λ c rvc size. short_is Bne r short)
    (parcel_open kinds.RvcBranch (of_branch Bne (b_type r 0 (pos 0))) b refl refl (bnez_short r 0 (in_line r short) refl))
target_row _ rvc b e good written t = absurd (cc)

pub open_row : (o : Operation) (f : Option Function) (rvc : Bool) (b : ℕ) (e : Expression) → (takes_target o ≡ true → is_bad_scratch o ≡ false) → (takes_target o ≡ true → is_written o ≡ true) → is_taken o f None ≡ true
    → IsRowOf o f rvc b e
open_row o None rvc b e good written taken = target_row o rvc b e (good taken) (written taken) taken
open_row o (Some f) rvc b e good written taken = part_row o f rvc b e taken
