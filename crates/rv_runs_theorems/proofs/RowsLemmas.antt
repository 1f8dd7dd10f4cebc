-- The shapes of the table's rows: what the code of a statement comes to where its fields are filled.

use Rattle.std.proofs.Common.{◌≡◌, ℕ, ◌+◌, ◌-◌, ◌*◌, ◌%◌, ◌^◌, ◌<◌, ◌≤◌, Bool, true, false, not, ◌&&◌, List, [], ◌∷◌, Option, Some, None, length, refl, sym, ap, ◌∙◌, subst, arith, ℤ, pos, negsuc}
use Rattle.std.specs.Prelude.{map, option_map, ◌==◌, nat_lt, if◌then◌else◌, bit_and, bit_xor, slice_index}
use Rattle.std.specs.List.{AllByRecursion}
use Rattle.std.proofs.lemmas.Bool.{eqb-true}
use Rattle.rv_list_laws.proofs.NumbersLemmas.{mod_below}
use Rattle.rv_isa.specs.Kinds.{is_low_part}
use Rattle.rv_isa.specs.declared.instruction.Inst.{Inst}
use Rattle.rv_isa.specs.declared.instruction.Inst.TheVariants as inst
use Rattle.rv_isa.specs.declared.instruction.BType.{BType}
use Rattle.rv_isa.specs.declared.kind.Kind.{Kind}
use Rattle.rv_isa.specs.declared.kind.Kind.TheVariants as kind
use Rattle.rv_isa.specs.declared.operation.BranchOperation.{BranchOperation}
use Rattle.rv_isa.specs.declared.operation.BranchOperation.TheVariants.{Beq, Bne, Blt, Bge, Bltu, Bgeu}
use Rattle.rv_isa.specs.Operations.{of_branch}
use Rattle.rv_isa.specs.Ranges.{IsValid}
use Rattle.rv_isa_laws.specs.Arithmetic.{wrapped, extended, low, one_if, sum_of, difference_of, word_difference, word_sum, less_signed, shifted_left, shifted_right, shifted_right_signed}
use Rattle.rv_isa_laws.specs.Hart.{Hart, register, with_register, advanced}
use Rattle.rv_isa_laws.specs.Effect.{Goes}
use Rattle.rv_isa_laws.specs.Kept.{InRange}
use Rattle.rv_isa_laws.specs.Meaning.{effect, sets, branches, jumps, with_result, is_taken}
use Rattle.rv_reloc_laws.specs.Operands.{with_value, branch_to}
use Rattle.rv_statement_laws.specs.declared.pseudo.UnaryOperation.{UnaryOperation}
use Rattle.rv_statement_laws.specs.declared.pseudo.UnaryOperation.TheVariants.{Mv, Not, Neg, Negw, SextB, SextH, SextW, ZextB, ZextH, ZextW, Seqz, Snez, Sltz, Sgtz}
use Rattle.rv_statement_laws.specs.declared.pseudo.CompareOperation.{CompareOperation}
use Rattle.rv_statement_laws.specs.declared.pseudo.CompareOperation.TheVariants.{Sgt, Sgtu}
use Rattle.rv_statement_laws.specs.declared.pseudo.ZeroBranchOperation.{ZeroBranchOperation}
use Rattle.rv_statement_laws.specs.declared.pseudo.ZeroBranchOperation.TheVariants.{Beqz, Bnez, Bgez, Bltz, Blez, Bgtz}
use Rattle.rv_statement_laws.specs.declared.pseudo.SwappedBranchOperation.{SwappedBranchOperation}
use Rattle.rv_statement_laws.specs.declared.pseudo.SwappedBranchOperation.TheVariants.{Bgt, Ble, Bgtu, Bleu}
use Rattle.rv_pseudo_laws.specs.Li.{addi, addiw, slli}
use Rattle.rv_pseudo_laws.specs.Code.{Part, Closed, Open, r_type, i_type, b_type, shift_by, jal, unary, compare, inverted, branch, jump, zero_branch, swapped_branch}
use Rattle.rv_pseudo_laws.specs.Filled.{FieldValue, filled, AreTaken}
use Rattle.rv_pseudo_laws.proofs.SequencesLemmas.{again, with_same, register_set}
use Rattle.rv_source_laws.specs.Lines.{distance, Line, Lie}
use Rattle.rv_source_laws.specs.Meaning.{unary_result, compare_result, zero_taken, swapped_taken, goes_if, alone_effect}
use Rattle.rv_runs_theorems.proofs.NumbersLemmas.{leads, complement, low_byte, none_below_one, some_above, signed_byte, signed_half, low_half, low_word}
use Rattle.rv_chain_laws.specs.Walks.{Ready, Does}
use Rattle.rv_runs_theorems.proofs.ShapesLemmas.{insts, one_line, two_lines, branch_effect, over_jump}

-- the row of a statement at an address: its lines are its parts with their fields filled
pub record Row (f : FieldValue) (address size : ℕ) (ps : List Part) (lines : List Line) : Type 0 where
  pub is : filled f address ps ≡ insts lines
  pub lie : Lie address lines (address + size)
  pub small : AllByRecursion (λ l. l.bytes ≤ 4) lines
  pub valid : AllByRecursion IsValid (insts lines)
  pub taken : AreTaken f address ps
  pub some : 0 < size
  pub below : address + size < 2 ^ 64

pub row_as : (f : FieldValue) (address size : ℕ) (ps qs : List Part) (lines : List Line) → Some qs ≡ Some ps → Row f address size ps lines → Row f address size qs lines
row_as f address size ps qs lines e r = let same : qs ≡ ps = cc in subst (λ x. Row f address size x lines) (sym same) r

pub valid_parts : (f : FieldValue) (address size : ℕ) (ps : List Part) (lines : List Line) → Row f address size ps lines → AllByRecursion IsValid (filled f address ps)
valid_parts f address size ps lines r = subst (λ is. AllByRecursion IsValid is) (sym r.is) r.valid

-- each field takes the distance to one target; a low part counts from the row's start
abbrev pub Leads : FieldValue → ℕ → ℕ → Type 0
Leads f address target = (k : Kind) (a : ℕ) → f k a ≡ distance (if is_low_part k then address else a) target

-- the statement sets a register, by as many instructions as it has
abbrev pub SetsTo : ℕ → (Hart → ℕ) → ℕ → ℕ → List Line → Type 0
SetsTo rd number address size lines = Does (λ h. sets size h rd (number h)) (λ h. length (insts lines)) address lines

-- ---- one instruction

pub row_alone : (f : FieldValue) (address size : ℕ) (ps : List Part) (lines : List Line) (said : Option Inst) → option_map (λ i. i ∷ []) said ≡ Some (filled f address ps)
    → Row f address size ps lines → Does (λ h. alone_effect said size h) (λ h. length (insts lines)) address lines
row_alone f address size ps lines None e r = absurd (cc)
row_alone f address size ps lines (Some i) e r =
    let same : i ∷ [] ≡ filled f address ps = cc in
    one_line i (λ h. effect i size h) address size lines (same ∙ r.is) r.lie (λ h k. refl)

-- ---- assignments

sets_same : (rd b : ℕ) (h : Hart) (x y : ℕ) → x % 2 ^ 64 ≡ y % 2 ^ 64 → sets b h rd x ≡ sets b h rd y
sets_same rd b h x y e = ap (λ v. Goes (advanced (with_register h rd v) b)) e

one_sets : (i : Inst) (rd : ℕ) (x z : Hart → ℕ) (address size : ℕ) (lines : List Line) → i ∷ [] ≡ insts lines → Lie address lines (address + size)
    → ((b : ℕ) (h : Hart) → effect i b h ≡ sets b h rd (x h)) → ((h : Hart) → InRange h → x h % 2 ^ 64 ≡ z h % 2 ^ 64) → SetsTo rd z address size lines
one_sets i rd x z address size lines e lie goes same =
    one_line i (λ h. sets size h rd (z h)) address size lines e lie (λ h r. goes size h ∙ sets_same rd size h (x h) (z h) (same h r.inside))

-- the second instruction makes a number of what the first has set
pub two_sets : (i j : Inst) (rd : ℕ) (x : Hart → ℕ) (y : ℕ → ℕ) (z : Hart → ℕ) (address size : ℕ) (lines : List Line)
    → i ∷ j ∷ [] ≡ insts lines → Lie address lines (address + size) → address + size < 2 ^ 64 → rd < 32 → ((h : Hart) → x h < 2 ^ 64)
    → ((b : ℕ) (h : Hart) → effect i b h ≡ sets b h rd (x h))
    → ((c : ℕ) (g : Hart) → effect j c g ≡ sets c g rd (y (register g rd)))
    → ((h : Hart) → Ready address h → y (x h) % 2 ^ 64 ≡ z h % 2 ^ 64) → SetsTo rd z address size lines
two_sets i j rd x y z address size lines e lie below few small first second same =
    two_lines i j rd x (λ h. sets size h rd (z h)) address size lines e lie below first
    (λ b c h r sum.
    let g = with_result b h rd (x h) in
    let whole = r.whole in
    let inside : rd < length h.registers = omega arith in
    second c g
    ∙ ap Goes (again rd b c h (x h) (y (register g rd)))
    ∙ ap (λ n. sets n h rd (y (register g rd))) sum
    ∙ ap Goes (with_same rd size h (y (register g rd)) (z h) (λ some. ap (λ u. y u % 2 ^ 64) (register_set rd b h (x h) some inside (small h)) ∙ same h r)))

below_if : (t : Bool) (x : ℕ) → x < 2 ^ 64 → (if t then 0 else x) < 2 ^ 64
below_if true x below = omega arith
below_if false x below = below

register_below : (h : Hart) (r : ℕ) → InRange h → register h r < 2 ^ 64
register_below h r all = below_if (r == 0) (slice_index h.registers r) (all r)

zero_and : (a : ℕ) → (0 + a) % 2 ^ 64 % 2 ^ 64 ≡ a % 2 ^ 64
zero_and a = omega arith

and_zero : (a : ℕ) → (a + 0) % 2 ^ 64 % 2 ^ 64 ≡ a % 2 ^ 64
and_zero a = omega arith

plus_zero : (a : ℕ) → a + 0 ≡ a
plus_zero a = omega arith

row_mv : (t : Bool) (rd rs : ℕ) (f : FieldValue) (address size : ℕ) (lines : List Line)
    → Row f address size (Closed (if t then inst.Add (r_type rd 0 rs) else addi rd rs (pos 0)) ∷ []) lines → SetsTo rd (λ h. register h rs) address size lines
row_mv true rd rs f address size lines r =
    one_sets (inst.Add (r_type rd 0 rs)) rd (λ h. sum_of 0 (register h rs)) (λ h. register h rs) address size lines r.is r.lie (λ b h. refl) (λ h k. zero_and (register h rs))
row_mv false rd rs f address size lines r =
    one_sets (addi rd rs (pos 0)) rd (λ h. sum_of (register h rs) 0) (λ h. register h rs) address size lines r.is r.lie (λ b h. refl) (λ h k. and_zero (register h rs))

-- two shifts by so many bits
row_shifts : (j : Inst) (amount rd rs : ℕ) (y z : ℕ → ℕ) (f : FieldValue) (address size : ℕ) (lines : List Line)
    → Row f address size (Closed (slli rd rs amount) ∷ Closed j ∷ []) lines
    → ((c : ℕ) (g : Hart) → effect j c g ≡ sets c g rd (y (register g rd)))
    → ((a : ℕ) → y (shifted_left a amount) ≡ z a) → SetsTo rd (λ h. z (register h rs)) address size lines
row_shifts j amount rd rs y z f address size lines r second made =
    two_sets (slli rd rs amount) j rd (λ h. shifted_left (register h rs) amount) y (λ h. z (register h rs)) address size lines r.is r.lie r.below
    (valid_parts f address size _ lines r).0.0 (λ h. mod_below (register h rs * 2 ^ (amount % 64))) (λ b h. refl) second
    (λ h k. ap (λ n. n % 2 ^ 64) (made (register h rs)))

pub row_unary : (rvc : Bool) (operation : UnaryOperation) (rd rs : ℕ) (f : FieldValue) (address size : ℕ) (lines : List Line)
    → Row f address size (map Closed (unary rvc operation rd rs)) lines → SetsTo rd (λ h. unary_result operation (register h rs)) address size lines
row_unary rvc Mv rd rs f address size lines r = row_mv (rvc && not (rd == 0) && not (rs == 0)) rd rs f address size lines r
row_unary rvc Not rd rs f address size lines r =
    one_sets (inst.Xori (i_type rd rs (negsuc 0))) rd (λ h. bit_xor (register h rs) (2 ^ 64 - 1)) (λ h. 2 ^ 64 - 1 - register h rs) address size lines r.is r.lie (λ b h. refl)
    (λ h k. ap (λ n. n % 2 ^ 64) (complement (register h rs) (register_below h rs k)))
row_unary rvc Neg rd rs f address size lines r =
    one_sets (inst.Sub (r_type rd 0 rs)) rd (λ h. difference_of 0 (register h rs)) (λ h. difference_of 0 (register h rs)) address size lines r.is r.lie (λ b h. refl) (λ h k. refl)
row_unary rvc Negw rd rs f address size lines r =
    one_sets (inst.Subw (r_type rd 0 rs)) rd (λ h. word_difference 0 (register h rs)) (λ h. word_difference 0 (register h rs)) address size lines r.is r.lie (λ b h. refl) (λ h k. refl)
row_unary rvc SextW rd rs f address size lines r =
    one_sets (addiw rd rs (pos 0)) rd (λ h. word_sum (register h rs) 0) (λ h. extended 32 (low (register h rs))) address size lines r.is r.lie (λ b h. refl)
    (λ h k. ap (λ n. extended 32 (low n) % 2 ^ 64) (plus_zero (register h rs)))
row_unary rvc ZextB rd rs f address size lines r =
    one_sets (inst.Andi (i_type rd rs (pos 255))) rd (λ h. bit_and (register h rs) 255) (λ h. register h rs % 2 ^ 8) address size lines r.is r.lie (λ b h. refl)
    (λ h k. ap (λ n. n % 2 ^ 64) (low_byte (register h rs)))
row_unary rvc SextB rd rs f address size lines r =
    row_shifts (inst.Srai (shift_by rd rd 56)) 56 rd rs (λ u. shifted_right_signed u 56) (λ a. extended 8 (a % 2 ^ 8)) f address size lines r (λ c g. refl) signed_byte
row_unary rvc SextH rd rs f address size lines r =
    row_shifts (inst.Srai (shift_by rd rd 48)) 48 rd rs (λ u. shifted_right_signed u 48) (λ a. extended 16 (a % 2 ^ 16)) f address size lines r (λ c g. refl) signed_half
row_unary rvc ZextH rd rs f address size lines r =
    row_shifts (inst.Srli (shift_by rd rd 48)) 48 rd rs (λ u. shifted_right u 48) (λ a. a % 2 ^ 16) f address size lines r (λ c g. refl) low_half
row_unary rvc ZextW rd rs f address size lines r =
    row_shifts (inst.Srli (shift_by rd rd 32)) 32 rd rs (λ u. shifted_right u 32) (λ a. a % 2 ^ 32) f address size lines r (λ c g. refl) low_word
row_unary rvc Seqz rd rs f address size lines r =
    one_sets (inst.Sltiu (i_type rd rs (pos 1))) rd (λ h. one_if (nat_lt (register h rs) 1)) (λ h. one_if (register h rs == 0)) address size lines r.is r.lie (λ b h. refl)
    (λ h k. ap (λ t. one_if t % 2 ^ 64) (none_below_one (register h rs)))
row_unary rvc Snez rd rs f address size lines r =
    one_sets (inst.Sltu (r_type rd 0 rs)) rd (λ h. one_if (nat_lt 0 (register h rs))) (λ h. one_if (not (register h rs == 0))) address size lines r.is r.lie (λ b h. refl)
    (λ h k. ap (λ t. one_if t % 2 ^ 64) (some_above (register h rs)))
row_unary rvc Sltz rd rs f address size lines r =
    one_sets (inst.Slt (r_type rd rs 0)) rd (λ h. one_if (less_signed (register h rs) 0)) (λ h. one_if (less_signed (register h rs) 0)) address size lines r.is r.lie (λ b h. refl) (λ h k. refl)
row_unary rvc Sgtz rd rs f address size lines r =
    one_sets (inst.Slt (r_type rd 0 rs)) rd (λ h. one_if (less_signed 0 (register h rs))) (λ h. one_if (less_signed 0 (register h rs))) address size lines r.is r.lie (λ b h. refl) (λ h k. refl)

pub row_compare : (operation : CompareOperation) (rd a b : ℕ) (f : FieldValue) (address size : ℕ) (lines : List Line)
    → Row f address size (Closed (compare operation rd a b) ∷ []) lines → SetsTo rd (λ h. compare_result operation (register h a) (register h b)) address size lines
row_compare Sgt rd a b f address size lines r =
    one_sets (compare Sgt rd a b) rd (λ h. compare_result Sgt (register h a) (register h b)) _ address size lines r.is r.lie (λ c h. refl) (λ h k. refl)
row_compare Sgtu rd a b f address size lines r =
    one_sets (compare Sgtu rd a b) rd (λ h. compare_result Sgtu (register h a) (register h b)) _ address size lines r.is r.lie (λ c h. refl) (λ h k. refl)

-- ---- jumps and branches

jump_target : (h : Hart) (address target : ℕ) (v : ℤ) → h.pc ≡ address → address < 2 ^ 64 → v ≡ distance address target → (h.pc + wrapped v) % 2 ^ 64 ≡ target % 2 ^ 64
jump_target h address target v at below e =
    ap (λ n. (n + wrapped v) % 2 ^ 64) at ∙ ap (λ z. (address + wrapped z) % 2 ^ 64) e ∙ leads address target below

jump_line : (v : ℤ) (rd target address size : ℕ) (lines : List Line) → inst.Jal (record { offset = v; rd = rd }) ∷ [] ≡ insts lines → Lie address lines (address + size)
    → address + size < 2 ^ 64 → v ≡ distance address target → Does (λ h. jumps size h rd target) (λ h. length (insts lines)) address lines
jump_line v rd target address size lines e lie below same =
    one_line (inst.Jal (record { offset = v; rd = rd })) (λ h. jumps size h rd target) address size lines e lie
    (λ h r. ap (λ n. Goes (record (with_register h rd ((h.pc + size) % 2 ^ 64)) { pc = n })) (jump_target h address target v r.at (omega arith) same))

jump_by : (t : Bool) (rd target : ℕ) (f : FieldValue) (address size : ℕ) (lines : List Line) → Row f address size (Open (if t then kind.RvcJump else kind.Jal) (jal rd) ∷ []) lines
    → Leads f address target → Does (λ h. jumps size h rd target) (λ h. length (insts lines)) address lines
jump_by true rd target f address size lines r to = jump_line (f kind.RvcJump address) rd target address size lines r.is r.lie r.below (to kind.RvcJump address)
jump_by false rd target f address size lines r to = jump_line (f kind.Jal address) rd target address size lines r.is r.lie r.below (to kind.Jal address)

pub row_jump : (rd target : ℕ) (f : FieldValue) (address size : ℕ) (lines : List Line) → Row f address size (jump size rd) lines
    → Leads f address target → Does (λ h. jumps size h rd target) (λ h. length (insts lines)) address lines
row_jump rd target f address size lines r to = jump_by ((rd == 0) && (size == 2)) rd target f address size lines r to

pub branch_with : (operation : BranchOperation) (x : BType) (v : ℤ) → with_value v (of_branch operation x) ≡ of_branch operation (branch_to x v)
branch_with Beq x v = refl
branch_with Bne x v = refl
branch_with Blt x v = refl
branch_with Bge x v = refl
branch_with Bltu x v = refl
branch_with Bgeu x v = refl

branch_goes : (t : Bool) (v : ℤ) (target address size : ℕ) (h : Hart) → h.pc ≡ address → address < 2 ^ 64 → v ≡ distance address target
    → branches size h (b_type 0 0 v) t ≡ goes_if t target size h
branch_goes true v target address size h at below e = ap (λ n. Goes (record h { pc = n })) (jump_target h address target v at below e)
branch_goes false v target address size h at below e = refl

branch_line : (v : ℤ) (operation : BranchOperation) (a b target address size : ℕ) (lines : List Line) → with_value v (of_branch operation (b_type a b (pos 0))) ∷ [] ≡ insts lines
    → Lie address lines (address + size) → address + size < 2 ^ 64 → v ≡ distance address target
    → Does (λ h. goes_if (is_taken operation (register h a) (register h b)) target size h) (λ h. length (insts lines)) address lines
branch_line v operation a b target address size lines e lie below same =
    one_line (with_value v (of_branch operation (b_type a b (pos 0)))) (λ h. goes_if (is_taken operation (register h a) (register h b)) target size h) address size lines e lie
    (λ h r. ap (λ i. effect i size h) (branch_with operation (b_type a b (pos 0)) v)
    ∙ branch_effect operation (b_type a b v) size h
    ∙ branch_goes (is_taken operation (register h a) (register h b)) v target address size h r.at (omega arith) same)

branch_by : (u w : Bool) (operation : BranchOperation) (a b target : ℕ) (f : FieldValue) (address size : ℕ) (lines : List Line)
    → (size == 2) ≡ u → (size == 8) ≡ w
    → Row f address size (if u then Open kind.RvcBranch (of_branch operation (b_type a b (pos 0))) ∷ []
    else if w then Closed (of_branch (inverted operation) (b_type a b (pos 8))) ∷ Open kind.Jal (jal 0) ∷ []
    else Open kind.Branch (of_branch operation (b_type a b (pos 0))) ∷ []) lines
    → Leads f address target
    → Does (λ h. goes_if (is_taken operation (register h a) (register h b)) target size h)
    (λ h. if w && not (is_taken operation (register h a) (register h b)) then 1 else length (insts lines)) address lines
branch_by true true operation a b target f address size lines two eight r to =
    let s = eqb-true size 2 two in let t = eqb-true size 8 eight in absurd (omega arith)
branch_by true false operation a b target f address size lines two eight r to =
    branch_line (f kind.RvcBranch address) operation a b target address size lines r.is r.lie r.below (to kind.RvcBranch address)
branch_by false true operation a b target f address size lines two eight r to =
    let t : size ≡ 8 = eqb-true size 8 eight in
    subst (λ n. Does (λ h. goes_if (is_taken operation (register h a) (register h b)) target n h)
    (λ h. if not (is_taken operation (register h a) (register h b)) then 1 else length (insts lines)) address lines) (sym t)
    (over_jump operation a b (f kind.Jal (address + 4)) target address lines r.is (subst (λ n. Lie address lines (address + n)) t r.lie) r.small
    (subst (λ n. address + n < 2 ^ 64) t r.below) (to kind.Jal (address + 4)))
branch_by false false operation a b target f address size lines two eight r to =
    branch_line (f kind.Branch address) operation a b target address size lines r.is r.lie r.below (to kind.Branch address)

-- a branch, whether it is taken or not
abbrev pub Branches : (Hart → Bool) → ℕ → ℕ → ℕ → List Line → Type 0
Branches test target address size lines =
    Does (λ h. goes_if (test h) target size h) (λ h. if (size == 8) && not (test h) then 1 else length (insts lines)) address lines

pub row_branch : (operation : BranchOperation) (a b target : ℕ) (f : FieldValue) (address size : ℕ) (lines : List Line) → Row f address size (branch size operation a b) lines
    → Leads f address target → Branches (λ h. is_taken operation (register h a) (register h b)) target address size lines
row_branch operation a b target f address size lines r to = branch_by (size == 2) (size == 8) operation a b target f address size lines refl refl r to

pub row_zero_branch : (operation : ZeroBranchOperation) (a target : ℕ) (f : FieldValue) (address size : ℕ) (lines : List Line) → Row f address size (zero_branch size operation a) lines
    → Leads f address target → Branches (λ h. zero_taken operation (register h a)) target address size lines
row_zero_branch Beqz a target f address size lines r to = row_branch Beq a 0 target f address size lines r to
row_zero_branch Bnez a target f address size lines r to = row_branch Bne a 0 target f address size lines r to
row_zero_branch Bgez a target f address size lines r to = row_branch Bge a 0 target f address size lines r to
row_zero_branch Bltz a target f address size lines r to = row_branch Blt a 0 target f address size lines r to
row_zero_branch Blez a target f address size lines r to = row_branch Bge 0 a target f address size lines r to
row_zero_branch Bgtz a target f address size lines r to = row_branch Blt 0 a target f address size lines r to

pub row_swapped_branch : (operation : SwappedBranchOperation) (a b target : ℕ) (f : FieldValue) (address size : ℕ) (lines : List Line) → Row f address size (swapped_branch size operation a b) lines
    → Leads f address target → Branches (λ h. swapped_taken operation (register h a) (register h b)) target address size lines
row_swapped_branch Bgt a b target f address size lines r to = row_branch Blt b a target f address size lines r to
row_swapped_branch Ble a b target f address size lines r to = row_branch Bge b a target f address size lines r to
row_swapped_branch Bgtu a b target f address size lines r to = row_branch Bltu b a target f address size lines r to
row_swapped_branch Bleu a b target f address size lines r to = row_branch Bgeu b a target f address size lines r to
