-- Each row of the table of code: its lines come to what the statement means, and count what it costs.

use Rattle.std.proofs.Common.{◌≡◌, ℕ, Bool, true, false, ◌&&◌, List, [], ◌∷◌, Option, Some, None, length, refl, sym, ap, ◌∙◌, subst, ℤ}
use Rattle.std.specs.Prelude.{map, ◌==◌, if◌then◌else◌, option_map}
use Rattle.rv_isa_laws.specs.Arithmetic.{wrapped, signed}
use Rattle.rv_isa_laws.specs.Halves.{lo}
use Rattle.rv_isa_laws.specs.Hart.{Hart, register}
use Rattle.rv_isa_laws.specs.Effect.{Effect}
use Rattle.rv_statement_laws.specs.declared.mnemonic.Mnemonic.{Mnemonic}
use Rattle.rv_statement_laws.specs.declared.mnemonic.Mnemonic.TheVariants.{Load, Store, Branch, Unary, Compare, ZeroBranch, SwappedBranch, La, Li, Call, Tail, Jump}
use Rattle.rv_statement_laws.specs.declared.pseudo.Function.TheVariants.{Lo}
use Rattle.rv_statement_laws.specs.Statement.{Operand, Register, Value, Applied, Target, Expression}
use Rattle.rv_pseudo_laws.specs.Li.{is_signed, li}
use Rattle.rv_pseudo_laws.specs.Code.{Part, Closed, Constants, constant_number, through, code}
use Rattle.rv_pseudo_laws.specs.Filled.{FieldValue}
use Rattle.rv_source_laws.specs.Lines.{Line, other_operand, operand_number, operand_gives}
use Rattle.rv_source_laws.specs.Meaning.{taken, pseudo_effect, one_instruction, else_alone, else_goes_if, is_passed, signed_operand}
use Rattle.rv_chain_laws.specs.Walks.{Does}
use Rattle.rv_runs_theorems.proofs.ShapesLemmas.{insts, does_as}
use Rattle.rv_runs_theorems.proofs.RowsLemmas.{Row, row_as, valid_parts, Leads, SetsTo, row_alone, row_unary, row_compare, row_branch, row_zero_branch, row_swapped_branch}
use Rattle.rv_runs_theorems.proofs.SpelledLemmas.{TakesOperand, said_of, said_code}
use Rattle.rv_runs_theorems.proofs.PairsLemmas.{row_near, row_load, row_store, row_call, row_far}
use Rattle.rv_runs_theorems.proofs.LoadImmediateLemmas.{row_li, signed_fits, low_fits}

-- ---- by operands

pub unpassed : (t : Bool) (n : ℕ) → n ≡ (if t && false then 1 else n)
unpassed true n = refl
unpassed false n = refl

-- the cost of what is no branch
unbranched : (meant : Hart → Effect) (address size : ℕ) (lines : List Line) → Does meant (λ h. length (insts lines)) address lines
    → Does meant (λ h. if (size == 8) && false then 1 else length (insts lines)) address lines
unbranched meant address size lines d =
    does_as meant meant (λ h. length (insts lines)) (λ h. if (size == 8) && false then 1 else length (insts lines)) address lines d (λ h r. refl) (λ h. unpassed (size == 8) (length (insts lines)))

record ByRegister (register : ℕ) (qs ps : List Part) : Type 0 where
  some : (register == 0) ≡ false
  same : Some qs ≡ Some ps

by_register : (register : ℕ) (qs ps : List Part) → through register qs ≡ Some ps → ByRegister register qs ps
by_register register qs ps e = by (register == 0) refl e
  where
    by : (t : Bool) → (register == 0) ≡ t → (if t then None else Some qs) ≡ Some ps → ByRegister register qs ps
    by true is e = absurd (cc)
    by false is e = record { some = is; same = e }

record ByOther (first second : ℕ) (o : Option (List Part)) (ps : List Part) : Type 0 where
  other : (first == second) ≡ false
  same : o ≡ Some ps

by_other : (first second : ℕ) (o : Option (List Part)) (ps : List Part) → (if first == second then None else o) ≡ Some ps → ByOther first second o ps
by_other first second o ps e = by (first == second) refl e
  where
    by : (t : Bool) → (first == second) ≡ t → (if t then None else o) ≡ Some ps → ByOther first second o ps
    by true is e = absurd (cc)
    by false is e = record { other = is; same = e }

-- the number of `li`
record IsNumber (v : Expression → ℕ) (operand : Operand) (k : ℤ) : Type 0 where
  fits : is_signed 64 k ≡ true
  is : wrapped k ≡ signed_operand v operand

value_number : (v : Expression → ℕ) (c : Constants) (e : Expression) (k : ℤ) → ((e : Expression) (k : ℤ) → c e ≡ Some k → k ≡ signed 64 (v e)) → c e ≡ Some k → IsNumber v (Value e) k
value_number v c e k known s =
    let same = known e k s in
    record { fits = ap (is_signed 64) same ∙ signed_fits (v e); is = ap wrapped same }

low_number : (v : Expression → ℕ) (c : Constants) (e : Expression) (k : ℤ) (o : Option ℤ) → ((e : Expression) (k : ℤ) → c e ≡ Some k → k ≡ signed 64 (v e)) → c e ≡ o → option_map lo o ≡ Some k
    → IsNumber v (Applied Lo e) k
low_number v c e k None known s t = absurd (cc)
low_number v c e k (Some n) known s t =
    let part : lo n ≡ k = cc in
    let same : k ≡ lo (signed 64 (v e)) = sym part ∙ ap lo (known e n s) in
    record { fits = ap (is_signed 64) same ∙ low_fits (signed 64 (v e)); is = ap wrapped same }

number_is : (v : Expression → ℕ) (c : Constants) (operand : Operand) (k : ℤ) → ((e : Expression) (k : ℤ) → c e ≡ Some k → k ≡ signed 64 (v e)) → constant_number c operand ≡ Some k → IsNumber v operand k
number_is v c (Value e) k known s = value_number v c e k known s
number_is v c (Applied Lo e) k known s = low_number v c e k (c e) known refl s
number_is v c operand k known s = absurd (cc)

load_immediate : (v : Expression → ℕ) (c : Constants) (operand : Operand) (o : Option ℤ) (rd : ℕ) (f : FieldValue) (address size : ℕ) (ps : List Part) (lines : List Line)
    → ((e : Expression) (k : ℤ) → c e ≡ Some k → k ≡ signed 64 (v e)) → constant_number c operand ≡ o → option_map (λ k. map Closed (li rd k)) o ≡ Some ps
    → Row f address size ps lines → SetsTo rd (λ h. signed_operand v operand) address size lines
load_immediate v c operand None rd f address size ps lines known e same r = absurd (cc)
load_immediate v c operand (Some k) rd f address size ps lines known e same r =
    let n = number_is v c operand k known e in
    subst (λ x. SetsTo rd (λ h. x) address size lines) n.is (row_li rd k f address size lines n.fits (row_as f address size ps (map Closed (li rd k)) lines same r))

-- ---- all rows

-- what the lines of a statement come to, by the numbers and addresses of its expressions
abbrev pub Comes : (Expression → ℕ) → (Option Operand → ℤ) → Mnemonic → List Operand → ℕ → ℕ → List Line → Type 0
Comes v given mnemonic operands address size lines =
    Does (λ h. else_goes_if (taken mnemonic operands h) (operand_number v (other_operand operands)) size h (else_alone (pseudo_effect v mnemonic operands size h) (one_instruction given mnemonic operands) size h))
    (λ h. if (size == 8) && is_passed (taken mnemonic operands h) then 1 else length (insts lines)) address lines

pub comes : (v : Expression → ℕ) (pair : Expression → ℤ) (c : Constants) (f : FieldValue) (rvc : Bool) (mnemonic : Mnemonic) (operands : List Operand) (address size : ℕ) (ps : List Part) (lines : List Line)
    → code c rvc size mnemonic operands ≡ Some ps → Row f address size ps lines
    → ((e : Expression) → other_operand operands ≡ Some (Target e) → Leads f address (v e))
    → ((e : Expression) (k : ℤ) → c e ≡ Some k → k ≡ signed 64 (v e))
    → TakesOperand v pair f address (other_operand operands)
    → Comes v (operand_gives v pair address) mnemonic operands address size lines
comes v pair c f rvc (Load operation) (Register rd ∷ Target e ∷ []) address size ps lines is r to known takes =
    let b = by_register rd _ ps is in
    unbranched _ address size lines (row_load operation rd (v e) f address size lines b.some (row_as f address size ps _ lines b.same r) (to e refl))
comes v pair c f rvc (Store operation) (Register rs2 ∷ Target e ∷ Register rt ∷ []) address size ps lines is r to known takes =
    let o = by_other rt rs2 _ ps is in
    let b = by_register rt _ ps o.same in
    unbranched _ address size lines (row_store operation rs2 rt (v e) f address size lines o.other b.some (row_as f address size ps _ lines b.same r) (to e refl))
comes v pair c f rvc (Branch operation) (Register a ∷ Register b ∷ Target e ∷ []) address size ps lines is r to known takes =
    row_branch operation a b (v e) f address size lines (row_as f address size ps _ lines is r) (to e refl)
comes v pair c f rvc (ZeroBranch operation) (Register a ∷ Target e ∷ []) address size ps lines is r to known takes =
    row_zero_branch operation a (v e) f address size lines (row_as f address size ps _ lines is r) (to e refl)
comes v pair c f rvc (SwappedBranch operation) (Register a ∷ Register b ∷ Target e ∷ []) address size ps lines is r to known takes =
    row_swapped_branch operation a b (v e) f address size lines (row_as f address size ps _ lines is r) (to e refl)
comes v pair c f rvc (Unary operation) (Register rd ∷ Register rs ∷ []) address size ps lines is r to known takes =
    unbranched _ address size lines (row_unary rvc operation rd rs f address size lines (row_as f address size ps _ lines is r))
comes v pair c f rvc (Compare operation) (Register rd ∷ Register a ∷ Register b ∷ []) address size ps lines is r to known takes =
    unbranched _ address size lines (row_compare operation rd a b f address size lines (row_as f address size ps _ lines is r))
comes v pair c f rvc La (Register rd ∷ Target e ∷ []) address size ps lines is r to known takes =
    unbranched _ address size lines (row_near rd (v e) f address size lines (row_as f address size ps _ lines is r) (to e refl))
comes v pair c f rvc Li (Register rd ∷ o ∷ []) address size ps lines is r to known takes =
    unbranched _ address size lines (load_immediate v c o (constant_number c o) rd f address size ps lines known refl is r)
comes v pair c f rvc Call (Register rd ∷ Target e ∷ []) address size ps lines is r to known takes =
    let b = by_register rd _ ps is in
    unbranched _ address size lines (row_call rd (v e) f address size lines b.some (row_as f address size ps _ lines b.same r) (to e refl))
comes v pair c f rvc Call (Target e ∷ []) address size ps lines is r to known takes =
    unbranched _ address size lines (row_call 1 (v e) f address size lines refl (row_as f address size ps _ lines is r) (to e refl))
comes v pair c f rvc Tail (Target e ∷ []) address size ps lines is r to known takes =
    unbranched _ address size lines (row_far 6 (v e) f address size lines refl (row_as f address size ps _ lines is r) (to e refl))
comes v pair c f rvc Jump (Target e ∷ Register rt ∷ []) address size ps lines is r to known takes =
    let b = by_register rt _ ps is in
    unbranched _ address size lines (row_far rt (v e) f address size lines b.some (row_as f address size ps _ lines b.same r) (to e refl))
comes v pair c f rvc (Branch operation) operands address size ps lines is r to known takes = absurd (cc)
comes v pair c f rvc (ZeroBranch operation) operands address size ps lines is r to known takes = absurd (cc)
comes v pair c f rvc (SwappedBranch operation) operands address size ps lines is r to known takes = absurd (cc)
comes v pair c f rvc (Unary operation) operands address size ps lines is r to known takes = absurd (cc)
comes v pair c f rvc (Compare operation) operands address size ps lines is r to known takes = absurd (cc)
comes v pair c f rvc La operands address size ps lines is r to known takes = absurd (cc)
comes v pair c f rvc Li operands address size ps lines is r to known takes = absurd (cc)
comes v pair c f rvc Call operands address size ps lines is r to known takes = absurd (cc)
comes v pair c f rvc Tail operands address size ps lines is r to known takes = absurd (cc)
comes v pair c f rvc Jump operands address size ps lines is r to known takes = absurd (cc)
comes v pair c f rvc mnemonic operands address size ps lines is r to known takes =
    unbranched _ address size lines (row_alone f address size ps lines (one_instruction (operand_gives v pair address) mnemonic operands)
    (said_of f address (one_instruction (operand_gives v pair address) mnemonic operands) (code c rvc size mnemonic operands) ps is
    (said_code v pair c f address known rvc size mnemonic operands tt takes) (valid_parts f address size ps lines r)) r)
