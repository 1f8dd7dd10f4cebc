-- The form that a mnemonic is has operands that a form may have, and is no HINT.

use Rattle.std.proofs.Common.{◌≡◌, ◌≢◌, ℕ, ◌%◌, ◌^◌, ◌<◌, ◌≤◌, Bool, true, false, not, ◌&&◌, refl, sym, ap, subst, inl, inr, arith, ℤ, pos, negsuc, ◌≤ℤ◌, unsigned_abs, List, [], ◌∷◌, Option, Some, None, option_map}
use Rattle.std.specs.Prelude.{◌||◌, ◌==◌, ⊤, if◌then◌else◌}
use Rattle.std.proofs.lemmas.Int.{ints}
use Rattle.std.proofs.lemmas.Bool.Decides.{nat_tests}
use Rattle.rv_list_laws.proofs.TruthLemmas.{and_first}
use Rattle.rv_isa.specs.Ranges.{IsReg}
use Rattle.rv_isa_laws.specs.Arithmetic.{wrapped}
use Rattle.rv_parcel.specs.declared.form.Compressed.{Compressed}
use Rattle.rv_parcel.specs.declared.parcel.ParcelOperation.{ParcelOperation}
use Rattle.rv_parcel.specs.declared.parcel.ParcelOperation.TheVariants.{Addi4spn, Lw, Ld, Sw, Sd, Nop, Addi, Addiw, Li, Addi16sp, Lui, Srli, Srai, Andi, Sub, Xor, Or, And, Subw, Addw, J, Beqz, Bnez, Slli, Lwsp, Ldsp, Jr, Mv, Ebreak, Jalr, Add, Swsp, Sdsp}
use Rattle.rv_parcel.specs.declared.parcel.OperandShape.{OperandShape}
use Rattle.rv_parcel.specs.declared.parcel.OperandShape.TheVariants as shapes
use Rattle.rv_parcel.specs.declared.parcel.RegisterSet.{RegisterSet}
use Rattle.rv_parcel.specs.declared.parcel.RegisterSet.TheVariants.{Any, Nonzero, Short, Stack, Upper}
use Rattle.rv_parcel.specs.Mnemonics.{is_of_set, register_sets, are_in, shape_of, is_between, is_multiple, is_zero, takes_number, form_with, form_of}
use Rattle.rv_parcel.specs.Parcel.{IsShort, IsNonzero, IsMultiple, IsSixBits, IsStackStep, IsUpper, IsLine, IsNoHint, expansion}
use Rattle.rv_statement_laws.specs.declared.mnemonic.Mnemonic.{Mnemonic}
use Rattle.rv_statement_laws.specs.declared.mnemonic.Mnemonic.TheVariants.{Parcel}
use Rattle.rv_statement_laws.specs.Statement.{Operand, Register, Target}
use Rattle.rv_pseudo_laws.specs.Code.{Closed, Constants, constant_number, by_form, parcel_form, named_form, code}

-- ---- registers of a set

abbrev IsIn : RegisterSet → ℕ → Type 0
IsIn Any r = IsReg r
IsIn Nonzero r = IsNonzero r
IsIn Short r = IsShort r
IsIn Stack r = r ≡ 2
IsIn Upper r = IsNonzero r × (r ≢ 2)

abbrev AreIn : List RegisterSet → List ℕ → Type 0
AreIn (set ∷ sets) (r ∷ rs) = IsIn set r × AreIn sets rs
AreIn _ _ = ⊤

one_in : (set : RegisterSet) (r : ℕ) → is_of_set set r ≡ true → IsIn set r
one_in Any r e = grind (arith, nat_tests)
one_in Nonzero r e = grind (arith, nat_tests)
one_in Short r e = grind (arith, nat_tests)
one_in Stack r e = grind (arith, nat_tests)
one_in Upper r e = grind (arith, nat_tests)

pub second_of : (a b : Bool) → (a && b) ≡ true → b ≡ true
second_of true b e = e
second_of false b e = absurd (cc)

each_in : (sets : List RegisterSet) (rs : List ℕ) → are_in sets rs ≡ true → AreIn sets rs
each_in [] rs e = tt
each_in (set ∷ sets) [] e = tt
each_in (set ∷ sets) (r ∷ rs) e =
    (one_in set r (and_first (is_of_set set r) (are_in sets rs) e), each_in sets rs (second_of (is_of_set set r) (are_in sets rs) e))

-- ---- numbers of a field

between : (low high k : ℤ) → is_between low high k ≡ true → (low ≤ℤ k) × (k ≤ℤ high)
between low high k e = grind (arith, ints)

not_zero : (k : ℤ) → not (is_zero k) ≡ true → k ≢ pos 0
not_zero (pos n) e = λ same. grind (arith, nat_tests)
not_zero (negsuc n) e = λ same. absurd (cc)

zero_only : (k : ℤ) → is_zero k ≡ true → k ≡ pos 0
zero_only (pos n) e = grind (arith, nat_tests)
zero_only (negsuc n) e = absurd (grind (arith, nat_tests))

-- a number in a range of whole numbers is its bits
within : (low high : ℕ) (k : ℤ) → high < 2 ^ 64 → is_between (pos low) (pos high) k ≡ true → (low ≤ wrapped k) × (wrapped k ≤ high)
within low high (pos n) small e = grind (arith, ints, nat_tests)
within low high (negsuc n) small e = absurd (cc)

multiple : (unit limit : ℕ) (k : ℤ) → limit < 2 ^ 64 → is_multiple unit limit k ≡ true → IsMultiple unit limit (wrapped k)
multiple unit limit (pos n) small e = grind (arith, ints, nat_tests)
multiple unit limit (negsuc n) small e = absurd (cc)

-- a number of a multiple's range that is not 0
multiple_above : (unit limit : ℕ) (k : ℤ) → limit < 2 ^ 64 → is_multiple unit limit k ≡ true → not (is_zero k) ≡ true → 0 < wrapped k
multiple_above unit limit (pos n) small e f = grind (arith, ints, nat_tests)
multiple_above unit limit (negsuc n) small e f = absurd (cc)

divided : (k : ℤ) → (unsigned_abs k % 16 == 0) ≡ true → unsigned_abs k % 16 ≡ 0
divided k e = grind (arith, nat_tests)

upper_by : (low : Bool) (k : ℤ) → is_between (pos 1) (pos 31) k ≡ low → (low || is_between (pos 0xfffe0) (pos 0xfffff) k) ≡ true → IsUpper (wrapped k)
upper_by true k e f = let it = within 1 31 k (omega arith) e in inl (omega arith, omega arith)
upper_by false k e f = let it = within 0xfffe0 0xfffff k (omega arith) f in inr (omega arith, omega arith)

upper : (k : ℤ) → takes_number Lui k ≡ true → IsUpper (wrapped k)
upper k e = upper_by (is_between (pos 1) (pos 31) k) k refl e

stack_address : (k : ℤ) → takes_number Addi4spn k ≡ true → IsMultiple 4 1024 (wrapped k) × (0 < wrapped k)
stack_address k e =
    let unit = and_first (is_multiple 4 1024 k) (not (is_zero k)) e in
    let above = second_of (is_multiple 4 1024 k) (not (is_zero k)) e in
    (multiple 4 1024 k (omega arith) unit, multiple_above 4 1024 k (omega arith) unit above)

stack_step : (k : ℤ) → takes_number Addi16sp k ≡ true → IsStackStep k
stack_step k e =
    let range = is_between (negsuc 511) (pos 511) k in
    let unit = unsigned_abs k % 16 == 0 in
    let both = and_first (range && unit) (not (is_zero k)) e in
    let near = between (negsuc 511) (pos 511) k (and_first range unit both) in
    (near.0, near.1, divided k (second_of range unit both), not_zero k (second_of (range && unit) (not (is_zero k)) e))

six_bits : (k : ℤ) → is_between (negsuc 31) (pos 31) k ≡ true → IsSixBits k
six_bits k e = between (negsuc 31) (pos 31) k e

amount : (k : ℤ) → is_between (pos 1) (pos 63) k ≡ true → (0 < wrapped k) × (wrapped k < 64)
amount k e = let it = within 1 63 k (omega arith) e in (omega arith, omega arith)

-- ---- forms

-- operands that a form may have, and no HINT
abbrev IsWritten : Option Compressed → Type 0
IsWritten None = ⊤
IsWritten (Some form) = IsLine form × IsNoHint form

-- each row, by the registers and the number that it takes
row_written : (operation : ParcelOperation) (rs : List ℕ) (k : ℤ) → AreIn (register_sets operation) rs → takes_number operation k ≡ true
    → IsWritten (option_map (λ make. make k) (form_with operation rs))
row_written Addi4spn (rd ∷ sp ∷ []) k r e = ((r.0, (stack_address k e).0, (stack_address k e).1), tt)
row_written Lw (rd ∷ rs1 ∷ []) k r e = ((r.0, r.1.0, multiple 4 128 k (omega arith) e), tt)
row_written Ld (rd ∷ rs1 ∷ []) k r e = ((r.0, r.1.0, multiple 8 256 k (omega arith) e), tt)
row_written Sw (rs2 ∷ rs1 ∷ []) k r e = ((r.1.0, r.0, multiple 4 128 k (omega arith) e), tt)
row_written Sd (rs2 ∷ rs1 ∷ []) k r e = ((r.1.0, r.0, multiple 8 256 k (omega arith) e), tt)
row_written Nop [] k r e = (subst IsSixBits (sym (zero_only k e)) (omega (arith, ints), omega (arith, ints)), zero_only k e)
row_written Addi (rd ∷ []) k r e =
    let range = is_between (negsuc 31) (pos 31) k in
    ((r.0, six_bits k (and_first range (not (is_zero k)) e)), not_zero k (second_of range (not (is_zero k)) e))
row_written Addiw (rd ∷ []) k r e = ((r.0, six_bits k e), tt)
row_written Li (rd ∷ []) k r e = ((r.0.1, six_bits k e), r.0.0)
row_written Addi16sp (sp ∷ []) k r e = (stack_step k e, tt)
row_written Lui (rd ∷ []) k r e = ((r.0.0.1, r.0.1, upper k e), r.0.0.0)
row_written Srli (rd ∷ []) k r e = ((r.0, (amount k e).1), (amount k e).0)
row_written Srai (rd ∷ []) k r e = ((r.0, (amount k e).1), (amount k e).0)
row_written Andi (rd ∷ []) k r e = ((r.0, six_bits k e), tt)
row_written Sub (rd ∷ rs2 ∷ []) k r e = ((r.0, r.1.0), tt)
row_written Xor (rd ∷ rs2 ∷ []) k r e = ((r.0, r.1.0), tt)
row_written Or (rd ∷ rs2 ∷ []) k r e = ((r.0, r.1.0), tt)
row_written And (rd ∷ rs2 ∷ []) k r e = ((r.0, r.1.0), tt)
row_written Subw (rd ∷ rs2 ∷ []) k r e = ((r.0, r.1.0), tt)
row_written Addw (rd ∷ rs2 ∷ []) k r e = ((r.0, r.1.0), tt)
row_written Slli (rd ∷ []) k r e = ((r.0.1, (amount k e).1), (r.0.0, (amount k e).0))
row_written Lwsp (rd ∷ sp ∷ []) k r e = ((r.0, multiple 4 256 k (omega arith) e), tt)
row_written Ldsp (rd ∷ sp ∷ []) k r e = ((r.0, multiple 8 512 k (omega arith) e), tt)
row_written Jr (rs1 ∷ []) k r e = (r.0, tt)
row_written Mv (rd ∷ rs2 ∷ []) k r e = ((r.0.1, r.1.0), r.0.0)
row_written Ebreak [] k r e = (tt, tt)
row_written Jalr (rs1 ∷ []) k r e = (r.0, tt)
row_written Add (rd ∷ rs2 ∷ []) k r e = ((r.0.1, r.1.0), r.0.0)
row_written Swsp (rs2 ∷ sp ∷ []) k r e = ((r.0, multiple 4 256 k (omega arith) e), tt)
row_written Sdsp (rs2 ∷ sp ∷ []) k r e = ((r.0, multiple 8 512 k (omega arith) e), tt)
row_written operation rs k r e = tt

taken_written : (registers number : Bool) (operation : ParcelOperation) (rs : List ℕ) (k : ℤ)
    → are_in (register_sets operation) rs ≡ registers → takes_number operation k ≡ number
    → IsWritten (if registers && number then option_map (λ make. make k) (form_with operation rs) else None)
taken_written true true operation rs k e f = row_written operation rs k (each_in (register_sets operation) rs e) f
taken_written true false operation rs k e f = tt
taken_written false number operation rs k e f = tt

of_written : (operation : ParcelOperation) (rs : List ℕ) (k : ℤ) → IsWritten (form_of operation rs k)
of_written operation rs k = taken_written (are_in (register_sets operation) rs) (takes_number operation k) operation rs k refl refl

-- the form that a mnemonic is with registers and a number
pub form_written : (operation : ParcelOperation) (registers : List ℕ) (k : ℤ) (form : Compressed) → form_of operation registers k ≡ Some form
    → IsLine form × IsNoHint form
form_written operation registers k form e = subst IsWritten e (of_written operation registers k)

by_written : (make : ℤ → Option Compressed) (o : Option ℤ) → ((k : ℤ) → IsWritten (make k)) → IsWritten (by_form make o)
by_written make None each = tt
by_written make (Some k) each = each k

parcel_rows : (v : Constants) (operation : ParcelOperation) (shape : OperandShape) (operands : List Operand)
    → IsWritten (parcel_form v operation shape operands)
parcel_rows v operation shapes.Registers [] = of_written operation [] (pos 0)
parcel_rows v operation shapes.Registers (Register a ∷ []) = of_written operation (a ∷ []) (pos 0)
parcel_rows v operation shapes.Registers (Register a ∷ Register b ∷ []) = of_written operation (a ∷ b ∷ []) (pos 0)
parcel_rows v operation shapes.Number (Register a ∷ Register b ∷ o ∷ []) =
    by_written (form_of operation (a ∷ b ∷ [])) (constant_number v o) (of_written operation (a ∷ b ∷ []))
parcel_rows v operation shapes.Number (Register a ∷ o ∷ []) =
    by_written (form_of operation (a ∷ [])) (constant_number v o) (of_written operation (a ∷ []))
parcel_rows v operation shapes.Address (Register a ∷ Register b ∷ []) = of_written operation (a ∷ b ∷ []) (pos 0)
parcel_rows v operation shapes.Address (Register a ∷ o ∷ Register b ∷ []) =
    by_written (form_of operation (a ∷ b ∷ [])) (constant_number v o) (of_written operation (a ∷ b ∷ []))
parcel_rows v operation shape operands = tt

named_rows : (v : Constants) (mnemonic : Mnemonic) (operands : List Operand) → IsWritten (named_form v mnemonic operands)
named_rows v (Parcel operation) operands = parcel_rows v operation (shape_of operation) operands
named_rows v mnemonic operands = tt

-- the form that a statement names
pub named_written : (v : Constants) (mnemonic : Mnemonic) (operands : List Operand) (form : Compressed) → named_form v mnemonic operands ≡ Some form
    → IsLine form × IsNoHint form
named_written v mnemonic operands form e = subst IsWritten e (named_rows v mnemonic operands)

-- ---- code

-- the code of a parcel is the same, compressed code or not, and however long it is to be
pub parcel_code : (v : Constants) (rvc other : Bool) (bytes size : ℕ) (operation : ParcelOperation) (operands : List Operand)
    → code v rvc bytes (Parcel operation) operands ≡ code v other size (Parcel operation) operands
parcel_code v rvc other bytes size J (Target e ∷ []) = refl
parcel_code v rvc other bytes size Beqz (Register rs ∷ Target e ∷ []) = refl
parcel_code v rvc other bytes size Bnez (Register rs ∷ Target e ∷ []) = refl
parcel_code v rvc other bytes size operation operands = refl

-- the code of a statement that names a form
pub named_code : (v : Constants) (rvc : Bool) (bytes : ℕ) (mnemonic : Mnemonic) (operands : List Operand) (form : Compressed)
    → named_form v mnemonic operands ≡ Some form → code v rvc bytes mnemonic operands ≡ Some (Closed (expansion form) ∷ [])
named_code v rvc bytes (Parcel J) (Target e ∷ []) form named = absurd (cc)
named_code v rvc bytes (Parcel Beqz) (Register rs ∷ Target e ∷ []) form named = absurd (cc)
named_code v rvc bytes (Parcel Bnez) (Register rs ∷ Target e ∷ []) form named = absurd (cc)
named_code v rvc bytes (Parcel operation) operands form named = ap (option_map (λ form. Closed (expansion form) ∷ [])) named
named_code v rvc bytes mnemonic operands form named = absurd (cc)
