-- Each line of a parcel is one statement: by its form.

use Rattle.std.proofs.Common.{◌≡◌, ◌≢◌, ℕ, ℤ, pos, ◌^◌, ◌<◌, ◌≤◌, true, List, [], ◌∷◌, ◌++◌, length, refl, arith, inl, inr}
use Rattle.std.specs.Fmt.{signed_decimal}
use Rattle.std.proofs.lemmas.Bool.Decides.{nat_tests}
use Rattle.rv_parcel.specs.declared.form.Compressed.{Compressed}
use Rattle.rv_parcel.specs.declared.form.Compressed.TheVariants as forms
use Rattle.rv_parcel.specs.declared.parcel.ParcelOperation.{ParcelOperation}
use Rattle.rv_parcel.specs.declared.parcel.ParcelOperation.TheVariants as parcels
use Rattle.rv_parcel.specs.declared.parcel.RegisterSet.{RegisterSet}
use Rattle.rv_parcel.specs.declared.parcel.RegisterSet.TheVariants.{Any, Nonzero, Short, Stack, Upper}
use Rattle.rv_parcel.specs.Mnemonics.{is_of_set, parcel_name}
use Rattle.rv_parcel.specs.Parcel.{IsShort, IsSixBits, IsBranch, IsJump, IsStackStep, IsUpper, IsLine, IsNoHint}
use Rattle.rv_statement_laws.specs.declared.mnemonic.Mnemonic.TheVariants as words
use Rattle.rv_statement_laws.specs.Statement.{Operand, Register, Instruction}
use Rattle.rv_parse_laws.specs.declared.role.Role.TheVariants as roles
use Rattle.rv_parse_laws.specs.Words.{beginning, mnemonic_named, directive_named, instruction_words, atomic_operations, atomic_forms, directive_words}
use Rattle.rv_parse_laws.specs.Syntax.{A_register_of, An_address_by, A_value, A_target, Slots, last, and_then, slots}
use Rattle.rv_listing_laws.specs.Instruction.{abi_register as abi, based, distant, operands}
use Rattle.rv_listing_laws.specs.Numbers.{prefixed}
use Rattle.rv_listing_laws.specs.Parcels.{parcel_text}
use Rattle.rv_raw_theorems.specs.Statements.{IsSmall, with_number, with_address, with_source, with_target, parcel_statement}
use Rattle.rv_raw_theorems.proofs.NumbersLemmas.{bounded, prefixed_numeral}
use Rattle.rv_raw_theorems.proofs.NamesLemmas.{Begins}
use Rattle.rv_raw_theorems.proofs.OperandsLemmas.{AreArguments, ending, taken, of_register, of_number, of_signed, of_target, of_address, any_register}
use Rattle.rv_raw_theorems.proofs.WordsLemmas.{IsLineOf, with_operands, without_operands}

begins_parcel : (op : ParcelOperation) → Begins (parcel_name op) (words.Parcel op)
unfolding beginning mnemonic_named directive_named instruction_words atomic_operations atomic_forms directive_words
begins_parcel op = grind arith

-- ---- what a form's operands keep

pub short_in : (r : ℕ) → IsShort r → is_of_set Short r ≡ true
short_in r h = let low = h.0 in let high = h.1 in grind (arith, nat_tests, low, high)

pub nonzero_in : (r : ℕ) → 0 < r → r < 32 → is_of_set Nonzero r ≡ true
nonzero_in r some lt = grind (arith, nat_tests, some, lt)

pub upper_in : (r : ℕ) → 0 < r → r < 32 → r ≢ 2 → is_of_set Upper r ≡ true
upper_in r some lt other = grind (arith, nat_tests, some, lt, other)

pub six_small : (z : ℤ) → IsSixBits z → IsSmall z
six_small z h = bounded 31 31 (omega arith) (omega arith) z h.0 h.1

pub branch_small : (z : ℤ) → IsBranch z → IsSmall z
branch_small z h = bounded 255 255 (omega arith) (omega arith) z h.0 h.1

pub jump_small : (z : ℤ) → IsJump z → IsSmall z
jump_small z h = bounded 2047 2047 (omega arith) (omega arith) z h.0 h.1

pub step_small : (z : ℤ) → IsStackStep z → IsSmall z
step_small z h = bounded 511 511 (omega arith) (omega arith) z h.0 h.1

upper_small : (u : ℕ) → IsUpper u → u < 2 ^ 64
upper_small u (inl (some, lt)) = omega (arith, lt)
upper_small u (inr (low, lt)) = omega (arith, lt)

-- ---- operands of each shape

-- a register and more
one : (set : RegisterSet) (r : ℕ) → is_of_set set r ≡ true → (rest : Slots) (u : List ℕ) (ts : List (List ℕ)) (later : List Operand) → AreArguments rest (u ∷ ts) later
    → AreArguments (and_then (A_register_of set) rest) (abi r ∷ u ∷ ts) (Register r ∷ later)
one set r is rest u ts later m = taken (A_register_of set) (A_register_of set) rest (abi r) u ts (Register r ∷ []) later (of_register set r is) m

-- rd, number
numbered : (set : RegisterSet) (r : ℕ) (z : ℤ) → is_of_set set r ≡ true → IsSmall z
    → AreArguments (and_then (A_register_of set) (last (A_value roles.Operand))) (abi r ∷ signed_decimal z ∷ []) (with_number r z)
numbered set r z is small = one set r is _ _ _ _ (ending _ _ _ _ (of_signed roles.Operand refl z small))

-- r, number(base)
addressed : (set base : RegisterSet) (r b u : ℕ) → is_of_set set r ≡ true → is_of_set base b ≡ true → u < 1024
    → AreArguments (and_then (A_register_of set) (last (An_address_by base))) (abi r ∷ based (pos u) b ∷ []) (with_address r b u)
addressed set base r b u is base_is lt = one set r is _ _ _ _ (ending _ _ _ _ (of_address base (pos u) b (omega (arith, lt)) base_is))

-- rd, rs2
sourced : (set : RegisterSet) (r s : ℕ) → is_of_set set r ≡ true → is_of_set set s ≡ true
    → AreArguments (and_then (A_register_of set) (last (A_register_of set))) (abi r ∷ abi s ∷ []) (with_source r s)
sourced set r s is source_is = one set r is _ _ _ _ (ending _ _ _ _ (of_register set s source_is))

-- rs1, target
targeted : (set : RegisterSet) (r : ℕ) (z : ℤ) → is_of_set set r ≡ true → IsSmall z
    → AreArguments (and_then (A_register_of set) (last A_target)) (abi r ∷ distant z ∷ []) (with_target r z)
targeted set r z is small = one set r is _ _ _ _ (ending _ _ _ _ (of_target z small))

-- ---- a line with its operands, and one without

line : (op : ParcelOperation) (t : List ℕ) (ts : List (List ℕ)) (os : List Operand) → length ts ≤ 3 → AreArguments (slots (words.Parcel op)) (t ∷ ts) os
    → IsLineOf (parcel_name op ++ operands (t ∷ ts)) (Instruction (words.Parcel op) os)
line op t ts os few a = with_operands (parcel_name op) (words.Parcel op) t ts os (begins_parcel op) a few

two : (op : ParcelOperation) (t u : List ℕ) (os : List Operand) → AreArguments (slots (words.Parcel op)) (t ∷ u ∷ []) os → IsLineOf (parcel_name op ++ operands (t ∷ u ∷ [])) (Instruction (words.Parcel op) os)
two op t u os a = line op t (u ∷ []) os (omega arith) a

-- ---- forms

pub parcel_is : (c : Compressed) → IsLine c → IsNoHint c → IsLineOf (parcel_text c) (parcel_statement c)
parcel_is (forms.Addi4spn rd u) (a, (b, _), _) h = line parcels.Addi4spn _ _ _ (omega arith) (one Short rd (short_in rd a) _ _ _ _ (numbered Stack 2 (pos u) refl (omega (arith, b))))
parcel_is (forms.Lw rd rs1 u) (a, b, (c, _)) h = two parcels.Lw _ _ _ (addressed Short Short rd rs1 u (short_in rd a) (short_in rs1 b) (omega (arith, c)))
parcel_is (forms.Ld rd rs1 u) (a, b, (c, _)) h = two parcels.Ld _ _ _ (addressed Short Short rd rs1 u (short_in rd a) (short_in rs1 b) (omega (arith, c)))
parcel_is (forms.Sw rs1 rs2 u) (a, b, (c, _)) h = two parcels.Sw _ _ _ (addressed Short Short rs2 rs1 u (short_in rs2 b) (short_in rs1 a) (omega (arith, c)))
parcel_is (forms.Sd rs1 rs2 u) (a, b, (c, _)) h = two parcels.Sd _ _ _ (addressed Short Short rs2 rs1 u (short_in rs2 b) (short_in rs1 a) (omega (arith, c)))
parcel_is (forms.Nop i) a h = without_operands (parcel_name parcels.Nop) (words.Parcel parcels.Nop) (begins_parcel parcels.Nop) (refl, refl) (omega arith)
parcel_is (forms.Addi rd i) ((a, b), c) h = two parcels.Addi _ _ _ (numbered Nonzero rd i (nonzero_in rd a b) (six_small i c))
parcel_is (forms.Addiw rd i) ((a, b), c) h = two parcels.Addiw _ _ _ (numbered Nonzero rd i (nonzero_in rd a b) (six_small i c))
parcel_is (forms.Li rd i) (b, c) h = two parcels.Li _ _ _ (numbered Nonzero rd i (nonzero_in rd h b) (six_small i c))
parcel_is (forms.Addi16sp i) a h = two parcels.Addi16sp _ _ _ (numbered Stack 2 i refl (step_small i a))
parcel_is (forms.Lui rd u) (b, c, d) h = two parcels.Lui _ _ _ (one Upper rd (upper_in rd h b c) _ _ _ _ (ending _ _ _ _ (of_number roles.Operand refl (prefixed u) u (prefixed_numeral u (upper_small u d)))))
parcel_is (forms.Srli rd u) (a, b) h = two parcels.Srli _ _ _ (numbered Short rd (pos u) (short_in rd a) (omega (arith, b)))
parcel_is (forms.Srai rd u) (a, b) h = two parcels.Srai _ _ _ (numbered Short rd (pos u) (short_in rd a) (omega (arith, b)))
parcel_is (forms.Andi rd i) (a, b) h = two parcels.Andi _ _ _ (numbered Short rd i (short_in rd a) (six_small i b))
parcel_is (forms.Sub rd rs2) (a, b) h = two parcels.Sub _ _ _ (sourced Short rd rs2 (short_in rd a) (short_in rs2 b))
parcel_is (forms.Xor rd rs2) (a, b) h = two parcels.Xor _ _ _ (sourced Short rd rs2 (short_in rd a) (short_in rs2 b))
parcel_is (forms.Or rd rs2) (a, b) h = two parcels.Or _ _ _ (sourced Short rd rs2 (short_in rd a) (short_in rs2 b))
parcel_is (forms.And rd rs2) (a, b) h = two parcels.And _ _ _ (sourced Short rd rs2 (short_in rd a) (short_in rs2 b))
parcel_is (forms.Subw rd rs2) (a, b) h = two parcels.Subw _ _ _ (sourced Short rd rs2 (short_in rd a) (short_in rs2 b))
parcel_is (forms.Addw rd rs2) (a, b) h = two parcels.Addw _ _ _ (sourced Short rd rs2 (short_in rd a) (short_in rs2 b))
parcel_is (forms.J i) a h = line parcels.J _ _ _ (omega arith) (ending _ _ _ _ (of_target i (jump_small i a)))
parcel_is (forms.Beqz rs1 i) (a, b) h = two parcels.Beqz _ _ _ (targeted Short rs1 i (short_in rs1 a) (branch_small i b))
parcel_is (forms.Bnez rs1 i) (a, b) h = two parcels.Bnez _ _ _ (targeted Short rs1 i (short_in rs1 a) (branch_small i b))
parcel_is (forms.Slli rd u) (a, b) (c, _) = two parcels.Slli _ _ _ (numbered Nonzero rd (pos u) (nonzero_in rd c a) (omega (arith, b)))
parcel_is (forms.Lwsp rd u) ((a, b), (c, _)) h = two parcels.Lwsp _ _ _ (addressed Nonzero Stack rd 2 u (nonzero_in rd a b) refl (omega (arith, c)))
parcel_is (forms.Ldsp rd u) ((a, b), (c, _)) h = two parcels.Ldsp _ _ _ (addressed Nonzero Stack rd 2 u (nonzero_in rd a b) refl (omega (arith, c)))
parcel_is (forms.Jr rs1) (a, b) h = line parcels.Jr _ _ _ (omega arith) (ending _ _ _ _ (of_register Nonzero rs1 (nonzero_in rs1 a b)))
parcel_is (forms.Mv rd rs2) (a, (b, c)) h = two parcels.Mv _ _ _ (sourced Nonzero rd rs2 (nonzero_in rd h a) (nonzero_in rs2 b c))
parcel_is forms.Ebreak a h = without_operands (parcel_name parcels.Ebreak) (words.Parcel parcels.Ebreak) (begins_parcel parcels.Ebreak) (refl, refl) (omega arith)
parcel_is (forms.Jalr rs1) (a, b) h = line parcels.Jalr _ _ _ (omega arith) (ending _ _ _ _ (of_register Nonzero rs1 (nonzero_in rs1 a b)))
parcel_is (forms.Add rd rs2) (a, (b, c)) h = two parcels.Add _ _ _ (sourced Nonzero rd rs2 (nonzero_in rd h a) (nonzero_in rs2 b c))
parcel_is (forms.Swsp rs2 u) (a, (c, _)) h = two parcels.Swsp _ _ _ (addressed Any Stack rs2 2 u (any_register rs2 a) refl (omega (arith, c)))
parcel_is (forms.Sdsp rs2 u) (a, (c, _)) h = two parcels.Sdsp _ _ _ (addressed Any Stack rs2 2 u (any_register rs2 a) refl (omega (arith, c)))
