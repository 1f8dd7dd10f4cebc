-- Each part of a statement's code has its operands in their ranges, and open fields of its relocation's kind.

use Rattle.std.proofs.Common.{◌≡◌, ℕ, ◌+◌, ◌*◌, ◌<◌, ◌^◌, Bool, true, false, not, ◌&&◌, ◌==◌, refl, sym, ap, subst, ◌∙◌, arith, ℤ, pos, negsuc, int_le, int_lt, List, [], ◌∷◌, map, Option, Some, None, option_map}
use Rattle.std.specs.Prelude.{if◌then◌else◌, ⊤}
use Rattle.std.specs.List.{AllByRecursion}
use Rattle.std.proofs.lemmas.Int.{ints}
use Rattle.std.proofs.lemmas.Bool.Decides.{nat_tests}
use Rattle.rv_list_laws.proofs.TruthLemmas.{bit_below}
use Rattle.rv_isa.specs.declared.kind.Kind.{Kind}
use Rattle.rv_isa.specs.declared.kind.Kind.TheVariants as kind
use Rattle.rv_isa.specs.declared.instruction.Format.{Format}
use Rattle.rv_isa.specs.declared.instruction.Format.TheVariants as format
use Rattle.rv_isa.specs.declared.instruction.Inst.{Inst}
use Rattle.rv_isa.specs.declared.instruction.Inst.TheVariants as inst
use Rattle.rv_isa.specs.declared.operation.AccessSet.{AccessSet}
use Rattle.rv_isa.specs.declared.operation.AtomicForm.{AtomicForm}
use Rattle.rv_isa.specs.declared.operation.AtomicOperation.{AtomicOperation}
use Rattle.rv_isa.specs.declared.operation.BranchOperation.{BranchOperation}
use Rattle.rv_isa.specs.declared.operation.BranchOperation.TheVariants.{Beq, Bne, Blt, Bge, Bltu, Bgeu}
use Rattle.rv_isa.specs.declared.operation.ImmediateOperation.{ImmediateOperation}
use Rattle.rv_isa.specs.declared.operation.LoadOperation.{LoadOperation}
use Rattle.rv_isa.specs.declared.operation.RegisterOperation.{RegisterOperation}
use Rattle.rv_isa.specs.declared.operation.ShiftOperation.{ShiftOperation}
use Rattle.rv_isa.specs.declared.operation.StoreOperation.{StoreOperation}
use Rattle.rv_isa.specs.declared.operation.UpperOperation.{UpperOperation}
use Rattle.rv_isa.specs.Operations.{format_of, of_registers, of_immediate, of_shift, of_upper, of_load, of_store, of_branch, of_reserve, of_atomic, access_bits}
use Rattle.rv_isa.specs.Ranges.{IsSigned12, IsValidFormat, IsValid, shift_limit}
use Rattle.rv_isa_laws.specs.Arithmetic.{wrapped}
use Rattle.rv_isa_laws.specs.Halves.{hi, lo}
use Rattle.rv_parcel.specs.declared.form.Compressed.{Compressed}
use Rattle.rv_parcel.specs.declared.parcel.ParcelOperation.TheVariants as parcels
use Rattle.rv_parcel.specs.declared.parcel.RegisterSet.TheVariants.{Short}
use Rattle.rv_parcel.specs.Mnemonics.{is_of_set}
use Rattle.rv_parcel.specs.Parcel.{expansion}
use Rattle.rv_parcel.proofs.ReaderLemmas.{expanded-valid}
use Rattle.rv_statement_laws.specs.declared.mnemonic.Mnemonic.{Mnemonic}
use Rattle.rv_statement_laws.specs.declared.mnemonic.Mnemonic.TheVariants.{Registers, Immediate, Shift, Upper, Load, Store, Branch, Jal, Jalr, LoadReserved, Atomic, Fence, FenceTso, Ecall, Ebreak, Nop, Unary, Compare, ZeroBranch, SwappedBranch, J, Jr, Ret, La, Li, Call, Tail, Jump, Parcel}
use Rattle.rv_statement_laws.specs.declared.pseudo.UnaryOperation.{UnaryOperation}
use Rattle.rv_statement_laws.specs.declared.pseudo.UnaryOperation.TheVariants.{Mv, Not, Neg, Negw, SextB, SextH, SextW, ZextB, ZextH, ZextW, Seqz, Snez, Sltz, Sgtz}
use Rattle.rv_statement_laws.specs.declared.pseudo.CompareOperation.{CompareOperation}
use Rattle.rv_statement_laws.specs.declared.pseudo.CompareOperation.TheVariants.{Sgt, Sgtu}
use Rattle.rv_statement_laws.specs.declared.pseudo.ZeroBranchOperation.{ZeroBranchOperation}
use Rattle.rv_statement_laws.specs.declared.pseudo.ZeroBranchOperation.TheVariants.{Beqz, Bnez, Bgez, Bltz, Blez, Bgtz}
use Rattle.rv_statement_laws.specs.declared.pseudo.SwappedBranchOperation.{SwappedBranchOperation}
use Rattle.rv_statement_laws.specs.declared.pseudo.SwappedBranchOperation.TheVariants.{Bgt, Ble, Bgtu, Bleu}
use Rattle.rv_statement_laws.specs.declared.pseudo.Function.TheVariants.{Hi, Lo, PcrelHi, PcrelLo}
use Rattle.rv_statement_laws.specs.Statement.{Operand, Register, Value, Applied, Target, Accesses}
use Rattle.rv_parse_laws.specs.Syntax.{with_constant}
use Rattle.rv_pseudo_laws.specs.Li.{addi, li}
use Rattle.rv_pseudo_laws.specs.Code.{Part, Closed, Open, Joined, Constants, r_type, i_type, s_type, b_type, u_type, shift_by, reserve, atomic, jalr, jal, auipc, unary, compare, inverted, branch, jump, near, far, through, zero_branch, swapped_branch, by_number, by_part, signed_12, upper_20, constant_number, by_amount, by_constant, named_form, short_branch, code}
use Rattle.rv_pseudo_laws.specs.Valid.{form_takes, takes, takes_constant, is_amount, IsOperandOf, AreOperandsOf, fills, fills_branch, IsOpen, IsValidPart}
use Rattle.rv_pseudo_laws.proofs.ModuloLemmas.{signed_12 as twelve}
use Rattle.rv_pseudo_laws.proofs.SequencesLemmas.{li_valid}
use Rattle.rv_pseudo_laws.proofs.ParcelsLemmas.{named_written}
use Rattle.rv_pseudo_laws.proofs.FormatsLemmas.{registers_format, immediate_format, shift_format, upper_format, load_format, store_format, branch_format, reserve_format, atomic_format}

-- each part, if there is code
abbrev AreParts : Option (List Part) → Type 0
AreParts None = ⊤
AreParts (Some ps) = AllByRecursion IsValidPart ps

-- ---- by the format

valid_by : (i : Inst) (f : Format) → format_of i ≡ f → IsValidFormat f → IsValid i
valid_by i f e valid = subst IsValidFormat (sym e) valid

open_by : (k : Kind) (i : Inst) (f : Format) → format_of i ≡ f → IsValidFormat f → fills f k ≡ true → IsOpen k i
open_by k i f e valid field = (valid_by i f e valid, ap (λ g. fills g k) e ∙ field)

zero_12 : IsSigned12 (pos 0)
zero_12 = (omega (arith, ints), omega (arith, ints))

one_12 : IsSigned12 (pos 1)
one_12 = (omega (arith, ints), omega (arith, ints))

-- ---- statements without an expression

mv_valid : (t : Bool) (rd rs : ℕ) → rd < 32 → rs < 32 → IsValid (if t then inst.Add (r_type rd 0 rs) else addi rd rs (pos 0))
mv_valid true rd rs d s = (d, omega arith, s)
mv_valid false rd rs d s = (d, s, zero_12)

unary_valid : (rvc : Bool) (operation : UnaryOperation) (rd rs : ℕ) → rd < 32 → rs < 32 → AllByRecursion IsValid (unary rvc operation rd rs)
unary_valid rvc Mv rd rs d s = (mv_valid (rvc && not (rd == 0) && not (rs == 0)) rd rs d s, tt)
unary_valid rvc Not rd rs d s = ((d, s, (omega (arith, ints), omega (arith, ints))), tt)
unary_valid rvc Neg rd rs d s = ((d, omega arith, s), tt)
unary_valid rvc Negw rd rs d s = ((d, omega arith, s), tt)
unary_valid rvc SextW rd rs d s = ((d, s, zero_12), tt)
unary_valid rvc ZextB rd rs d s = ((d, s, (omega (arith, ints), omega (arith, ints))), tt)
unary_valid rvc SextB rd rs d s = ((d, s, omega arith), ((d, d, omega arith), tt))
unary_valid rvc SextH rd rs d s = ((d, s, omega arith), ((d, d, omega arith), tt))
unary_valid rvc ZextH rd rs d s = ((d, s, omega arith), ((d, d, omega arith), tt))
unary_valid rvc ZextW rd rs d s = ((d, s, omega arith), ((d, d, omega arith), tt))
unary_valid rvc Seqz rd rs d s = ((d, s, one_12), tt)
unary_valid rvc Snez rd rs d s = ((d, omega arith, s), tt)
unary_valid rvc Sltz rd rs d s = ((d, s, omega arith), tt)
unary_valid rvc Sgtz rd rs d s = ((d, omega arith, s), tt)

compare_valid : (operation : CompareOperation) (rd a b : ℕ) → rd < 32 → a < 32 → b < 32 → IsValid (compare operation rd a b)
compare_valid Sgt rd a b d f s = (d, s, f)
compare_valid Sgtu rd a b d f s = (d, s, f)

closed_valid : (xs : List Inst) → AllByRecursion IsValid xs → AllByRecursion IsValidPart (map Closed xs)
closed_valid [] all = tt
closed_valid (x ∷ xs) all = (all.0, closed_valid xs all.1)

four_bits : (a b c d : ℕ) → a < 2 → b < 2 → c < 2 → d < 2 → 8 * a + 4 * b + 2 * c + d < 16
four_bits a b c d p q r s = omega arith

bits_below : (s : AccessSet) → access_bits s < 16
bits_below s = four_bits _ _ _ _ (bit_below s.input) (bit_below s.output) (bit_below s.reads) (bit_below s.writes)

-- ---- statements with a target

open_branch : (k : Kind) (operation : BranchOperation) (rs1 rs2 : ℕ) → fills_branch k ≡ true → rs1 < 32 → rs2 < 32
    → IsOpen k (of_branch operation (b_type rs1 rs2 (pos 0)))
open_branch k operation rs1 rs2 field a b =
    open_by k _ _ (branch_format operation _) (a, b, (omega (arith, ints), omega (arith, ints), refl)) field

branch_over : (operation : BranchOperation) (rs1 rs2 : ℕ) → rs1 < 32 → rs2 < 32 → IsValid (of_branch operation (b_type rs1 rs2 (pos 8)))
branch_over operation rs1 rs2 a b = valid_by _ _ (branch_format operation _) (a, b, (omega (arith, ints), omega (arith, ints), refl))

open_jump : (t : Bool) (rd : ℕ) → rd < 32 → IsOpen (if t then kind.RvcJump else kind.Jal) (jal rd)
open_jump true rd d = ((d, (omega (arith, ints), omega (arith, ints), refl)), refl)
open_jump false rd d = ((d, (omega (arith, ints), omega (arith, ints), refl)), refl)

branch_by : (two eight : Bool) (operation : BranchOperation) (rs1 rs2 : ℕ) → rs1 < 32 → rs2 < 32
    → AllByRecursion IsValidPart
    (if two then Open kind.RvcBranch (of_branch operation (b_type rs1 rs2 (pos 0))) ∷ []
    else if eight then Closed (of_branch (inverted operation) (b_type rs1 rs2 (pos 8))) ∷ Open kind.Jal (jal 0) ∷ []
    else Open kind.Branch (of_branch operation (b_type rs1 rs2 (pos 0))) ∷ [])
branch_by true eight operation rs1 rs2 a b = (open_branch kind.RvcBranch operation rs1 rs2 refl a b, tt)
branch_by false true operation rs1 rs2 a b = (branch_over (inverted operation) rs1 rs2 a b, (open_jump false 0 (omega arith), tt))
branch_by false false operation rs1 rs2 a b = (open_branch kind.Branch operation rs1 rs2 refl a b, tt)

branch_valid : (bytes : ℕ) (operation : BranchOperation) (rs1 rs2 : ℕ) → rs1 < 32 → rs2 < 32 → AllByRecursion IsValidPart (branch bytes operation rs1 rs2)
branch_valid bytes operation rs1 rs2 a b = branch_by (bytes == 2) (bytes == 8) operation rs1 rs2 a b

zero_valid : (bytes : ℕ) (operation : ZeroBranchOperation) (rs : ℕ) → rs < 32 → AllByRecursion IsValidPart (zero_branch bytes operation rs)
zero_valid bytes Beqz rs s = branch_valid bytes Beq rs 0 s (omega arith)
zero_valid bytes Bnez rs s = branch_valid bytes Bne rs 0 s (omega arith)
zero_valid bytes Bgez rs s = branch_valid bytes Bge rs 0 s (omega arith)
zero_valid bytes Bltz rs s = branch_valid bytes Blt rs 0 s (omega arith)
zero_valid bytes Blez rs s = branch_valid bytes Bge 0 rs (omega arith) s
zero_valid bytes Bgtz rs s = branch_valid bytes Blt 0 rs (omega arith) s

swapped_valid : (bytes : ℕ) (operation : SwappedBranchOperation) (a b : ℕ) → a < 32 → b < 32 → AllByRecursion IsValidPart (swapped_branch bytes operation a b)
swapped_valid bytes Bgt a b f s = branch_valid bytes Blt b a s f
swapped_valid bytes Ble a b f s = branch_valid bytes Bge b a s f
swapped_valid bytes Bgtu a b f s = branch_valid bytes Bltu b a s f
swapped_valid bytes Bleu a b f s = branch_valid bytes Bgeu b a s f

jump_valid : (bytes rd : ℕ) → rd < 32 → AllByRecursion IsValidPart (jump bytes rd)
jump_valid bytes rd d = (open_jump ((rd == 0) && (bytes == 2)) rd d, tt)

auipc_open : (k : Kind) (rd : ℕ) → fills (format_of (auipc rd)) k ≡ true → rd < 32 → IsOpen k (auipc rd)
auipc_open k rd field d = ((d, omega arith), field)

far_by : (t : Bool) (bytes link through : ℕ) → link < 32 → through < 32
    → AllByRecursion IsValidPart (if t then Joined kind.CallPlt (auipc through) (jalr link through (pos 0)) ∷ [] else jump bytes link)
far_by true bytes link through l r = ((auipc_open kind.CallPlt through refl r, ((l, r, zero_12), refl)), tt)
far_by false bytes link through l r = jump_valid bytes link l

far_valid : (bytes link through : ℕ) → link < 32 → through < 32 → AllByRecursion IsValidPart (far bytes link through)
far_valid bytes link through l r = far_by (bytes == 8) bytes link through l r

unless_so : (t : Bool) (o : Option (List Part)) → AreParts o → AreParts (if t then None else o)
unless_so true o valid = tt
unless_so false o valid = valid

through_valid : (register : ℕ) (ps : List Part) → AllByRecursion IsValidPart ps → AreParts (through register ps)
through_valid register ps valid = unless_so (register == 0) (Some ps) valid

near_valid : (rd : ℕ) (k : Kind) (i : Inst) → rd < 32 → IsOpen k i → AllByRecursion IsValidPart (near rd k i)
near_valid rd k i d rest = (auipc_open kind.PcrelHi20 rd refl d, (rest, tt))

-- ---- statements with a number

number_valid : (mnemonic : Mnemonic) (make : ℤ → Inst) (o : Option ℤ) → ((k : ℤ) → takes mnemonic k ≡ true → IsValid (make k))
    → takes_constant mnemonic o ≡ true → AreParts (by_number make o)
number_valid mnemonic make None valid e = tt
number_valid mnemonic make (Some k) valid e = (valid k e, tt)

part_valid : (mnemonic : Mnemonic) (kind : Kind) (make : ℤ → Inst) (o : Option ℤ) → ((k : ℤ) → takes mnemonic k ≡ true → IsValid (make k))
    → IsOpen kind (make (pos 0)) → takes_constant mnemonic o ≡ true → AreParts (by_part kind make o)
part_valid mnemonic kind make None valid open_one e = (open_one, tt)
part_valid mnemonic kind make (Some k) valid open_one e = (valid k e, tt)

-- an instruction with a number of twelve bits
record IsLow (store : Bool) (make : ℤ → Inst) : Type 0 where
  valid : (k : ℤ) → IsSigned12 k → IsValid (make k)
  part : IsOpen (if store then kind.Lo12S else kind.Lo12I) (make (pos 0))
  rest : IsOpen (if store then kind.PcrelLo12S else kind.PcrelLo12I) (make (pos 0))

signed_valid : (v : Constants) (mnemonic : Mnemonic) (store : Bool) (make : ℤ → Inst) (o : Operand) → IsLow store make
    → ((k : ℤ) → takes mnemonic k ≡ true → IsSigned12 k) → IsOperandOf v mnemonic o → AreParts (signed_12 v store make o)
signed_valid v mnemonic store make (Value e) low range fits = number_valid mnemonic make (v e) (λ k t. low.valid k (range k t)) fits
signed_valid v mnemonic store make (Applied Lo e) low range fits =
    part_valid mnemonic _ make (option_map lo (v e)) (λ k t. low.valid k (range k t)) low.part fits
signed_valid v mnemonic store make (Applied PcrelLo e) low range fits = (low.rest, tt)
signed_valid v mnemonic store make _ low range fits = tt

amount_valid : (v : Constants) (mnemonic : Mnemonic) (make : ℕ → Inst) (o : Operand)
    → ((k : ℤ) → takes mnemonic k ≡ true → IsValid (make (wrapped k))) → IsOperandOf v mnemonic o → AreParts (by_amount v make o)
amount_valid v mnemonic make (Value e) valid fits = number_valid mnemonic (λ k. make (wrapped k)) (v e) valid fits
amount_valid v mnemonic make (Applied Lo e) valid fits = number_valid mnemonic (λ k. make (wrapped k)) (option_map lo (v e)) valid fits
amount_valid v mnemonic make _ valid fits = tt

amount_below : (limit : ℕ) (k : ℤ) → (int_le (pos 0) k && int_lt k (pos limit)) ≡ true → wrapped k < limit
amount_below limit (pos n) e = grind (arith, ints, nat_tests)
amount_below limit (negsuc n) e = absurd (cc)

immediate_low : (operation : ImmediateOperation) (rd rs1 : ℕ) → rd < 32 → rs1 < 32 → IsLow false (λ k. of_immediate operation (i_type rd rs1 k))
immediate_low operation rd rs1 d s = record {
  valid = λ k t. valid_by _ _ (immediate_format operation _) (d, s, t);
  part = open_by _ _ _ (immediate_format operation _) (d, s, zero_12) refl;
  rest = open_by _ _ _ (immediate_format operation _) (d, s, zero_12) refl;
}

load_low : (operation : LoadOperation) (rd rs1 : ℕ) → rd < 32 → rs1 < 32 → IsLow false (λ k. of_load operation (i_type rd rs1 k))
load_low operation rd rs1 d s = record {
  valid = λ k t. valid_by _ _ (load_format operation _) (d, s, t);
  part = open_by _ _ _ (load_format operation _) (d, s, zero_12) refl;
  rest = open_by _ _ _ (load_format operation _) (d, s, zero_12) refl;
}

store_low : (operation : StoreOperation) (rs2 rs1 : ℕ) → rs2 < 32 → rs1 < 32 → IsLow true (λ k. of_store operation (s_type rs2 rs1 k))
store_low operation rs2 rs1 d s = record {
  valid = λ k t. valid_by _ _ (store_format operation _) (s, d, t);
  part = open_by _ _ _ (store_format operation _) (s, d, zero_12) refl;
  rest = open_by _ _ _ (store_format operation _) (s, d, zero_12) refl;
}

jalr_low : (rd rs1 : ℕ) → rd < 32 → rs1 < 32 → IsLow false (jalr rd rs1)
jalr_low rd rs1 d s = record {
  valid = λ k t. (d, s, t);
  part = ((d, s, zero_12), refl);
  rest = ((d, s, zero_12), refl);
}

shift_valid : (operation : ShiftOperation) (rd rs1 : ℕ) (k : ℤ) → rd < 32 → rs1 < 32 → is_amount operation k ≡ true
    → IsValid (of_shift operation (shift_by rd rs1 (wrapped k)))
shift_valid operation rd rs1 k d s e = valid_by _ _ (shift_format operation _) (d, s, amount_below (shift_limit operation) k e)

constant_valid : (v : Constants) (operation : RegisterOperation) (form : Option Mnemonic) (rd rs1 : ℕ) (o : Operand) → with_constant operation ≡ form
    → rd < 32 → rs1 < 32 → IsOperandOf v (Registers operation) o → AreParts (by_constant v form rd rs1 o)
constant_valid v operation (Some (Immediate i)) rd rs1 o e d s fits =
    signed_valid v (Registers operation) false (λ k. of_immediate i (i_type rd rs1 k)) o (immediate_low i rd rs1 d s)
    (λ k t. twelve k (subst (λ form. form_takes form k ≡ true) e t)) fits
constant_valid v operation (Some (Shift i)) rd rs1 o e d s fits =
    amount_valid v (Registers operation) (λ n. of_shift i (shift_by rd rs1 n)) o
    (λ k t. shift_valid i rd rs1 k d s (subst (λ form. form_takes form k ≡ true) e t)) fits
constant_valid v operation _ rd rs1 o e d s fits = tt

upper_number : (operation : UpperOperation) (rd : ℕ) (k : ℤ) → rd < 32 → (int_le (pos 0) k && int_lt k (pos (2 ^ 20))) ≡ true
    → IsValid (of_upper operation (u_type rd (wrapped k)))
upper_number operation rd k d e = valid_by _ _ (upper_format operation _) (d, amount_below (2 ^ 20) k e)

upper_open : (kind : Kind) (operation : UpperOperation) (rd : ℕ) → rd < 32 → fills (format.Upper operation (u_type rd 0)) kind ≡ true
    → IsOpen kind (of_upper operation (u_type rd 0))
upper_open kind operation rd d field = open_by kind _ _ (upper_format operation _) (d, omega arith) field

upper_valid : (v : Constants) (operation : UpperOperation) (rd : ℕ) (o : Operand) → rd < 32 → IsOperandOf v (Upper operation) o
    → AreParts (upper_20 v (λ n. of_upper operation (u_type rd n)) o)
upper_valid v operation rd (Value e) d fits =
    number_valid (Upper operation) (λ k. of_upper operation (u_type rd (wrapped k))) (v e) (λ k t. upper_number operation rd k d t) fits
upper_valid v operation rd (Applied Hi e) d fits =
    part_valid (Upper operation) kind.Hi20 (λ k. of_upper operation (u_type rd (wrapped k))) (option_map hi (v e)) (λ k t. upper_number operation rd k d t)
    (upper_open kind.Hi20 operation rd d refl) fits
upper_valid v operation rd (Applied PcrelHi e) d fits = (upper_open kind.PcrelHi20 operation rd d refl, tt)
upper_valid v operation rd _ d fits = tt

sequence_valid : (rd : ℕ) (o : Option ℤ) → rd < 32 → takes_constant Li o ≡ true → AreParts (option_map (λ k. map Closed (li rd k)) o)
sequence_valid rd None d e = tt
sequence_valid rd (Some k) d e = closed_valid (li rd k) (li_valid rd k d e)

li_parts : (v : Constants) (rd : ℕ) (o : Operand) → rd < 32 → IsOperandOf v Li o → AreParts (option_map (λ k. map Closed (li rd k)) (constant_number v o))
li_parts v rd (Value e) d fits = sequence_valid rd (v e) d fits
li_parts v rd (Applied Lo e) d fits = sequence_valid rd (option_map lo (v e)) d fits
li_parts v rd _ d fits = tt

-- ---- parcels

-- the form that is named, if one is
form_valid : (named : Option Compressed) → ((form : Compressed) → named ≡ Some form → IsValid (expansion form))
    → AreParts (option_map (λ form. Closed (expansion form) ∷ []) named)
form_valid None valid = tt
form_valid (Some form) valid = (valid form refl, tt)

parcel_valid : (v : Constants) (mnemonic : Mnemonic) (operands : List Operand)
    → AreParts (option_map (λ form. Closed (expansion form) ∷ []) (named_form v mnemonic operands))
parcel_valid v mnemonic operands =
    form_valid (named_form v mnemonic operands) (λ form e. expanded-valid form (named_written v mnemonic operands form e).0)

short_by : (short : Bool) (operation : BranchOperation) (rs : ℕ) → rs < 32 → AreParts (if short then Some (branch 2 operation rs 0) else None)
short_by true operation rs s = branch_valid 2 operation rs 0 s (omega arith)
short_by false operation rs s = tt

short_valid : (operation : BranchOperation) (rs : ℕ) → rs < 32 → AreParts (short_branch operation rs)
short_valid operation rs s = short_by (is_of_set Short rs) operation rs s

-- ---- all rows

registers_valid : (operation : RegisterOperation) (rd rs1 rs2 : ℕ) → rd < 32 → rs1 < 32 → rs2 < 32 → IsValid (of_registers operation (r_type rd rs1 rs2))
registers_valid operation rd rs1 rs2 d a b =
    valid_by (of_registers operation (r_type rd rs1 rs2)) _ (registers_format operation (r_type rd rs1 rs2)) (d, a, b)

reserve_valid : (form : AtomicForm) (rd rs1 : ℕ) → rd < 32 → rs1 < 32 → IsValid (of_reserve form.double (reserve form rd rs1))
reserve_valid form rd rs1 d a = valid_by (of_reserve form.double (reserve form rd rs1)) _ (reserve_format form.double (reserve form rd rs1)) (d, a)

atomic_valid : (operation : AtomicOperation) (form : AtomicForm) (rd rs2 rs1 : ℕ) → rd < 32 → rs2 < 32 → rs1 < 32
    → IsValid (of_atomic operation form.double (atomic form rd rs2 rs1))
atomic_valid operation form rd rs2 rs1 d b a =
    valid_by (of_atomic operation form.double (atomic form rd rs2 rs1)) _ (atomic_format operation form.double (atomic form rd rs2 rs1)) (d, a, b)

load_near : (operation : LoadOperation) (rd : ℕ) → rd < 32 → AllByRecursion IsValidPart (near rd kind.PcrelLo12I (of_load operation (i_type rd rd (pos 0))))
load_near operation rd d = near_valid rd kind.PcrelLo12I (of_load operation (i_type rd rd (pos 0))) d (load_low operation rd rd d d).rest

store_near : (operation : StoreOperation) (rs2 rt : ℕ) → rs2 < 32 → rt < 32
    → AllByRecursion IsValidPart (near rt kind.PcrelLo12S (of_store operation (s_type rs2 rt (pos 0))))
store_near operation rs2 rt s d = near_valid rt kind.PcrelLo12S (of_store operation (s_type rs2 rt (pos 0))) d (store_low operation rs2 rt s d).rest

rows_valid : (v : Constants) (rvc : Bool) (bytes : ℕ) (mnemonic : Mnemonic) (operands : List Operand) → AreOperandsOf v mnemonic operands
    → AreParts (code v rvc bytes mnemonic operands)
rows_valid v rvc bytes (Registers operation) (Register rd ∷ Register rs1 ∷ Register rs2 ∷ []) f =
    (registers_valid operation rd rs1 rs2 f.0 f.1.0 f.1.1.0, tt)
rows_valid v rvc bytes (Registers operation) (Register rd ∷ Register rs1 ∷ o ∷ []) f =
    constant_valid v operation (with_constant operation) rd rs1 o refl f.0 f.1.0 f.1.1.0
rows_valid v rvc bytes (Immediate operation) (Register rd ∷ Register rs1 ∷ o ∷ []) f =
    signed_valid v (Immediate operation) false (λ k. of_immediate operation (i_type rd rs1 k)) o (immediate_low operation rd rs1 f.0 f.1.0) twelve f.1.1.0
rows_valid v rvc bytes (Shift operation) (Register rd ∷ Register rs1 ∷ o ∷ []) f =
    amount_valid v (Shift operation) (λ n. of_shift operation (shift_by rd rs1 n)) o (λ k t. shift_valid operation rd rs1 k f.0 f.1.0 t) f.1.1.0
rows_valid v rvc bytes (Upper operation) (Register rd ∷ o ∷ []) f = upper_valid v operation rd o f.0 f.1.0
rows_valid v rvc bytes (Load operation) (Register rd ∷ Register rs1 ∷ []) f =
    ((load_low operation rd rs1 f.0 f.1.0).valid (pos 0) zero_12, tt)
rows_valid v rvc bytes (Load operation) (Register rd ∷ Target e ∷ []) f =
    through_valid rd (near rd kind.PcrelLo12I (of_load operation (i_type rd rd (pos 0)))) (load_near operation rd f.0)
rows_valid v rvc bytes (Load operation) (Register rd ∷ o ∷ Register rs1 ∷ []) f =
    signed_valid v (Load operation) false (λ k. of_load operation (i_type rd rs1 k)) o (load_low operation rd rs1 f.0 f.1.1.0) twelve f.1.0
rows_valid v rvc bytes (Store operation) (Register rs2 ∷ Register rs1 ∷ []) f =
    ((store_low operation rs2 rs1 f.0 f.1.0).valid (pos 0) zero_12, tt)
rows_valid v rvc bytes (Store operation) (Register rs2 ∷ Target e ∷ Register rt ∷ []) f =
    unless_so (rt == rs2) _
    (through_valid rt (near rt kind.PcrelLo12S (of_store operation (s_type rs2 rt (pos 0)))) (store_near operation rs2 rt f.0 f.1.1.0))
rows_valid v rvc bytes (Store operation) (Register rs2 ∷ o ∷ Register rs1 ∷ []) f =
    signed_valid v (Store operation) true (λ k. of_store operation (s_type rs2 rs1 k)) o (store_low operation rs2 rs1 f.0 f.1.1.0) twelve f.1.0
rows_valid v rvc bytes (Branch operation) (Register rs1 ∷ Register rs2 ∷ Target e ∷ []) f = branch_valid bytes operation rs1 rs2 f.0 f.1.0
rows_valid v rvc bytes (ZeroBranch operation) (Register rs ∷ Target e ∷ []) f = zero_valid bytes operation rs f.0
rows_valid v rvc bytes (SwappedBranch operation) (Register a ∷ Register b ∷ Target e ∷ []) f = swapped_valid bytes operation a b f.0 f.1.0
rows_valid v rvc bytes Jal (Register rd ∷ Target e ∷ []) f = jump_valid bytes rd f.0
rows_valid v rvc bytes Jal (Target e ∷ []) f = jump_valid bytes 1 (omega arith)
rows_valid v rvc bytes J (Target e ∷ []) f = jump_valid bytes 0 (omega arith)
rows_valid v rvc bytes Jalr (Register rs1 ∷ []) f = ((omega arith, f.0, zero_12), tt)
rows_valid v rvc bytes Jalr (Register rd ∷ Register rs1 ∷ []) f = ((f.0, f.1.0, zero_12), tt)
rows_valid v rvc bytes Jalr (o ∷ Register rs1 ∷ []) f = signed_valid v Jalr false (jalr 1 rs1) o (jalr_low 1 rs1 (omega arith) f.1.0) twelve f.0
rows_valid v rvc bytes Jalr (Register rd ∷ Register rs1 ∷ o ∷ []) f = signed_valid v Jalr false (jalr rd rs1) o (jalr_low rd rs1 f.0 f.1.0) twelve f.1.1.0
rows_valid v rvc bytes Jalr (Register rd ∷ o ∷ Register rs1 ∷ []) f = signed_valid v Jalr false (jalr rd rs1) o (jalr_low rd rs1 f.0 f.1.1.0) twelve f.1.0
rows_valid v rvc bytes Jr (Register rs ∷ []) f = ((omega arith, f.0, zero_12), tt)
rows_valid v rvc bytes Jr (o ∷ Register rs ∷ []) f = signed_valid v Jr false (jalr 0 rs) o (jalr_low 0 rs (omega arith) f.1.0) twelve f.0
rows_valid v rvc bytes Ret [] f = ((omega arith, omega arith, zero_12), tt)
rows_valid v rvc bytes (LoadReserved form) (Register rd ∷ Register rs1 ∷ []) f = (reserve_valid form rd rs1 f.0 f.1.0, tt)
rows_valid v rvc bytes (Atomic operation form) (Register rd ∷ Register rs2 ∷ Register rs1 ∷ []) f =
    (atomic_valid operation form rd rs2 rs1 f.0 f.1.0 f.1.1.0, tt)
rows_valid v rvc bytes Fence [] f = ((omega arith, omega arith, omega arith, omega arith, omega arith), tt)
rows_valid v rvc bytes Fence (Accesses before ∷ Accesses after ∷ []) f =
    ((omega arith, bits_below before, bits_below after, omega arith, omega arith), tt)
rows_valid v rvc bytes FenceTso [] f = ((omega arith, omega arith, omega arith, omega arith, omega arith), tt)
rows_valid v rvc bytes Ecall [] f = (tt, tt)
rows_valid v rvc bytes Ebreak [] f = (tt, tt)
rows_valid v rvc bytes Nop [] f = ((omega arith, omega arith, zero_12), tt)
rows_valid v rvc bytes (Unary operation) (Register rd ∷ Register rs ∷ []) f = closed_valid (unary rvc operation rd rs) (unary_valid rvc operation rd rs f.0 f.1.0)
rows_valid v rvc bytes (Compare operation) (Register rd ∷ Register a ∷ Register b ∷ []) f = (compare_valid operation rd a b f.0 f.1.0 f.1.1.0, tt)
rows_valid v rvc bytes La (Register rd ∷ Target e ∷ []) f = near_valid rd kind.PcrelLo12I (addi rd rd (pos 0)) f.0 ((f.0, f.0, zero_12), refl)
rows_valid v rvc bytes Li (Register rd ∷ o ∷ []) f = li_parts v rd o f.0 f.1.0
rows_valid v rvc bytes Call (Register rd ∷ Target e ∷ []) f = through_valid rd (far bytes rd rd) (far_valid bytes rd rd f.0 f.0)
rows_valid v rvc bytes Call (Target e ∷ []) f = far_valid bytes 1 1 (omega arith) (omega arith)
rows_valid v rvc bytes Tail (Target e ∷ []) f = far_valid bytes 0 6 (omega arith) (omega arith)
rows_valid v rvc bytes Jump (Target e ∷ Register rt ∷ []) f = through_valid rt (far bytes 0 rt) (far_valid bytes 0 rt (omega arith) f.1.0)
rows_valid v rvc bytes (Parcel parcels.J) (Target e ∷ []) f = jump_valid 2 0 (omega arith)
rows_valid v rvc bytes (Parcel parcels.Beqz) (Register rs ∷ Target e ∷ []) f = short_valid Beq rs f.0
rows_valid v rvc bytes (Parcel parcels.Bnez) (Register rs ∷ Target e ∷ []) f = short_valid Bne rs f.0
rows_valid v rvc bytes (Parcel operation) operands f = parcel_valid v (Parcel operation) operands
rows_valid v rvc bytes mnemonic operands f = tt

pub code_valid : (v : Constants) (rvc : Bool) (bytes : ℕ) (mnemonic : Mnemonic) (operands : List Operand) (parts : List Part)
    → AreOperandsOf v mnemonic operands → code v rvc bytes mnemonic operands ≡ Some parts → AllByRecursion IsValidPart parts
code_valid v rvc bytes mnemonic operands parts fits e = subst AreParts e (rows_valid v rvc bytes mnemonic operands fits)
