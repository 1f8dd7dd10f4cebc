-- Each line of a raw listing is one statement: by its format.

use Rattle.std.proofs.Common.{◌≡◌, ℕ, ℤ, ◌^◌, ◌<◌, ◌≤◌, Bool, true, false, ◌||◌, List, [], ◌∷◌, ◌++◌, length, length-append, refl, sym, ◌∙◌, ap, subst, arith, codes, inl, inr}
use Rattle.std.specs.Prelude.{is_some}
use Rattle.std.specs.Fmt.{decimal}
use Rattle.std.proofs.lemmas.Bool.{cases_Bool}
use Rattle.std.proofs.lemmas.Bool.Decides.{nat_tests}
use Rattle.std.proofs.lemmas.List.{append-nil}
use Rattle.std.specs.List.{list_all}
use Rattle.rv_expression_laws.specs.declared.class.Class.TheVariants.{Blank}
use Rattle.rv_expression_laws.specs.Bytes.{class, in_line}
use Rattle.rv_expression_laws.specs.Cut.{texts, Each}
use Rattle.rv_expression_laws.specs.Grammar.{Spells, Stops}
use Rattle.rv_expression_laws.specs.Lexing.{placed, tokens_of}
use Rattle.rv_statement_laws.specs.declared.mnemonic.Mnemonic.{Mnemonic}
use Rattle.rv_statement_laws.specs.declared.mnemonic.Mnemonic.TheVariants as words
use Rattle.rv_statement_laws.specs.Statement.{Operand, Register, Accesses, StatementKind, Instruction}
use Rattle.rv_isa.specs.declared.instruction.Fence.{Fence as FenceOperands}
use Rattle.rv_isa.specs.declared.instruction.Format.{Format}
use Rattle.rv_isa.specs.Ranges.{IsSigned12, IsBranchOffset, IsJumpOffset, shift_limit, IsValidFormat}
use Rattle.rv_isa.specs.declared.operation.ShiftOperation.{ShiftOperation}
use Rattle.rv_isa.specs.declared.operation.ShiftOperation.TheVariants.{Slli, Srli, Srai, Slliw, Srliw, Sraiw}
use Rattle.rv_parcel.specs.declared.parcel.RegisterSet.TheVariants.{Any}
use Rattle.rv_isa.specs.declared.instruction.Format.TheVariants.{Registers, Immediate, Shift, Upper, Load, Store, Branch, Jal, Jalr, LoadReserved, Atomic, Fence, Ecall, Ebreak}
use Rattle.rv_isa.specs.declared.operation.UpperOperation.{UpperOperation}
use Rattle.rv_isa.specs.declared.operation.UpperOperation.TheVariants.{Lui, Auipc}
use Rattle.rv_parse_laws.specs.declared.role.Role.TheVariants as roles
use Rattle.rv_parse_laws.specs.Syntax.{A_register, A_value, Some_accesses, Slots, Stops as Ends_here, Takes, A_comma, slots, source, with_constant, last, upper_role, targets, IsStatement, AreOperands, colon_next}
use Rattle.rv_parse_laws.specs.Opening.{opens_well}
use Rattle.rv_listing_laws.specs.Instruction.{abi_register as abi, operands, accesses, fence_text, is_tso, is_between, distant, text_with}
use Rattle.rv_listing_laws.specs.Numbers.{prefixed}
use Rattle.rv_listing_laws.specs.Raw.{has_source}
use Rattle.rv_raw_theorems.specs.Statements.{IsSmall, access_set, fence_statement, word_statement}
use Rattle.rv_raw_theorems.proofs.LexemesLemmas.{Lexeme, word, blank, Breaks, in_line-append, is_name, name_spells, name_stops, name_in_line, blank_stops}
use Rattle.rv_raw_theorems.proofs.NumbersLemmas.{bounded, decimal_numeral, prefixed_numeral}
use Rattle.rv_raw_theorems.proofs.NamesLemmas.{Begins, begins_registers, begins_immediate, begins_shift, begins_upper, begins_load, begins_store, begins_branch, begins_reserved, begins_atomic, begins_jal, begins_jalr, begins_fence, begins_fence_tso, begins_ecall, begins_ebreak}
use Rattle.rv_raw_theorems.proofs.OperandsLemmas.{AreArguments, IsArgument, commas, ending, chosen_last, chosen, chosen_further, taken, located, of_register, of_number, of_signed, of_target, of_address, of_jump, of_base, of_accesses, any_register}

-- a text that is a statement alone on its line, whatever stands before it
pub record IsLineOf (text : List ℕ) (kind : StatementKind) : Type 0 where
  pub name : List ℕ
  pub more : List Lexeme
  pub is_text : name ++ texts more ≡ text
  pub stand : (rest : List ℕ) → Breaks rest → Each Spells Stops (word name ∷ more) rest
  pub in_lines : list_all in_line text ≡ true
  pub says : (before : List ℕ) → IsStatement (tokens_of before (word name ∷ more)) kind
  pub opens : (known : List ℕ → Bool) → opens_well known kind ≡ true
  pub long : 3 ≤ length text
  pub short : length text ≤ 1000

pub blank_class : class 32 ≡ Blank
unfolding class
blank_class = refl

pub with_operands : (name : List ℕ) (mnemonic : Mnemonic) (t : List ℕ) (ts : List (List ℕ)) (os : List Operand) → Begins name mnemonic → AreArguments (slots mnemonic) (t ∷ ts) os → length ts ≤ 3
    → IsLineOf (name ++ operands (t ∷ ts)) (Instruction mnemonic os)
with_operands name mnemonic t ts os b a few =
    let h = a.shown in
    let some = h.some in
    let short = h.short in
    let named = name_long name b.is_word in
    let brief : length name ≤ 20 = grind (arith, nat_tests, b.short) in
    let all = length-append name (operands (t ∷ ts)) in
    record {
      name = name;
      more = blank ∷ a.lexemes;
      is_text = ap (λ x. name ++ 32 ∷ x) h.is_text;
      stand = λ rest r. (name_spells name b.is_word, refl, ((32, refl, blank_class), blank_stops (texts a.lexemes ++ rest), h.stand rest r));
      in_lines = in_line-append name (32 ∷ commas (t ∷ ts)) (name_in_line name b.is_word) h.in_lines;
      says = λ before.
          let after = (before ++ name) ++ 32 ∷ [] in
          let us = tokens_of after a.lexemes in
          (placed before (word name), us, refl, subst (λ x. colon_next x ≡ false) (append-nil us) (h.front after []), b.begins, a.means after);
      opens = λ known. refl;
      long = omega (arith, some, named, all);
      short = omega (arith, short, brief, few, all);
    }
  where
    name_long : (name : List ℕ) → is_name name ≡ true → 1 ≤ length name
    name_long [] h = absurd (cc)
    name_long (b ∷ bs) h = omega arith

pub without_operands : (name : List ℕ) (mnemonic : Mnemonic) (b : Begins name mnemonic) → AreOperands (slots mnemonic) [] [] → 3 ≤ length name → IsLineOf name (Instruction mnemonic [])
without_operands name mnemonic b a long =
    let brief : length name ≤ 20 = grind (arith, nat_tests, b.short) in
    record {
      name = name;
      more = [];
      is_text = append-nil name;
      stand = λ rest r. (name_spells name b.is_word, name_stops name rest r, tt);
      in_lines = name_in_line name b.is_word;
      says = λ before. (placed before (word name), [], refl, refl, b.begins, a);
      opens = λ known. refl;
      long = long;
      short = omega (arith, brief);
    }

-- ---- ranges

pub small_12 : (z : ℤ) → IsSigned12 z → IsSmall z
small_12 z h = bounded 2047 2047 (omega arith) (omega arith) z h.0 h.1

pub branch_small : (z : ℤ) → IsBranchOffset z → IsSmall z
branch_small z h = bounded 4095 4094 (omega arith) (omega arith) z h.0 h.1

pub jump_small : (z : ℤ) → IsJumpOffset z → IsSmall z
jump_small z h = bounded 1048575 1048574 (omega arith) (omega arith) z h.0 h.1

shift_small : (operation : ShiftOperation) (n : ℕ) → n < shift_limit operation → n < 2 ^ 64
shift_small Slli n lt = omega (arith, lt)
shift_small Srli n lt = omega (arith, lt)
shift_small Srai n lt = omega (arith, lt)
shift_small Slliw n lt = omega (arith, lt)
shift_small Srliw n lt = omega (arith, lt)
shift_small Sraiw n lt = omega (arith, lt)

-- ---- formats

register_is : (r : ℕ) → r < 32 → IsArgument A_register (abi r) (Register r ∷ [])
register_is r lt = of_register Any r (any_register r lt)

-- the last register of an operation that may have a constant in its place
source_last : (t : Bool) (r : ℕ) → r < 32 → AreArguments (source t) (abi r ∷ []) (Register r ∷ [])
source_last true r lt = chosen_last A_register A_register (last (A_value roles.Source)) (abi r) (Register r ∷ []) (register_is r lt)
source_last false r lt = ending A_register A_register (abi r) (Register r ∷ []) (register_is r lt)

-- a register and more
first : (r : ℕ) → r < 32 → (rest : Slots) (u : List ℕ) (ts : List (List ℕ)) (later : List Operand) → AreArguments rest (u ∷ ts) later
    → AreArguments (Takes A_register (Takes (A_comma A_register) rest)) (abi r ∷ u ∷ ts) (Register r ∷ later)
first r lt rest u ts later m = taken A_register A_register rest (abi r) u ts (Register r ∷ []) later (register_is r lt) m

upper_value : (op : UpperOperation) → targets (upper_role op) ≡ false
upper_value Lui = refl
upper_value Auipc = refl

fence_is : (x : FenceOperands) → x.pred < 16 → x.succ < 16 → is_tso x || is_between x ≡ true → IsLineOf (fence_text x) (fence_statement x)
fence_is x p s sourced = elim (cases_Bool (is_tso x)) [
  | inl tso ↦ rw tso (without_operands (codes "fence.tso") words.FenceTso begins_fence_tso (refl, refl) (omega arith))
  | inr other ↦ (let is : is_between x ≡ true = ap (λ t. t || is_between x) (sym other) ∙ sourced in rw (other, is) (
      let some : (0 < x.pred) × (0 < x.succ) = grind (arith, nat_tests, is) in
      with_operands (codes "fence") words.Fence (accesses x.pred) (accesses x.succ ∷ []) (Accesses (access_set x.pred) ∷ Accesses (access_set x.succ) ∷ []) begins_fence
      (chosen Some_accesses Some_accesses (last Some_accesses) (Ends_here A_register) (accesses x.pred) (accesses x.succ) [] (Accesses (access_set x.pred) ∷ []) (Accesses (access_set x.succ) ∷ [])
      (of_accesses x.pred some.0 p) (ending Some_accesses Some_accesses (accesses x.succ) (Accesses (access_set x.succ) ∷ []) (of_accesses x.succ some.1 s)))
      (omega arith)
      ))
]

pub word_is : (f : Format) → IsValidFormat f → has_source f ≡ true → IsLineOf (text_with distant f) (word_statement f)
word_is (Registers op x) (a, b, c) sourced = with_operands _ _ _ _ _ (begins_registers op) (first x.rd a _ _ _ _ (first x.rs1 b _ _ _ _ (source_last (is_some (with_constant op)) x.rs2 c))) (omega arith)
word_is (Immediate op x) (a, b, c) sourced = with_operands _ _ _ _ _ (begins_immediate op) (first x.rd a _ _ _ _ (first x.rs1 b _ _ _ _ (ending _ _ _ _ (of_signed roles.Operand refl x.immediate (small_12 x.immediate c))))) (omega arith)
word_is (Shift op x) (a, b, c) sourced = with_operands _ _ _ _ _ (begins_shift op) (first x.rd a _ _ _ _ (first x.rs1 b _ _ _ _ (ending _ _ _ _ (of_number roles.Operand refl (decimal x.amount) x.amount (decimal_numeral x.amount (shift_small op x.amount c)))))) (omega arith)
word_is (Upper op x) (a, c) sourced = with_operands _ _ _ _ _ (begins_upper op) (first x.rd a _ _ _ _ (ending _ _ _ _ (of_number (upper_role op) (upper_value op) (prefixed x.immediate) x.immediate (prefixed_numeral x.immediate (omega (arith, c)))))) (omega arith)
word_is (Load op x) (a, b, c) sourced = with_operands _ _ _ _ _ (begins_load op) (first x.rd a _ _ _ _ (located _ _ _ (of_address Any x.immediate x.rs1 (small_12 x.immediate c) (any_register x.rs1 b)))) (omega arith)
word_is (Store op x) (a, b, c) sourced = with_operands _ _ _ _ _ (begins_store op) (first x.rs2 b _ _ _ _ (located _ _ _ (of_address Any x.immediate x.rs1 (small_12 x.immediate c) (any_register x.rs1 a)))) (omega arith)
word_is (Branch op x) (a, b, c) sourced = with_operands _ _ _ _ _ (begins_branch op) (first x.rs1 a _ _ _ _ (first x.rs2 b _ _ _ _ (ending _ _ _ _ (of_target x.offset (branch_small x.offset c))))) (omega arith)
word_is (Jal x) (a, c) sourced = with_operands _ _ _ _ _ begins_jal (chosen _ _ _ _ _ _ _ _ _ (register_is x.rd a) (ending _ _ _ _ (of_target x.offset (jump_small x.offset c)))) (omega arith)
word_is (Jalr x) (a, b, c) sourced = with_operands _ _ _ _ _ begins_jalr (chosen_further _ _ _ _ _ _ _ _ _ _ (register_is x.rd a) (of_jump x.immediate x.rs1 (small_12 x.immediate c) b)) (omega arith)
word_is (LoadReserved double x) (a, b) sourced = with_operands _ _ _ _ _ (begins_reserved double x.acquire x.release) (first x.rd a _ _ _ _ (of_base x.rs1 b)) (omega arith)
word_is (Atomic op double x) (a, b, c) sourced = with_operands _ _ _ _ _ (begins_atomic op double x.acquire x.release) (first x.rd a _ _ _ _ (first x.rs2 c _ _ _ _ (of_base x.rs1 b))) (omega arith)
word_is (Fence x) (a, p, s, _, _) sourced = fence_is x p s sourced
word_is Ecall valid sourced = without_operands (codes "ecall") words.Ecall begins_ecall (refl, refl) (omega arith)
word_is Ebreak valid sourced = without_operands (codes "ebreak") words.Ebreak begins_ebreak (refl, refl) (omega arith)
