-- The rows of operations with an operand that is known: parts without open fields, the same whatever the form.

use Rattle.std.proofs.Common.{◌≡◌, ℕ, Bool, true, false, refl, sym, ap, ◌∙◌, ℤ, List, [], ◌∷◌, map, Option, Some, None, option_map}
use Rattle.std.specs.Prelude.{is_some}
use Rattle.rv_isa.specs.declared.instruction.Inst.{Inst}
use Rattle.rv_isa.specs.Operations.{of_immediate, of_shift, of_upper, of_load, of_store}
use Rattle.rv_isa_laws.specs.Arithmetic.{wrapped}
use Rattle.rv_parcel.specs.declared.form.Compressed.{Compressed}
use Rattle.rv_parcel.specs.Mnemonics.{shape_of}
use Rattle.rv_statement_laws.specs.declared.mnemonic.Mnemonic.{Mnemonic}
use Rattle.rv_statement_laws.specs.declared.mnemonic.Mnemonic.TheVariants as mnemonics
use Rattle.rv_statement_laws.specs.declared.pseudo.Function.{Function}
use Rattle.rv_statement_laws.specs.declared.pseudo.Function.TheVariants.{Hi, Lo, PcrelHi, PcrelLo}
use Rattle.rv_statement.specs.declared.statement.Operation.{Operation}
use Rattle.rv_statement.specs.declared.statement.Operation.TheVariants as operations
use Rattle.rv_statement.specs.declared.statement.Plain.{Plain}
use Rattle.rv_statement.specs.declared.statement.Plain.TheVariants as plains
use Rattle.rv_statement_laws.specs.Statement.{Expression}
use Rattle.rv_statement.specs.View.{plain_of, parcel_registers, with_operand}
use Rattle.rv_parse_laws.specs.Syntax.{with_constant}
use Rattle.rv_pseudo_laws.specs.Code.{Part, Closed, Open, Joined, Constants, i_type, s_type, u_type, shift_by, jalr, by_number, signed_12, upper_20, constant_number, by_constant, unary, named_form}
use Rattle.rv_pseudo_laws.specs.Filled.{are_closed}
use Rattle.rv_pseudo_laws.specs.Li.{li}
use Rattle.rv_pseudo_laws.proofs.FilledLemmas.{all_closed}
use Rattle.rv_pseudo.specs.declared.template.Template.{Template}
use Rattle.rv_pseudo.specs.Faults.{takes_target}
use Rattle.rv_pseudo.specs.Templates.{all_templates, number_operand, statement_with, operand, form_told}
use Rattle.rv_pseudo.specs.Templates as pseudo
use Rattle.rv_pseudo.proofs.InRangeLemmas.{is_taken}
use Rattle.rv_pseudo.proofs.ParcelRowsLemmas.{number_row, bare_row}
use Rattle.rv_pseudo.proofs.TableLemmas.{has_rows}
use Rattle.rv_source_laws.specs.Lines as lines
use Rattle.rv_instruction.specs.Code.{part_of, parts_in}
use Rattle.rv_instruction.specs.Opened.{are_free}
use Rattle.rv_instruction.proofs.NamedLemmas.{closed_form, code_same, same_operands, operand_same}

-- ---- a row by its constant alone

signed_same : (c : Constants) (function : Option Function) (store : Bool) (make : ℤ → Inst) (e : Expression)
    → signed_12 c store make (number_operand function e) ≡ signed_12 (λ t. c e) store make (number_operand function e)
signed_same c None store make e = refl
signed_same c (Some Hi) store make e = refl
signed_same c (Some Lo) store make e = refl
signed_same c (Some PcrelHi) store make e = refl
signed_same c (Some PcrelLo) store make e = refl

upper_same : (c : Constants) (function : Option Function) (make : ℕ → Inst) (e : Expression)
    → upper_20 c make (number_operand function e) ≡ upper_20 (λ t. c e) make (number_operand function e)
upper_same c None make e = refl
upper_same c (Some Hi) make e = refl
upper_same c (Some Lo) make e = refl
upper_same c (Some PcrelHi) make e = refl
upper_same c (Some PcrelLo) make e = refl

number_same : (c : Constants) (function : Option Function) (e : Expression) → constant_number c (number_operand function e) ≡ constant_number (λ t. c e) (number_operand function e)
number_same c None e = refl
number_same c (Some Hi) e = refl
number_same c (Some Lo) e = refl
number_same c (Some PcrelHi) e = refl
number_same c (Some PcrelLo) e = refl

constant_same : (c : Constants) (form : Option Mnemonic) (rd rs1 : ℕ) (function : Option Function) (e : Expression)
    → by_constant c form rd rs1 (number_operand function e) ≡ by_constant (λ t. c e) form rd rs1 (number_operand function e)
constant_same c (Some (mnemonics.Immediate i)) rd rs1 function e = signed_same c function false (λ k. of_immediate i (i_type rd rs1 k)) e
constant_same c (Some (mnemonics.Shift i)) rd rs1 function e = ap (by_number (λ k. of_shift i (shift_by rd rs1 (wrapped k)))) (number_same c function e)
constant_same c _ rd rs1 function e = refl

pub row_same : (operation : Operation) (function : Option Function) (c : Constants) (rvc : Bool) (bytes : ℕ) (other : Bool) (others : ℕ) (e : Expression)
    → takes_target operation ≡ false
    → lines.parts_by_size c rvc bytes (with_operand operation (number_operand function e)) ≡ pseudo.parts_of (λ t. c e) other others (with_operand operation (number_operand function e))
row_same (operations.Registers operation rd rs1) None c rvc bytes other others e away = constant_same c (with_constant operation) rd rs1 None e
row_same (operations.Registers operation rd rs1) (Some g) c rvc bytes other others e away = constant_same c (with_constant operation) rd rs1 (Some g) e
row_same (operations.Immediate operation rd rs1) function c rvc bytes other others e away = signed_same c function false (λ k. of_immediate operation (i_type rd rs1 k)) e
row_same (operations.Shift operation rd rs1) function c rvc bytes other others e away =
    ap (by_number (λ k. of_shift operation (shift_by rd rs1 (wrapped k)))) (number_same c function e)
row_same (operations.Upper operation rd) function c rvc bytes other others e away = upper_same c function (λ n. of_upper operation (u_type rd n)) e
row_same (operations.Load operation rd rs1) None c rvc bytes other others e away = signed_same c None false (λ k. of_load operation (i_type rd rs1 k)) e
row_same (operations.Load operation rd rs1) (Some g) c rvc bytes other others e away = signed_same c (Some g) false (λ k. of_load operation (i_type rd rs1 k)) e
row_same (operations.Store operation rs2 rs1) None c rvc bytes other others e away = signed_same c None true (λ k. of_store operation (s_type rs2 rs1 k)) e
row_same (operations.Store operation rs2 rs1) (Some g) c rvc bytes other others e away = signed_same c (Some g) true (λ k. of_store operation (s_type rs2 rs1 k)) e
row_same (operations.Jalr rd rs1) None c rvc bytes other others e away = signed_same c None false (jalr rd rs1) e
row_same (operations.Jalr rd rs1) (Some g) c rvc bytes other others e away = signed_same c (Some g) false (jalr rd rs1) e
row_same (operations.JalrThen rd rs1) None c rvc bytes other others e away = signed_same c None false (jalr rd rs1) e
row_same (operations.JalrThen rd rs1) (Some g) c rvc bytes other others e away = signed_same c (Some g) false (jalr rd rs1) e
row_same (operations.JalrLinked rs1) None c rvc bytes other others e away = signed_same c None false (jalr 1 rs1) e
row_same (operations.JalrLinked rs1) (Some g) c rvc bytes other others e away = signed_same c (Some g) false (jalr 1 rs1) e
row_same (operations.Jr rs) None c rvc bytes other others e away = signed_same c None false (jalr 0 rs) e
row_same (operations.Jr rs) (Some g) c rvc bytes other others e away = signed_same c (Some g) false (jalr 0 rs) e
row_same (operations.Li rd) function c rvc bytes other others e away = ap (option_map (λ k. map Closed (li rd k))) (number_same c function e)
row_same (operations.Parcel operation a b) function c rvc bytes other others e away =
    code_same c (λ t. c e) rvc other bytes others operation _ (same_operands c (λ t. c e) (shape_of operation) operation a b (number_operand function e) (number_same c function e))
row_same _ function c rvc bytes other others e away = absurd (cc)

-- whether there is a row, by the constant of the operand alone
pub rows_by : (operation : Operation) (function : Option Function) (c : Constants) (e : Expression)
    → has_rows c (statement_with operation function e) ≡ has_rows (λ t. c e) (statement_with operation function e)
rows_by (operations.Registers operation rd rs1) None c e = ap is_some (constant_same c (with_constant operation) rd rs1 None e)
rows_by (operations.Parcel operation a b) function c e =
    ap is_some (code_same c (λ t. c e) false false 4 4 operation _
    (same_operands c (λ t. c e) (shape_of operation) operation a b (operand (operations.Parcel operation a b) function e) (operand_same c operation a b function e)))
rows_by _ None c e = refl
rows_by (operations.Registers operation rd rs1) (Some f) c e = ap is_some (constant_same c (with_constant operation) rd rs1 (Some f) e)
rows_by _ (Some Hi) c e = refl
rows_by _ (Some Lo) c e = refl
rows_by _ (Some PcrelHi) c e = refl
rows_by _ (Some PcrelLo) c e = refl

-- ---- no field is open

each_back : (ps : List Part) → are_closed ps ≡ true → map part_of (all_templates ps) ≡ ps
each_back [] closed = refl
each_back (Closed i ∷ ps) closed = ap (λ t. Closed i ∷ t) (each_back ps closed)
each_back (Open k i ∷ ps) closed = absurd (cc)
each_back (Joined k i j ∷ ps) closed = absurd (cc)

parts_back : (ps : List Part) → are_closed ps ≡ true → parts_in (all_templates ps) ≡ ps
parts_back [] closed = refl
parts_back (Closed i ∷ []) closed = refl
parts_back (Closed i ∷ Closed j ∷ []) closed = refl
parts_back (Closed i ∷ Closed j ∷ Closed k ∷ ps) closed = ap (λ t. Closed i ∷ Closed j ∷ Closed k ∷ t) (each_back ps closed)
parts_back (Closed i ∷ Closed j ∷ Open k l ∷ ps) closed = absurd (cc)
parts_back (Closed i ∷ Closed j ∷ Joined k l m ∷ ps) closed = absurd (cc)
parts_back (Closed i ∷ Open k l ∷ ps) closed = absurd (cc)
parts_back (Closed i ∷ Joined k l m ∷ ps) closed = absurd (cc)
parts_back (Open k i ∷ ps) closed = absurd (cc)
parts_back (Joined k i j ∷ ps) closed = absurd (cc)

-- the parts of a row without open fields by its templates
pub row_back : (row : Option (List Part)) (found : List Template) → are_free row ≡ true → option_map all_templates row ≡ Some found → row ≡ Some (parts_in found)
row_back None found free e = absurd (cc)
row_back (Some ps) found free e =
    let same : all_templates ps ≡ found = cc in
    ap Some (sym (parts_back ps free) ∙ ap parts_in same)

pub row_all_closed : (row : Option (List Part)) (ps : List Part) → are_free row ≡ true → row ≡ Some ps → are_closed ps ≡ true
row_all_closed row ps free e = ap are_free (sym e) ∙ free

form_free : (named : Option Compressed) → are_free (closed_form named) ≡ true
form_free None = refl
form_free (Some form) = refl

-- of statements without an expression
pub plain_closed : (p : Plain) (c : Constants) (rvc : Bool) (bytes : ℕ) → are_free (pseudo.parts_of c rvc bytes (plain_of p)) ≡ true
plain_closed (plains.Unary operation rd rs) c rvc bytes = all_closed (unary rvc operation rd rs)
plain_closed (plains.Parcel operation a b) c rvc bytes = ap are_free (bare_row operation a b c rvc bytes) ∙ form_free (named_form c (mnemonics.Parcel operation) (parcel_registers operation a b))
plain_closed plains.Ecall c rvc bytes = refl
plain_closed _ c rvc bytes = refl

pub plain_same : (p : Plain) (c : Constants) (rvc : Bool) (bytes : ℕ) → lines.parts_by_size c rvc bytes (plain_of p) ≡ pseudo.parts_of c rvc bytes (plain_of p)
plain_same plains.Ecall c rvc bytes = refl
plain_same _ c rvc bytes = refl

-- of an operand that is a number, whatever its value, and of the upper or the lower part of a constant
abbrev pub is_known : Option Function → Option ℤ → Bool
is_known None number = true
is_known (Some Hi) number = is_some number
is_known (Some Lo) number = is_some number
is_known (Some PcrelHi) number = false
is_known (Some PcrelLo) number = false

by_number_free : (make : ℤ → Inst) (o : Option ℤ) → are_free (by_number make o) ≡ true
by_number_free make None = refl
by_number_free make (Some k) = refl

signed_free : (function : Option Function) (number : Option ℤ) (store : Bool) (make : ℤ → Inst) (e : Expression) → is_known function number ≡ true
    → are_free (signed_12 (λ t. number) store make (number_operand function e)) ≡ true
signed_free None number store make e known = by_number_free make number
signed_free (Some Hi) number store make e known = refl
signed_free (Some Lo) (Some k) store make e known = refl
signed_free (Some Lo) None store make e known = absurd (cc)
signed_free (Some PcrelHi) number store make e known = absurd (cc)
signed_free (Some PcrelLo) number store make e known = absurd (cc)

upper_free : (function : Option Function) (number : Option ℤ) (make : ℕ → Inst) (e : Expression) → is_known function number ≡ true
    → are_free (upper_20 (λ t. number) make (number_operand function e)) ≡ true
upper_free None number make e known = by_number_free (λ k. make (wrapped k)) number
upper_free (Some Hi) (Some k) make e known = refl
upper_free (Some Hi) None make e known = absurd (cc)
upper_free (Some Lo) number make e known = refl
upper_free (Some PcrelHi) number make e known = absurd (cc)
upper_free (Some PcrelLo) number make e known = absurd (cc)

li_free : (rd : ℕ) (o : Option ℤ) → are_free (option_map (λ k. map Closed (li rd k)) o) ≡ true
li_free rd None = refl
li_free rd (Some k) = all_closed (li rd k)

constant_free : (form : Option Mnemonic) (rd rs1 : ℕ) (function : Option Function) (number : Option ℤ) (e : Expression) → is_known function number ≡ true
    → are_free (by_constant (λ t. number) form rd rs1 (number_operand function e)) ≡ true
constant_free (Some (mnemonics.Immediate i)) rd rs1 function number e known = signed_free function number false (λ k. of_immediate i (i_type rd rs1 k)) e known
constant_free (Some (mnemonics.Shift i)) rd rs1 function number e known =
    by_number_free (λ k. of_shift i (shift_by rd rs1 (wrapped k))) (constant_number (λ t. number) (number_operand function e))
constant_free _ rd rs1 function number e known = refl

pub row_closed : (operation : Operation) (function : Option Function) (number : Option ℤ) (rvc : Bool) (bytes : ℕ) (e : Expression)
    → is_known function number ≡ true → takes_target operation ≡ false
    → are_free (pseudo.parts_of (λ t. number) rvc bytes (with_operand operation (number_operand function e))) ≡ true
row_closed (operations.Registers operation rd rs1) None n rvc bytes e f away = constant_free (with_constant operation) rd rs1 None n e f
row_closed (operations.Registers operation rd rs1) (Some g) n rvc bytes e f away = constant_free (with_constant operation) rd rs1 (Some g) n e f
row_closed (operations.Immediate operation rd rs1) function n rvc bytes e f away = signed_free function n false (λ k. of_immediate operation (i_type rd rs1 k)) e f
row_closed (operations.Shift operation rd rs1) function n rvc bytes e f away =
    by_number_free (λ k. of_shift operation (shift_by rd rs1 (wrapped k))) (constant_number (λ t. n) (number_operand function e))
row_closed (operations.Upper operation rd) function n rvc bytes e f away = upper_free function n (λ n. of_upper operation (u_type rd n)) e f
row_closed (operations.Load operation rd rs1) None n rvc bytes e f away = signed_free None n false (λ k. of_load operation (i_type rd rs1 k)) e f
row_closed (operations.Load operation rd rs1) (Some g) n rvc bytes e f away = signed_free (Some g) n false (λ k. of_load operation (i_type rd rs1 k)) e f
row_closed (operations.Store operation rs2 rs1) None n rvc bytes e f away = signed_free None n true (λ k. of_store operation (s_type rs2 rs1 k)) e f
row_closed (operations.Store operation rs2 rs1) (Some g) n rvc bytes e f away = signed_free (Some g) n true (λ k. of_store operation (s_type rs2 rs1 k)) e f
row_closed (operations.Jalr rd rs1) None n rvc bytes e f away = signed_free None n false (jalr rd rs1) e f
row_closed (operations.Jalr rd rs1) (Some g) n rvc bytes e f away = signed_free (Some g) n false (jalr rd rs1) e f
row_closed (operations.JalrThen rd rs1) None n rvc bytes e f away = signed_free None n false (jalr rd rs1) e f
row_closed (operations.JalrThen rd rs1) (Some g) n rvc bytes e f away = signed_free (Some g) n false (jalr rd rs1) e f
row_closed (operations.JalrLinked rs1) None n rvc bytes e f away = signed_free None n false (jalr 1 rs1) e f
row_closed (operations.JalrLinked rs1) (Some g) n rvc bytes e f away = signed_free (Some g) n false (jalr 1 rs1) e f
row_closed (operations.Jr rs) None n rvc bytes e f away = signed_free None n false (jalr 0 rs) e f
row_closed (operations.Jr rs) (Some g) n rvc bytes e f away = signed_free (Some g) n false (jalr 0 rs) e f
row_closed (operations.Li rd) function n rvc bytes e f away = li_free rd (constant_number (λ t. n) (number_operand function e))
row_closed (operations.Parcel operation a b) function n rvc bytes e f away =
    ap are_free (number_row operation a b function e (λ t. n) rvc bytes) ∙ form_free (form_told operation a b (constant_number (λ t. n) (number_operand function e)))
row_closed _ function n rvc bytes e f away = absurd (cc)

-- what a field takes of a constant is known
pub taken_known : (operation : Operation) (function : Option Function) (k : ℤ) → is_taken operation function (Some k) ≡ true → is_known function (Some k) ≡ true
taken_known operation None k taken = refl
taken_known operation (Some Hi) k taken = refl
taken_known operation (Some Lo) k taken = refl
taken_known operation (Some PcrelHi) k taken = absurd (cc)
taken_known operation (Some PcrelLo) k taken = absurd (cc)
