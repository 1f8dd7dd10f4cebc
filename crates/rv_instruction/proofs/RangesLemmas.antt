-- The instructions of a statement whose operands are known have them in range.

use Rattle.std.proofs.Common.{◌≡◌, ℕ, ℤ, Bool, true, List, [], ◌∷◌, Option, Some, None, option_map, Result, Ok, Err, refl, sym, ap, subst, ◌∙◌}
use Rattle.std.specs.Prelude.{not, ◌&&◌, IfOk}
use Rattle.std.specs.List.{AllByRecursion}
use Rattle.arrayvec.specs.ArrayVec.{ArrayVec}
use Rattle.rv_expression_laws.specs.Expression.{Leaf, Here}
use Rattle.rv_fault.specs.declared.source_fault.SourceCode.{SourceCode}
use Rattle.rv_statement_laws.specs.declared.pseudo.Function.{Function}
use Rattle.rv_statement_laws.specs.declared.pseudo.Function.TheVariants.{Hi, Lo, PcrelHi, PcrelLo}
use Rattle.rv_statement.specs.declared.statement.Operation.{Operation}
use Rattle.rv_statement.specs.declared.statement.Operation.TheVariants as operations
use Rattle.rv_statement.specs.declared.statement.Plain.{Plain}
use Rattle.rv_statement_laws.specs.Statement.{Expression, StatementKind, Label, Numbered, Instruction, Directs, Operand}
use Rattle.rv_statement.specs.View.{plain_of, with_operand}
use Rattle.rv_pseudo_laws.specs.Code.{Constants, Part, Closed, Open, Joined}
use Rattle.rv_pseudo_laws.specs.Valid.{IsOperandOf, IsValidPart}
use Rattle.rv_pseudo_laws.proofs.PartsLemmas.{code_valid}
use Rattle.rv_pseudo.specs.declared.template.Template.{Template}
use Rattle.rv_pseudo.specs.declared.template.Worth.{Worth}
use Rattle.rv_pseudo.specs.Faults.{worth_of, constant_in, mnemonic_of, with_part, known_as, takes_target, is_upper}
use Rattle.rv_pseudo.specs.Templates.{statement_with, number_operand, AnswersBare, AreTemplates, all_templates, operand}
use Rattle.rv_pseudo.proofs.InRangeLemmas.{is_taken, and_right, good_away, part_mnemonic}
use Rattle.rv_pseudo.proofs.TableLemmas.{part_statement}
use Rattle.rv_pseudo.proofs.RowsLemmas.{away_operand, target_operand}
use Rattle.rv_source_laws.specs.Lines as lines
use Rattle.rv_pseudo.specs.Templates as pseudo
use Rattle.rv_pseudo_laws.specs.Filled.{are_closed}
use Rattle.rv_instruction.specs.Code.{parts_in, IsCodable, AreCodable, AreInRange, MayHave}
use Rattle.rv_instruction.specs.Opened.{are_free}
use Rattle.rv_instruction.proofs.KnownRowsLemmas.{row_back, row_closed, row_all_closed, plain_same, plain_closed, taken_known}
use Rattle.rv_instruction.proofs.OpenRowsLemmas.{IsFit, asked_of}
use Rattle.rv_instruction.proofs.StatementKindsLemmas.{is_instruction, plain_instruction, operand_instruction, plain_row, bare_templates, IsOfNumber, AreAnswers, answered, constant_row, open_row_of, address_found, asked_offers}

-- parts with their operands in range, whose open fields are those of words or of parcels that there are
all_codable : (ps : List Part) → AllByRecursion IsValidPart ps → AllByRecursion IsFit ps → AllByRecursion IsCodable ps
all_codable [] valid fit = valid
all_codable (Closed i ∷ ps) (one, valid) (tt, fit) = (one, all_codable ps valid fit)
all_codable (Open k i ∷ ps) (one, valid) (is, fit) = ((one, is), all_codable ps valid fit)
all_codable (Joined k i j ∷ ps) (one, valid) (is, fit) = ((one.0, one.1, is), all_codable ps valid fit)

closed_fit : (ps : List Part) → are_closed ps ≡ true → AllByRecursion IsFit ps
closed_fit [] closed = tt
closed_fit (Closed i ∷ ps) closed = (tt, closed_fit ps closed)
closed_fit (Open k i ∷ ps) closed = absurd (cc)
closed_fit (Joined k i j ∷ ps) closed = absurd (cc)

valid_row : (kind : StatementKind) (c : Constants) (rvc : Bool) (bytes : ℕ) (ps : List Part) → is_instruction kind ≡ true
    → AreInRange c kind → lines.parts_by_size c rvc bytes kind ≡ Some ps → AllByRecursion IsValidPart ps
valid_row (Instruction mnemonic operands) c rvc bytes ps known ranges row = code_valid c rvc bytes mnemonic operands ps ranges row
valid_row (Label name) c rvc bytes ps known ranges row = absurd (cc)
valid_row (Numbered number) c rvc bytes ps known ranges row = absurd (cc)
valid_row (Directs directive) c rvc bytes ps known ranges row = absurd (cc)

abbrev pub nothing_known : Constants
nothing_known = λ e. None

pub plain_codable : (p : Plain) (rvc : Bool) (found : List Template) → ((c : Constants) → AreInRange c (plain_of p)) → ((bytes : ℕ) → AreTemplates rvc bytes (plain_of p) found) → AreCodable found
plain_codable p rvc found ranges are =
    let row = plain_row p rvc found are nothing_known 0 in
    let closed = row_all_closed _ _ (ap are_free (plain_same p nothing_known rvc 0) ∙ plain_closed p nothing_known rvc 0) row in
    all_codable (parts_in found) (valid_row (plain_of p) nothing_known rvc 0 (parts_in found) (plain_instruction p) (ranges nothing_known) row) (closed_fit _ closed)

pub bare_codable : (p : Plain) (rvc : Bool) (r : Result (ArrayVec Template) SourceCode) → ((c : Constants) → AreInRange c (plain_of p)) → AnswersBare rvc (plain_of p) r → IfOk r (λ t. AreCodable t.items)
bare_codable p rvc (Ok found) ranges are = plain_codable p rvc found.items ranges (bare_templates p rvc found are)
bare_codable p rvc (Err code) ranges are = tt

-- ---- with an operand

in_range : (operation : Operation) (function : Option Function) (k : ℤ) (e : Expression) → is_taken operation function (Some k) ≡ true
    → IsOperandOf (λ t. Some k) (mnemonic_of operation) (number_operand function e)
in_range operation None k e taken = and_right (not (takes_target operation)) _ taken
in_range operation (Some Hi) k e taken = and_right (is_upper operation) _ taken
in_range operation (Some Lo) k e taken = and_right (not (is_upper operation) && not (takes_target operation)) _ taken
in_range operation (Some PcrelHi) k e taken = absurd (cc)
in_range operation (Some PcrelLo) k e taken = absurd (cc)

constant_closed : (operation : Operation) (function : Option Function) (k : ℤ) (rvc : Bool) (bytes : ℕ) (found : ArrayVec Template) → IsOfNumber operation function (Some k) rvc bytes found → are_closed (parts_in found.items) ≡ true
constant_closed operation function k rvc bytes found is =
    let e = Leaf Here in
    let away = good_away operation function k is.taken in
    let closed = row_closed operation function (Some k) rvc bytes e (taken_known operation function k is.taken) away in
    row_all_closed _ _ closed (row_back _ found.items closed
    (ap (λ s. option_map all_templates (pseudo.parts_of (λ t. Some k) rvc bytes s)) (sym (ap (with_operand operation) (away_operand operation function e away))) ∙ is.rows e))

pub constant_codable : (operation : Operation) (function : Option Function) (k : ℤ) (rvc : Bool) (bytes : ℕ) (found : ArrayVec Template) → IsOfNumber operation function (Some k) rvc bytes found
    → ((c : Constants) (o : Operand) → IsOperandOf c (mnemonic_of operation) o → AreInRange c (with_operand operation o)) → AreCodable found.items
constant_codable operation function k rvc bytes found is ranges =
    let e = Leaf Here in
    let c : Constants = λ t. Some k in
    let spelled = ap (with_operand operation) (away_operand operation function e (good_away operation function k is.taken)) in
    all_codable (parts_in found.items)
    (valid_row (statement_with operation function e) c rvc 4 (parts_in found.items) (operand_instruction operation function e)
    (subst (AreInRange c) (sym spelled) (ranges c (number_operand function e) (in_range operation function k e is.taken)))
    (constant_row operation function k rvc bytes found is c e rvc 4 refl))
    (closed_fit _ (constant_closed operation function k rvc bytes found is))

-- ---- with an address

address_range : (operation : Operation) (function : Option Function) (e : Expression) → is_taken operation function None ≡ true → IsOperandOf nothing_known (mnemonic_of operation) (operand operation function e)
address_range operation (Some Hi) e taken = refl
address_range operation (Some Lo) e taken = refl
address_range operation (Some PcrelHi) e taken = tt
address_range operation (Some PcrelLo) e taken = tt
address_range operation None e taken = subst (IsOperandOf nothing_known (mnemonic_of operation)) (sym (target_operand operation None e refl taken)) tt

address_codable : (operation : Operation) (function : Option Function) (rvc : Bool) (bytes : ℕ) (found : ArrayVec Template) (e : Expression) → MayHave rvc (statement_with operation function e) bytes
    → IsOfNumber operation function None rvc bytes found
    → ((c : Constants) (o : Operand) → IsOperandOf c (mnemonic_of operation) o → AreInRange c (with_operand operation o)) → AreCodable found.items
address_codable operation function rvc bytes found e offers is ranges =
    let kind = statement_with operation function e in
    let row = open_row_of operation function rvc bytes found e is in
    let asked = asked_of kind bytes in
    subst (AllByRecursion IsCodable) (sym (address_found operation function rvc bytes found e is))
    (all_codable (row.F asked)
    (valid_row kind nothing_known rvc asked (row.F asked) (operand_instruction operation function e)
    (ranges nothing_known (operand operation function e) (address_range operation function e is.taken))
    (row.rows nothing_known rvc asked refl))
    (row.are.fit (asked_offers kind rvc bytes offers)))

-- ---- either

abbrev HasRanges : Operation → Type 0
HasRanges operation = (c : Constants) (o : Operand) → IsOperandOf c (mnemonic_of operation) o → AreInRange c (with_operand operation o)

part_operand : (operation : Operation) (o : Operand) → with_operand (with_part operation) o ≡ with_operand operation o
part_operand (operations.StoreSymbol operation rs2 rt) o = refl
part_operand (operations.Li rd) o = refl
part_operand _ o = refl

known_ranges : (operation : Operation) (function : Option Function) → HasRanges operation → HasRanges (known_as operation function)
known_ranges operation None ranges = ranges
known_ranges operation (Some f) ranges = λ c o is.
    subst (AreInRange c) (sym (part_operand operation o)) (ranges c o (subst (λ m. IsOperandOf c m o) (part_mnemonic operation) is))

by_number : (operation : Operation) (function : Option Function) (rvc : Bool) (bytes : ℕ) (found : ArrayVec Template) (number : Option ℤ) → IsOfNumber operation function number rvc bytes found
    → HasRanges operation → (e : Expression) → MayHave rvc (statement_with operation function e) bytes → AreCodable found.items
by_number operation function rvc bytes found (Some k) is ranges e offers = constant_codable operation function k rvc bytes found is ranges
by_number operation function rvc bytes found None is ranges e offers = address_codable operation function rvc bytes found e offers is ranges

pub operand_codable : (operation : Operation) (function : Option Function) (told : Worth) (rvc : Bool) (bytes : ℕ) (found : ArrayVec Template) → AreAnswers operation function told rvc bytes (Ok found)
    → HasRanges operation → (e : Expression) → MayHave rvc (statement_with operation function e) bytes → AreCodable found.items
operand_codable operation function told rvc bytes found answers ranges e offers =
    by_number (known_as operation function) function rvc bytes found (constant_in (worth_of told)) (answered operation function told rvc bytes found answers) (known_ranges operation function ranges) e
    (subst (λ kind. MayHave rvc kind bytes) (sym (part_statement operation function e)) offers)
