-- What the statements of instructions have, by their kinds.

use Rattle.std.proofs.Common.{◌≡◌, ℕ, List, [], ◌∷◌, Option, Some, None, Bool, true, false, map, Result, Ok, Err, refl, sym, ap, ◌∙◌, subst, ℤ, pos, length, option_map}
use Rattle.std.proofs.lemmas.Bool.{and_right}
use Rattle.std.specs.Prelude.{◌&&◌, is_some}
use Rattle.arrayvec.specs.ArrayVec.{ArrayVec}
use Rattle.rv_expression_laws.specs.Expression.{Primary, Leaf, Here}
use Rattle.rv_expression_laws.specs.Values as values
use Rattle.rv_fault.specs.declared.source_fault.SourceCode.{SourceCode}
use Rattle.rv_fault.specs.declared.source_fault.SourceFault.{SourceFault}
use Rattle.rv_fault.specs.declared.source_fault.SourceFault.TheVariants.{At, OutOfMemory}
use Rattle.rv_statement_laws.specs.Statement.{Expression, Statement, StatementKind, Label, Numbered, Instruction, Directs}
use Rattle.rv_statement.specs.View.{plain_of, with_operand}
use Rattle.rv_statement_laws.specs.declared.pseudo.Function.{Function}
use Rattle.rv_statement.specs.declared.statement.Operation.{Operation}
use Rattle.rv_statement.specs.declared.statement.Operation.TheVariants as operations
use Rattle.rv_statement.specs.declared.statement.Plain.{Plain}
use Rattle.rv_statement.specs.declared.statement.Plain.TheVariants as plains
use Rattle.rv_expression_laws.specs.Codes.{lowest}
use Rattle.rv_statement_laws.specs.declared.mnemonic.Mnemonic.TheVariants as mnemonics
use Rattle.rv_size_laws.specs.declared.item.Forms.{Forms}
use Rattle.rv_pseudo_laws.specs.Code.{Part, Constants}
use Rattle.rv_pseudo_laws.specs.Filled.{are_closed, code_bytes}
use Rattle.rv_pseudo.specs.declared.template.Manner.{Manner}
use Rattle.rv_pseudo.specs.declared.template.Template.{Template}
use Rattle.rv_pseudo.specs.declared.template.Worth.{Worth}
use Rattle.rv_pseudo.specs.Faults.{worth_of, constant_in, known_as, takes_target, is_placed, is_written, is_bad_scratch, faults_of}
use Rattle.rv_pseudo.specs.Templates.{all_templates, form_templates, constants_of, worths_of, faults_by, statement_with, number_operand, asked_bytes, Answers, AnswersBare, AreTemplates}
use Rattle.rv_pseudo.specs.Templates as pseudo
use Rattle.rv_pseudo.proofs.InRangeLemmas.{is_taken, sound_taken, good_away, good_scratch, target_alone}
use Rattle.rv_pseudo.proofs.LowestLemmas.{none_of_its_own}
use Rattle.rv_pseudo.proofs.RowsLemmas.{away_operand}
use Rattle.rv_pseudo.proofs.TableLemmas.{part_statement, has_rows, with_faults, row_placed}
use Rattle.rv_source_laws.specs.Lines as lines
use Rattle.rv_source_laws.specs.Lines.{form_in}
use Rattle.rv_assemble_laws.specs.Coded.{constants, joined, AreCodedParts}
use Rattle.rv_pseudo_laws.specs.InstructionFaults.{Number, else_unplaced}
use Rattle.rv_assemble_laws.specs.InstructionFaults.{instruction_faults, worths}
use Rattle.rv_instruction.specs.declared.encoded.Coded.{Coded}
use Rattle.rv_instruction.specs.Code.{coded_by, shape_in, shape_of, parts_in, asks_label, worth_for, near_forms_of, OffersAny, MayHave, AreCodable, HasCode, Codes, HasTemplates, IsExpanded}
use Rattle.rv_instruction.proofs.EncodingLemmas.{coded_bytes, counted}
use Rattle.rv_instruction.proofs.KnownRowsLemmas.{row_same, rows_by, row_back, row_closed, plain_closed, plain_same, taken_known}
use Rattle.rv_instruction.proofs.OpenRowsLemmas.{OpenRow, asked_of, open_row}
use Rattle.rv_instruction.proofs.WorthsLemmas.{same_worth, constant_worth}

-- ---- a statement of code by its row

abbrev pub is_instruction : StatementKind → Bool
is_instruction (Instruction mnemonic operands) = true
is_instruction _ = false

-- the rows of a statement have these parts
pub record HasRows (v : Expression → values.Value) (rvc : Bool) (bytes : ℕ) (kind : StatementKind) (ps : List Part) : Type 0 where
  pub asked : lines.parts_by_size (constants v) rvc (asked_of kind bytes) kind ≡ Some ps
  pub own : (size : ℕ) → (are_closed ps ≡ false → size ≡ code_bytes ps) → lines.parts_by_size (constants v) rvc size kind ≡ Some ps
  pub near : OffersAny (near_forms_of rvc kind) bytes → is_some (near_forms_of rvc kind) ≡ true → (are_closed ps ≡ false) × (code_bytes ps ≡ bytes)

has_row : (kind : StatementKind) (v : Expression → values.Value) (rvc : Bool) (bytes : ℕ) (found : List Template) → is_instruction kind ≡ true
    → HasRows v rvc bytes kind (parts_in found) → HasTemplates v rvc bytes kind found
has_row (Instruction mnemonic operands) v rvc bytes found known rows = record { asked = rows.asked; own = rows.own; near = rows.near }
has_row (Label name) v rvc bytes found known rows = absurd (cc)
has_row (Numbered number) v rvc bytes found known rows = absurd (cc)
has_row (Directs directive) v rvc bytes found known rows = absurd (cc)

never_near : {A : Type 0} (forms : Option Forms) → forms ≡ None → is_some forms ≡ true → A
never_near forms e some = absurd (cc)

-- the same row whatever its bytes, where no form is near
steady : (kind : StatementKind) (v : Expression → values.Value) (rvc : Bool) (bytes : ℕ) (ps : List Part) → near_forms_of rvc kind ≡ None
    → ((size : ℕ) → lines.parts_by_size (constants v) rvc size kind ≡ Some ps) → HasRows v rvc bytes kind ps
steady kind v rvc bytes ps none rows = record {
  asked = rows (asked_of kind bytes);
  own = λ size is. rows size;
  near = λ offers some. never_near _ none some;
}

-- ---- without an expression

pub plain_instruction : (p : Plain) → is_instruction (plain_of p) ≡ true
plain_instruction plains.Ecall = refl
plain_instruction _ = refl

plain_near : (p : Plain) (rvc : Bool) → near_forms_of rvc (plain_of p) ≡ None
plain_near plains.Ecall rvc = refl
plain_near _ rvc = refl

pub plain_row : (p : Plain) (rvc : Bool) (found : List Template) → ((bytes : ℕ) → AreTemplates rvc bytes (plain_of p) found)
    → (c : Constants) (bytes : ℕ) → lines.parts_by_size c rvc bytes (plain_of p) ≡ Some (parts_in found)
plain_row p rvc found are c bytes = plain_same p c rvc bytes ∙ row_back _ found (plain_closed p c rvc bytes) (are bytes c)

pub bare_templates : (p : Plain) (rvc : Bool) (found : ArrayVec Template) → AnswersBare rvc (plain_of p) (Ok found) → (bytes : ℕ) → AreTemplates rvc bytes (plain_of p) found.items
bare_templates p rvc found are bytes c = (are c (λ e. Number (pos 0)) bytes).1

pub plain_expanded : (p : Plain) (s : Statement) (bytes : ℕ) (v : Expression → values.Value) (l : Primary → Bool) (rvc : Bool) (found : ArrayVec Template)
    → s.kind ≡ plain_of p → AnswersBare rvc (plain_of p) (Ok found) → IsExpanded rvc bytes v l s (Ok found)
plain_expanded p s bytes v l rvc found e are = (
  ap (instruction_faults v l) e ∙ (are (constants v) (worths v l) bytes).0,
  subst (λ k. HasTemplates v rvc bytes k found.items) (sym e)
      (has_row (plain_of p) v rvc bytes found.items (plain_instruction p)
      (steady (plain_of p) v rvc bytes (parts_in found.items) (plain_near p rvc) (plain_row p rvc found.items (bare_templates p rvc found are) (constants v)))),
)

pub plain_refused : (p : Plain) (s : Statement) (bytes line : ℕ) (v : Expression → values.Value) (l : Primary → Bool) (rvc : Bool) (code : SourceCode)
    → s.kind ≡ plain_of p → s.line ≡ line → AnswersBare rvc (plain_of p) (Err code) → IsExpanded rvc bytes v l s (Err (At code line))
plain_refused p s bytes line v l rvc code e at are = (ap lowest (ap (instruction_faults v l) e) ∙ are (constants v) (worths v l) bytes, sym at)

-- ---- with an operand

pub operand_instruction : (operation : Operation) (function : Option Function) (e : Expression) → is_instruction (statement_with operation function e) ≡ true
operand_instruction (operations.Li rd) None e = refl
operand_instruction _ None e = refl
operand_instruction (operations.Li rd) (Some f) e = refl
operand_instruction _ (Some f) e = refl

-- an operation with a number or an address, which its field takes, and what the table's code answers
pub record IsOfNumber (operation : Operation) (function : Option Function) (number : Option ℤ) (rvc : Bool) (bytes : ℕ) (found : ArrayVec Template) : Type 0 where
  pub taken : is_taken operation function number ≡ true
  pub scratch : takes_target operation ≡ true → is_bad_scratch operation ≡ false
  pub written : takes_target operation ≡ true → is_written operation ≡ true
  pub rows : (e : Expression) → option_map all_templates (pseudo.parts_of (λ t. number) rvc bytes (statement_with operation function e)) ≡ Some found.items

abbrev pub form_with : Worth → Bool → ℕ → Manner
form_with told rvc bytes = record { worth = told; bytes = bytes; rvc = rvc }

abbrev pub AreAnswers : Operation → Option Function → Worth → Bool → ℕ → Result (ArrayVec Template) SourceCode → Type 0
AreAnswers operation function told rvc bytes r =
    (e : Expression)
    → Answers (faults_by (form_with told rvc bytes) (statement_with operation function e)) (form_templates (form_with told rvc bytes) (statement_with operation function e)) r

placed_written : (operation : Operation) (function : Option Function) → is_placed operation function ≡ true → function ≡ None → is_written (known_as operation function) ≡ true
placed_written operation None placed alone = placed
placed_written operation (Some f) placed alone = absurd (cc)

pub answered : (operation : Operation) (function : Option Function) (told : Worth) (rvc : Bool) (bytes : ℕ) (found : ArrayVec Template) → AreAnswers operation function told rvc bytes (Ok found)
    → IsOfNumber (known_as operation function) function (constant_in (worth_of told)) rvc bytes found
answered operation function told rvc bytes found answers =
    let form = form_with told rvc bytes in
    let x = Leaf Here in
    let own = none_of_its_own (has_rows (constants_of form) (statement_with operation function x)) (faults_of operation function (worth_of told))
    (sym (with_faults operation function x (constants_of form) (worths_of form)) ∙ (answers x).0) in
    let placed = row_placed operation function (constants_of form) x own.0 in
    let taken = sound_taken operation function (worth_of told) own.1 placed in
    record {
      taken = taken;
      written = λ target. placed_written operation function placed (target_alone (known_as operation function) function _ taken target);
      scratch = λ target. good_scratch operation function (worth_of told) own.1 (target_alone (known_as operation function) function _ taken target) target;
      rows = λ e. ap (form_templates form) (part_statement operation function e) ∙ (answers e).1;
    }

-- ---- with a constant

-- the parts of an operation with a constant, in any form
pub constant_row : (operation : Operation) (function : Option Function) (k : ℤ) (rvc : Bool) (bytes : ℕ) (found : ArrayVec Template) → IsOfNumber operation function (Some k) rvc bytes found
    → (c : Constants) (e : Expression) (other : Bool) (size : ℕ) → c e ≡ Some k → lines.parts_by_size c other size (statement_with operation function e) ≡ Some (parts_in found.items)
constant_row operation function k rvc bytes found is c e other size constant =
    let away = good_away operation function k is.taken in
    let spelled = ap (with_operand operation) (away_operand operation function e away) in
    ap (lines.parts_by_size c other size) spelled ∙ row_same operation function c other size rvc bytes e away
    ∙ ap (λ o. pseudo.parts_of (λ t. o) rvc bytes (with_operand operation (number_operand function e))) constant
    ∙ row_back _ found.items (row_closed operation function (Some k) rvc bytes e (taken_known operation function k is.taken) away)
    (ap (λ s. option_map all_templates (pseudo.parts_of (λ t. Some k) rvc bytes s)) (sym spelled) ∙ is.rows e)

known_row : (operation : Operation) (function : Option Function) (k : ℤ) (rvc : Bool) (bytes : ℕ) (found : ArrayVec Template) → IsOfNumber (known_as operation function) function (Some k) rvc bytes found
    → (v : Expression → values.Value) (x : Expression) (other : Bool) (size : ℕ) → constants v x ≡ Some k
    → lines.parts_by_size (constants v) other size (statement_with operation function x) ≡ Some (parts_in found.items)
known_row operation function k rvc bytes found is v x other size e =
    ap (lines.parts_by_size (constants v) other size) (sym (part_statement operation function x))
    ∙ constant_row (known_as operation function) function k rvc bytes found is (constants v) x other size e

away_near : (operation : Operation) (function : Option Function) (rvc : Bool) (e : Expression) → takes_target operation ≡ false → near_forms_of rvc (statement_with operation function e) ≡ None
away_near (operations.Li rd) None rvc e away = refl
away_near (operations.Registers operation rd rs1) None rvc e away = refl
away_near (operations.Immediate operation rd rs1) None rvc e away = refl
away_near (operations.Shift operation rd rs1) None rvc e away = refl
away_near (operations.Upper operation rd) None rvc e away = refl
away_near (operations.Load operation rd rs1) None rvc e away = refl
away_near (operations.Store operation rs2 rs1) None rvc e away = refl
away_near (operations.Jalr rd rs1) None rvc e away = refl
away_near (operations.JalrThen rd rs1) None rvc e away = refl
away_near (operations.JalrLinked rs1) None rvc e away = refl
away_near (operations.Jr rs) None rvc e away = refl
away_near (operations.Parcel operation a b) None rvc e away = refl
away_near (operations.Li rd) (Some f) rvc e away = refl
away_near (operations.Registers operation rd rs1) (Some f) rvc e away = refl
away_near (operations.Immediate operation rd rs1) (Some f) rvc e away = refl
away_near (operations.Shift operation rd rs1) (Some f) rvc e away = refl
away_near (operations.Upper operation rd) (Some f) rvc e away = refl
away_near (operations.Load operation rd rs1) (Some f) rvc e away = refl
away_near (operations.Store operation rs2 rs1) (Some f) rvc e away = refl
away_near (operations.Jalr rd rs1) (Some f) rvc e away = refl
away_near (operations.JalrThen rd rs1) (Some f) rvc e away = refl
away_near (operations.JalrLinked rs1) (Some f) rvc e away = refl
away_near (operations.Jr rs) (Some f) rvc e away = refl
away_near (operations.Parcel operation a b) (Some f) rvc e away = refl
away_near _ function rvc e away = absurd (cc)

constant_rows : (operation : Operation) (function : Option Function) (k : ℤ) (rvc : Bool) (bytes : ℕ) (found : ArrayVec Template) → IsOfNumber (known_as operation function) function (Some k) rvc bytes found
    → (v : Expression → values.Value) (x : Expression) → constants v x ≡ Some k → HasRows v rvc bytes (statement_with operation function x) (parts_in found.items)
constant_rows operation function k rvc bytes found is v x e =
    let known = known_as operation function in
    let away = good_away known function k is.taken in
    let none = ap (near_forms_of rvc) (sym (part_statement operation function x)) ∙ away_near known function rvc x away in
    steady (statement_with operation function x) v rvc bytes (parts_in found.items) none (λ size. known_row operation function k rvc bytes found is v x rvc size e)

-- ---- with an address

-- what the table's code answers has the parts of the row
open_found : (kind : StatementKind) (rvc : Bool) (bytes : ℕ) (found : List Template) (e : Expression) (row : OpenRow kind e (near_forms_of rvc kind) (asked_of kind bytes)) → is_instruction kind ≡ true
    → option_map all_templates (pseudo.parts_of (λ t. None) rvc bytes kind) ≡ Some found → parts_in found ≡ row.F (asked_of kind bytes)
open_found (Instruction mnemonic operands) rvc bytes found e row is answers =
    let same : Some found ≡ Some (all_templates (row.F (asked_bytes mnemonic bytes))) = sym answers ∙ ap (option_map all_templates) (row.rows (λ t. None) rvc (asked_bytes mnemonic bytes) refl) in
    let equal : found ≡ all_templates (row.F (asked_bytes mnemonic bytes)) = cc in
    ap parts_in equal ∙ row.are.back
open_found (Label name) rvc bytes found e row is answers = absurd (cc)
open_found (Numbered number) rvc bytes found e row is answers = absurd (cc)
open_found (Directs directive) rvc bytes found e row is answers = absurd (cc)

steps : (forms : Option Forms) (kind : StatementKind) (bytes : ℕ) (rvc : Bool) → near_forms_of rvc kind ≡ forms → OffersAny forms bytes → is_some forms ≡ true → asked_of kind bytes ≡ bytes
steps forms (Label name) bytes rvc e offers some = refl
steps forms (Numbered number) bytes rvc e offers some = refl
steps forms (Directs directive) bytes rvc e offers some = refl
steps forms (Instruction mnemonics.Call operands) bytes rvc e offers some = sym (subst (λ f. OffersAny f bytes) (sym e) offers)
steps forms (Instruction mnemonics.Tail operands) bytes rvc e offers some = sym (subst (λ f. OffersAny f bytes) (sym e) offers)
steps forms (Instruction mnemonics.Jump operands) bytes rvc e offers some = sym (subst (λ f. OffersAny f bytes) (sym e) offers)
steps forms (Instruction _ operands) bytes rvc e offers some = refl

pub asked_offers : (kind : StatementKind) (rvc : Bool) (bytes : ℕ) → OffersAny (near_forms_of rvc kind) bytes → OffersAny (near_forms_of rvc kind) (asked_of kind bytes)
asked_offers kind rvc bytes offers = offers_by (near_forms_of rvc kind) refl offers
  where
    offers_by : (forms : Option Forms) → near_forms_of rvc kind ≡ forms → OffersAny forms bytes → OffersAny forms (asked_of kind bytes)
    offers_by None e o = o
    offers_by (Some f) e o = subst (OffersAny (Some f)) (sym (steps (Some f) kind bytes rvc e o refl)) o

open_rows_at : (kind : StatementKind) (v : Expression → values.Value) (rvc : Bool) (bytes : ℕ) (e : Expression) (row : OpenRow kind e (near_forms_of rvc kind) (asked_of kind bytes)) → constants v e ≡ None
    → HasRows v rvc bytes kind (row.F (asked_of kind bytes))
open_rows_at kind v rvc bytes e row none = record {
  asked = row.rows (constants v) rvc (asked_of kind bytes) none;
  own = λ size is. row.rows (constants v) rvc size none ∙ ap (λ n. Some (row.F n)) (is row.are.left) ∙ ap Some row.are.same;
  near = λ offers some.
      let asks = steps _ kind bytes rvc refl offers some in
      (row.are.left, row.are.near (subst (OffersAny (near_forms_of rvc kind)) (sym asks) offers) some ∙ asks);
}

-- the row of an operation with an address
pub open_row_of : (operation : Operation) (function : Option Function) (rvc : Bool) (bytes : ℕ) (found : ArrayVec Template) (e : Expression) → IsOfNumber operation function None rvc bytes found
    → OpenRow (statement_with operation function e) e (near_forms_of rvc (statement_with operation function e)) (asked_of (statement_with operation function e) bytes)
open_row_of operation function rvc bytes found e is = open_row operation function rvc bytes e is.scratch is.written is.taken

pub address_found : (operation : Operation) (function : Option Function) (rvc : Bool) (bytes : ℕ) (found : ArrayVec Template) (e : Expression) → (is : IsOfNumber operation function None rvc bytes found)
    → parts_in found.items ≡ (open_row_of operation function rvc bytes found e is).F (asked_of (statement_with operation function e) bytes)
address_found operation function rvc bytes found e is =
    open_found (statement_with operation function e) rvc bytes found.items e (open_row_of operation function rvc bytes found e is) (operand_instruction operation function e) (is.rows e)

address_rows : (operation : Operation) (function : Option Function) (rvc : Bool) (bytes : ℕ) (found : ArrayVec Template) → IsOfNumber (known_as operation function) function None rvc bytes found
    → (v : Expression → values.Value) (x : Expression) → constants v x ≡ None → HasRows v rvc bytes (statement_with operation function x) (parts_in found.items)
address_rows operation function rvc bytes found is v x none =
    let known = known_as operation function in
    let row = open_row_of known function rvc bytes found x is in
    subst (λ kind. HasRows v rvc bytes kind (parts_in found.items)) (part_statement operation function x)
    (subst (HasRows v rvc bytes (statement_with known function x)) (sym (address_found known function rvc bytes found x is))
    (open_rows_at (statement_with known function x) v rvc bytes x row none))

built_rows : (operation : Operation) (function : Option Function) (rvc : Bool) (bytes : ℕ) (found : ArrayVec Template) (number : Option ℤ) → IsOfNumber (known_as operation function) function number rvc bytes found
    → (v : Expression → values.Value) (x : Expression) → constants v x ≡ number → HasRows v rvc bytes (statement_with operation function x) (parts_in found.items)
built_rows operation function rvc bytes found (Some k) is v x e = constant_rows operation function k rvc bytes found is v x e
built_rows operation function rvc bytes found None is v x e = address_rows operation function rvc bytes found is v x e

-- ---- either

module _ (operation : Operation) (function : Option Function) (x : Expression) (v : Expression → values.Value) (l : Primary → Bool) (told : Worth) (worth_is : worth_of told ≡ worth_for function l (v x)) where
  constant_is : constants v x ≡ constant_in (worth_of told)
  constant_is = sym (ap constant_in worth_is ∙ constant_worth (λ q. asks_label function && l q) (v x))

  -- its faults are those that were asked for
  same_faults : (rvc : Bool) (bytes : ℕ) → instruction_faults v l (statement_with operation function x) ≡ faults_by (form_with told rvc bytes) (statement_with operation function x)
  same_faults rvc bytes =
      let kind = statement_with operation function x in
      let form = form_with told rvc bytes in
      with_faults operation function x (constants v) (worths v l)
      ∙ ap (else_unplaced (has_rows (constants v) kind)) (sym (same_worth operation function l (v x)) ∙ ap (faults_of operation function) (sym worth_is))
      ∙ ap (λ b. else_unplaced b (faults_of operation function (worth_of told))) (rows_by operation function (constants v) x ∙ ap (λ o. has_rows (λ t. o) kind) constant_is)
      ∙ sym (with_faults operation function x (constants_of form) (worths_of form))

  pub operand_found : (s : Statement) (rvc : Bool) (bytes : ℕ) (found : ArrayVec Template) → s.kind ≡ statement_with operation function x → AreAnswers operation function told rvc bytes (Ok found)
      → IsExpanded rvc bytes v l s (Ok found)
  operand_found s rvc bytes found says answers = (
    ap (instruction_faults v l) says ∙ same_faults rvc bytes ∙ (answers x).0,
    subst (λ k. HasTemplates v rvc bytes k found.items) (sym says)
        (has_row (statement_with operation function x) v rvc bytes found.items (operand_instruction operation function x)
        (built_rows operation function rvc bytes found (constant_in (worth_of told)) (answered operation function told rvc bytes found answers) v x constant_is)),
  )

  pub operand_refused : (s : Statement) (rvc : Bool) (bytes line : ℕ) (code : SourceCode) → s.kind ≡ statement_with operation function x → s.line ≡ line → AreAnswers operation function told rvc bytes (Err code)
      → IsExpanded rvc bytes v l s (Err (At code line))
  operand_refused s rvc bytes line code says at answers = (ap lowest (ap (instruction_faults v l) says ∙ same_faults rvc bytes) ∙ answers x, sym at)

-- ---- as it lies in memory

nothing : (ps : List Part) (found : List Coded) → ps ≡ [] → map shape_in found ≡ map shape_of ps → found ≡ []
nothing ps [] e same = refl
nothing [] (c ∷ cs) e same = absurd (cc)
nothing (p ∷ ps) (c ∷ cs) e same = absurd (cc)

has_code : (kind : StatementKind) (v : Expression → values.Value) (rvc : Bool) (bytes : ℕ) (ts : List Template) (found : List Coded) → HasTemplates v rvc bytes kind ts → MayHave rvc kind bytes → AreCodable ts → form_in (constants v) kind ≡ None
    → AreCodedParts None (rvc && are_closed (parts_in ts)) (parts_in ts) (coded_by found) → map shape_in found ≡ map shape_of (parts_in ts) → HasCode v rvc bytes kind found
has_code (Instruction mnemonic operands) v rvc bytes ts found rows offers codable unnamed coded shapes =
    let size : are_closed (parts_in ts) ≡ false → length (joined (coded_by found)) ≡ code_bytes (parts_in ts) = λ left. coded_bytes _ (parts_in ts) (coded_by found) (and_right rvc _ left) codable coded in
    record {
      is = record {
        ps = parts_in ts;
        parts = rows.own (length (joined (coded_by found))) size;
        coded_as = subst (λ n. AreCodedParts n (rvc && are_closed (parts_in ts)) (parts_in ts) (coded_by found)) (sym unnamed) coded;
        size = refl;
        count = counted (parts_in ts) found shapes;
      };
      asked = rows.asked;
      shapes = shapes;
      near = λ some. let near = rows.near offers some in size near.0 ∙ near.1;
    }
has_code (Label name) v rvc bytes ts found none offers codable unnamed coded shapes = nothing (parts_in ts) found (ap parts_in none) shapes
has_code (Numbered number) v rvc bytes ts found none offers codable unnamed coded shapes = nothing (parts_in ts) found (ap parts_in none) shapes
has_code (Directs directive) v rvc bytes ts found none offers codable unnamed coded shapes = nothing (parts_in ts) found (ap parts_in none) shapes

pub codes_of : (rvc : Bool) (bytes : ℕ) (v : Expression → values.Value) (l : Primary → Bool) (s : Statement) (ts : ArrayVec Template) (found : ArrayVec Coded)
    → IsExpanded rvc bytes v l s (Ok ts) → MayHave rvc s.kind bytes → AreCodable ts.items → form_in (constants v) s.kind ≡ None
    → AreCodedParts None (rvc && are_closed (parts_in ts.items)) (parts_in ts.items) (coded_by found.items)
    → map shape_in found.items ≡ map shape_of (parts_in ts.items) → Codes rvc bytes v l s (Ok found)
codes_of rvc bytes v l s ts found (sound, has) offers codable unnamed coded shapes = (sound, has_code s.kind v rvc bytes ts.items found.items has offers codable unnamed coded shapes)

pub refused_codes : (rvc : Bool) (bytes : ℕ) (v : Expression → values.Value) (l : Primary → Bool) (s : Statement) (f : SourceFault) → IsExpanded rvc bytes v l s (Err f) → Codes rvc bytes v l s (Err f)
refused_codes rvc bytes v l s (At code at) is = is
refused_codes rvc bytes v l s OutOfMemory is = is
