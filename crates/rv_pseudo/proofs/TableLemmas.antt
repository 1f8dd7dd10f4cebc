-- The faults of an operation with an operand are those of its statement.

use Rattle.std.proofs.Common.{◌≡◌, ℕ, Bool, true, false, List, [], ◌++◌, Option, Some, None, option_map, Ok, Err, refl, sym, ap, ◌∙◌, append-nil}
use Rattle.std.specs.Prelude.{◌==◌, is_some, if◌then◌else◌}
use Rattle.arrayvec.specs.ArrayVec.{ArrayVec}
use Rattle.rv_expression_laws.specs.Codes.{unsupported_here, lowest}
use Rattle.rv_fault.specs.declared.source_fault.SourceCode.{SourceCode}
use Rattle.rv_fault.specs.SourceFault.{source_fault_number, IsLowest}
use Rattle.rv_parcel.specs.declared.parcel.ParcelOperation.{ParcelOperation}
use Rattle.rv_parcel.specs.Mnemonics.{shape_of}
use Rattle.rv_statement_laws.specs.declared.mnemonic.Mnemonic.{Mnemonic}
use Rattle.rv_statement_laws.specs.declared.mnemonic.Mnemonic.TheVariants as mnemonics
use Rattle.rv_statement_laws.specs.declared.pseudo.Function.{Function}
use Rattle.rv_statement_laws.specs.declared.pseudo.Function.TheVariants.{Hi, Lo, PcrelHi, PcrelLo}
use Rattle.rv_statement.specs.declared.statement.Operation.{Operation}
use Rattle.rv_statement.specs.declared.statement.Operation.TheVariants as operations
use Rattle.rv_statement.specs.declared.statement.Plain.{Plain}
use Rattle.rv_statement.specs.declared.statement.Plain.TheVariants as plains
use Rattle.rv_statement_laws.specs.Statement.{StatementKind, Instruction, Expression, Operand, Applied}
use Rattle.rv_statement.specs.View.{parcel_registers, parcel_operands, shaped, plain_of, with_operand}
use Rattle.rv_parse_laws.specs.Syntax.{with_constant}
use Rattle.rv_pseudo_laws.specs.Code.{Part, Constants, constant_number as number_in, by_constant, far}
use Rattle.rv_pseudo_laws.specs.InstructionFaults.{Worth, target_faults, operand_faults, else_unplaced, has_row, faults}
use Rattle.rv_pseudo_laws.proofs.ParcelsLemmas.{parcel_code}
use Rattle.rv_pseudo.specs.declared.template.Manner.{Manner}
use Rattle.rv_pseudo.specs.declared.template.Template.{Template}
use Rattle.rv_pseudo.specs.Faults.{worth_of, known_as, is_upper, is_constant_form, is_placed, scratch_of, faults_of}
use Rattle.rv_pseudo.specs.Templates.{all_templates, constants_of, worths_of, parts_of, form_templates, faults_by, statement_with, Answers, AnswersBare, AreTemplates}
use Rattle.rv_pseudo.proofs.ParcelRowsLemmas.{register_faults, beside_faults, shaped_faults, told_open, told_none, value_none, part_none}
use Rattle.rv_pseudo.proofs.LowestLemmas.{lowest_same, unplaced, faultless}

-- ---- its statement

pub part_statement : (operation : Operation) (function : Option Function) (e : Expression) → statement_with (known_as operation function) function e ≡ statement_with operation function e
part_statement operation None e = refl
part_statement (operations.StoreSymbol operation rs2 rt) (Some f) e = refl
part_statement (operations.Li rd) (Some f) e = refl
part_statement _ (Some f) e = refl

-- whether a statement has a row
abbrev pub has_rows : Constants → StatementKind → Bool
has_rows v (Instruction mnemonic operands) = has_row v mnemonic operands
has_rows v _ = true

-- ---- its faults

pub plain_faults : (p : Plain) (v : Constants) (w : Expression → Worth) → faults v w (plain_of p) ≡ else_unplaced (has_rows v (plain_of p)) []
plain_faults (plains.Parcel operation a b) v w =
    ap (else_unplaced (has_rows v (plain_of (plains.Parcel operation a b)))) (register_faults w (mnemonics.Parcel operation) operation a b)
plain_faults plains.Ecall v w = refl
plain_faults _ v w = refl

alone : (placed : Bool) (cs : List ℕ) → else_unplaced placed (cs ++ []) ≡ else_unplaced placed cs
alone placed cs = ap (else_unplaced placed) (append-nil cs)

beside : (placed : Bool) (scratch cs : List ℕ) → else_unplaced placed (scratch ++ (cs ++ [])) ≡ else_unplaced placed (scratch ++ cs)
beside placed scratch cs = ap (λ t. else_unplaced placed (scratch ++ t)) (append-nil cs)

parcel_part_faults : (operation : ParcelOperation) (a b : ℕ) (f : Function) (e : Expression) (v : Constants) (w : Expression → Worth)
    → faults v w (statement_with (operations.Parcel operation a b) (Some f) e)
    ≡ else_unplaced (has_rows v (statement_with (operations.Parcel operation a b) (Some f) e)) (operand_faults w (mnemonics.Parcel operation) (Applied f e))
parcel_part_faults operation a b f e v w =
    ap (else_unplaced (has_rows v (statement_with (operations.Parcel operation a b) (Some f) e)))
    (beside_faults w (mnemonics.Parcel operation) (shape_of operation) operation a b (Applied f e))

pub with_faults : (operation : Operation) (function : Option Function) (e : Expression) (v : Constants) (w : Expression → Worth)
    → faults v w (statement_with operation function e) ≡ else_unplaced (has_rows v (statement_with operation function e)) (faults_of operation function (w e))
with_faults (operations.LoadSymbol operation rd) None e v w = beside (has_rows v (statement_with (operations.LoadSymbol operation rd) None e)) (scratch_of (operations.LoadSymbol operation rd)) (target_faults (w e))
with_faults (operations.StoreSymbol operation rs2 rt) None e v w = beside (has_rows v (statement_with (operations.StoreSymbol operation rs2 rt) None e)) (scratch_of (operations.StoreSymbol operation rs2 rt)) (target_faults (w e))
with_faults (operations.Call rd) None e v w = beside (has_rows v (statement_with (operations.Call rd) None e)) (scratch_of (operations.Call rd)) (target_faults (w e))
with_faults (operations.Jump rt) None e v w = beside (has_rows v (statement_with (operations.Jump rt) None e)) (scratch_of (operations.Jump rt)) (target_faults (w e))
with_faults (operations.Parcel operation a b) None e v w =
    ap (else_unplaced (has_rows v (statement_with (operations.Parcel operation a b) None e)))
    (beside_faults w (mnemonics.Parcel operation) (shape_of operation) operation a b (shaped (shape_of operation) e)
    ∙ shaped_faults w (mnemonics.Parcel operation) (shape_of operation) e)
with_faults operation None e v w = alone (has_rows v (statement_with operation None e)) (faults_of operation None (w e))
with_faults (operations.Li rd) (Some Hi) e v w = alone (has_rows v (statement_with (operations.Li rd) (Some Hi) e)) (faults_of (operations.Li rd) (Some Hi) (w e))
with_faults (operations.Li rd) (Some Lo) e v w = alone (has_rows v (statement_with (operations.Li rd) (Some Lo) e)) (faults_of (operations.Li rd) (Some Lo) (w e))
with_faults (operations.Li rd) (Some PcrelHi) e v w = alone (has_rows v (statement_with (operations.Li rd) (Some PcrelHi) e)) (faults_of (operations.Li rd) (Some PcrelHi) (w e))
with_faults (operations.Li rd) (Some PcrelLo) e v w = alone (has_rows v (statement_with (operations.Li rd) (Some PcrelLo) e)) (faults_of (operations.Li rd) (Some PcrelLo) (w e))
with_faults (operations.Parcel operation a b) (Some Hi) e v w = parcel_part_faults operation a b Hi e v w
with_faults (operations.Parcel operation a b) (Some Lo) e v w = parcel_part_faults operation a b Lo e v w
with_faults (operations.Parcel operation a b) (Some PcrelHi) e v w = parcel_part_faults operation a b PcrelHi e v w
with_faults (operations.Parcel operation a b) (Some PcrelLo) e v w = parcel_part_faults operation a b PcrelLo e v w
with_faults operation (Some Hi) e v w = alone (has_rows v (statement_with operation (Some Hi) e)) (faults_of operation (Some Hi) (w e))
with_faults operation (Some Lo) e v w = alone (has_rows v (statement_with operation (Some Lo) e)) (faults_of operation (Some Lo) (w e))
with_faults operation (Some PcrelHi) e v w = alone (has_rows v (statement_with operation (Some PcrelHi) e)) (faults_of operation (Some PcrelHi) (w e))
with_faults operation (Some PcrelLo) e v w = alone (has_rows v (statement_with operation (Some PcrelLo) e)) (faults_of operation (Some PcrelLo) (w e))

-- ---- whether it has a row, whatever its form

through_some : (zero : Bool) (ps qs : List Part) → is_some (if zero then None else Some ps) ≡ is_some (if zero then None else Some qs)
through_some true ps qs = refl
through_some false ps qs = refl

pub same_row : (operation : Operation) (function : Option Function) (e : Expression) (v : Constants) (rvc : Bool) (bytes : ℕ)
    → is_some (parts_of v rvc bytes (statement_with operation function e)) ≡ has_rows v (statement_with operation function e)
same_row (operations.Call rd) None e v rvc bytes = through_some (rd == 0) (far 8 rd rd) (far 4 rd rd)
same_row (operations.Jump rt) None e v rvc bytes = through_some (rt == 0) (far 8 0 rt) (far 4 0 rt)
same_row (operations.Parcel operation a b) None e v rvc bytes =
    ap is_some (parcel_code v rvc false bytes 4 operation (parcel_operands (shape_of operation) operation a b (shaped (shape_of operation) e)))
same_row _ None e v rvc bytes = refl
same_row (operations.Parcel operation a b) (Some f) e v rvc bytes =
    ap is_some (parcel_code v rvc false bytes 4 operation (parcel_operands (shape_of operation) operation a b (Applied f e)))
same_row (operations.Li rd) (Some f) e v rvc bytes = refl
same_row _ (Some f) e v rvc bytes = refl

-- ---- fields that do not take a part of a value

no_high : (v : Constants) (form : Option Mnemonic) (rd rs1 : ℕ) (e : Expression) → is_some (by_constant v form rd rs1 (Applied Hi e)) ≡ false
no_high v (Some (mnemonics.Immediate operation)) rd rs1 e = refl
no_high v (Some (mnemonics.Shift operation)) rd rs1 e = refl
no_high v _ rd rs1 e = refl

no_distance : (v : Constants) (form : Option Mnemonic) (rd rs1 : ℕ) (e : Expression) → is_some (by_constant v form rd rs1 (Applied PcrelHi e)) ≡ false
no_distance v (Some (mnemonics.Immediate operation)) rd rs1 e = refl
no_distance v (Some (mnemonics.Shift operation)) rd rs1 e = refl
no_distance v _ rd rs1 e = refl

no_form : (v : Constants) (form : Option Mnemonic) (rd rs1 : ℕ) (o : Operand) → is_constant_form form ≡ false → is_some (by_constant v form rd rs1 o) ≡ false
no_form v (Some (mnemonics.Immediate operation)) rd rs1 o bare = absurd (cc)
no_form v (Some (mnemonics.Shift operation)) rd rs1 o bare = absurd (cc)
no_form v _ rd rs1 o bare = refl

high_none : (operation : Operation) (v : Constants) (e : Expression) → is_upper operation ≡ false → has_rows v (with_operand operation (Applied Hi e)) ≡ false
high_none (operations.Registers operation rd rs1) v e away = no_high v (with_constant operation) rd rs1 e
high_none (operations.Upper operation rd) v e away = absurd (cc)
high_none (operations.Parcel operation a b) v e away = part_none operation a b Hi e v (told_open operation a b)
high_none _ v e away = refl

distance_none : (operation : Operation) (v : Constants) (e : Expression) → is_upper operation ≡ false → has_rows v (with_operand operation (Applied PcrelHi e)) ≡ false
distance_none (operations.Registers operation rd rs1) v e away = no_distance v (with_constant operation) rd rs1 e
distance_none (operations.Upper operation rd) v e away = absurd (cc)
distance_none (operations.Parcel operation a b) v e away = part_none operation a b PcrelHi e v (told_open operation a b)
distance_none _ v e away = refl

low_none : (operation : Operation) (v : Constants) (e : Expression) → is_placed operation (Some Lo) ≡ false → has_rows v (with_operand operation (Applied Lo e)) ≡ false
low_none (operations.Registers operation rd rs1) v e away = no_form v (with_constant operation) rd rs1 (Applied Lo e) away
low_none (operations.Upper operation rd) v e away = refl
low_none (operations.LoadSymbol operation rd) v e away = refl
low_none (operations.Branch operation rs1 rs2) v e away = refl
low_none (operations.ZeroBranch operation rs) v e away = refl
low_none (operations.SwappedBranch operation a b) v e away = refl
low_none (operations.Jal rd) v e away = refl
low_none operations.JalLinked v e away = refl
low_none operations.J v e away = refl
low_none (operations.La rd) v e away = refl
low_none (operations.Call rd) v e away = refl
low_none operations.CallLinked v e away = refl
low_none operations.Tail v e away = refl
low_none (operations.Jump rt) v e away = refl
low_none (operations.Parcel operation a b) v e away = part_none operation a b Lo e v (told_none operation a b (number_in v (Applied Lo e)) away)
low_none _ v e away = absurd (cc)

low_distance_none : (operation : Operation) (v : Constants) (e : Expression) → is_placed operation (Some PcrelLo) ≡ false → has_rows v (with_operand operation (Applied PcrelLo e)) ≡ false
low_distance_none (operations.Registers operation rd rs1) v e away = no_form v (with_constant operation) rd rs1 (Applied PcrelLo e) away
low_distance_none (operations.Upper operation rd) v e away = refl
low_distance_none (operations.LoadSymbol operation rd) v e away = refl
low_distance_none (operations.Branch operation rs1 rs2) v e away = refl
low_distance_none (operations.ZeroBranch operation rs) v e away = refl
low_distance_none (operations.SwappedBranch operation a b) v e away = refl
low_distance_none (operations.Jal rd) v e away = refl
low_distance_none operations.JalLinked v e away = refl
low_distance_none operations.J v e away = refl
low_distance_none (operations.La rd) v e away = refl
low_distance_none (operations.Call rd) v e away = refl
low_distance_none operations.CallLinked v e away = refl
low_distance_none operations.Tail v e away = refl
low_distance_none (operations.Jump rt) v e away = refl
low_distance_none (operations.Parcel operation a b) v e away = part_none operation a b PcrelLo e v (told_open operation a b)
low_distance_none _ v e away = absurd (cc)

pub row_none : (operation : Operation) (function : Option Function) (v : Constants) (e : Expression) → is_placed operation function ≡ false
    → has_rows v (statement_with operation function e) ≡ false
row_none (operations.Parcel operation a b) None v e away = value_none operation a b e v away
row_none _ None v e away = absurd (cc)
row_none operation (Some Hi) v e away = high_none operation v e away
row_none operation (Some PcrelHi) v e away = distance_none operation v e away
row_none operation (Some Lo) v e away = low_none operation v e away
row_none operation (Some PcrelLo) v e away = low_distance_none operation v e away

placed_by : (placed : Bool) (operation : Operation) (function : Option Function) (v : Constants) (e : Expression) → is_placed operation function ≡ placed
    → has_rows v (statement_with operation function e) ≡ true → placed ≡ true
placed_by true operation function v e is some = refl
placed_by false operation function v e is some = absurd (let none = sym (row_none operation function v e is) ∙ some in cc)

-- what has a row has a field that takes its operand
pub row_placed : (operation : Operation) (function : Option Function) (v : Constants) (e : Expression) → has_rows v (statement_with operation function e) ≡ true
    → is_placed operation function ≡ true
row_placed operation function v e some = placed_by (is_placed operation function) operation function v e refl some

-- ---- statements without an expression

pub some_of : (row : Option (List Part)) (found : List Template) → option_map all_templates row ≡ Some found → is_some row ≡ true
some_of None found e = absurd (cc)
some_of (Some ps) found e = refl

plain_row : (p : Plain) (v : Constants) (rvc : Bool) (bytes : ℕ) → is_some (parts_of v rvc bytes (plain_of p)) ≡ has_rows v (plain_of p)
plain_row (plains.Parcel operation a b) v rvc bytes = ap is_some (parcel_code v rvc false bytes 4 operation (parcel_registers operation a b))
plain_row _ v rvc bytes = refl

-- one that has a row has no fault
pub plain_sound : (p : Plain) (v : Constants) (w : Expression → Worth) (rvc : Bool) (bytes : ℕ) (found : List Template)
    → option_map all_templates (parts_of v rvc bytes (plain_of p)) ≡ Some found → faults v w (plain_of p) ≡ []
plain_sound p v w rvc bytes found row =
    let placed = sym (plain_row p v rvc bytes) ∙ some_of (parts_of v rvc bytes (plain_of p)) found row in
    plain_faults p v w ∙ faultless (has_rows v (plain_of p)) [] placed refl

pub bare_found : (p : Plain) (rvc : Bool) (found : ArrayVec Template) → ((bytes : ℕ) → AreTemplates rvc bytes (plain_of p) found.items)
    → AnswersBare rvc (plain_of p) (Ok found)
bare_found p rvc found are v w bytes = (plain_sound p v w rvc bytes found.items (are bytes v), are bytes v)

pub bare_unplaced : (p : Plain) (rvc : Bool) (code : SourceCode) → source_fault_number code ≡ unsupported_here → ((v : Constants) → has_rows v (plain_of p) ≡ false)
    → AnswersBare rvc (plain_of p) (Err code)
bare_unplaced p rvc code is away v w bytes = ap lowest (plain_faults p v w) ∙ unplaced (has_rows v (plain_of p)) [] (away v) refl ∙ ap Some (sym is)

-- ---- the code's answers

pub answer_found : (operation : Operation) (function : Option Function) (form : Manner) (found : ArrayVec Template) → faults_of operation function (worth_of form.worth) ≡ []
    → ((e : Expression) → form_templates form (statement_with operation function e) ≡ Some found.items) → (e : Expression)
    → Answers (faults_by form (statement_with operation function e)) (form_templates form (statement_with operation function e)) (Ok found)
answer_found operation function form found own rows e =
    let v = constants_of form in
    let placed = sym (same_row operation function e v form.rvc form.bytes) ∙ some_of (parts_of v form.rvc form.bytes (statement_with operation function e)) found.items (rows e) in
    (with_faults operation function e v (worths_of form) ∙ faultless _ _ placed own, rows e)

pub answer_fault : (operation : Operation) (function : Option Function) (form : Manner) (fault : Option SourceCode) (code : SourceCode) → fault ≡ Some code
    → IsLowest fault (faults_of operation function (worth_of form.worth)) → (e : Expression)
    → Answers (faults_by form (statement_with operation function e)) (form_templates form (statement_with operation function e)) (Err code)
answer_fault operation function form fault code is low e =
    ap lowest (with_faults operation function e (constants_of form) (worths_of form))
    ∙ lowest_same (has_rows (constants_of form) (statement_with operation function e)) (faults_of operation function (worth_of form.worth)) (source_fault_number code) (sym low ∙ ap (option_map source_fault_number) is)

pub answer_unplaced : (operation : Operation) (function : Option Function) (form : Manner) (code : SourceCode) → source_fault_number code ≡ unsupported_here
    → faults_of operation function (worth_of form.worth) ≡ [] → is_placed operation function ≡ false → (e : Expression)
    → Answers (faults_by form (statement_with operation function e)) (form_templates form (statement_with operation function e)) (Err code)
answer_unplaced operation function form code is own away e =
    ap lowest (with_faults operation function e (constants_of form) (worths_of form))
    ∙ unplaced _ _ (row_none operation function (constants_of form) e away) own ∙ ap Some (sym is)
