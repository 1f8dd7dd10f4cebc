-- A statement that is one instruction.

use Rattle.std.proofs.Common.{◌≡◌, ℕ, Bool, true, false, refl, sym, ap, ◌∙◌, subst, ℤ, List, [], ◌∷◌, Option, Some, None, Ok}
use Rattle.std.specs.Prelude.{IfSome, ◌&&◌, is_some}
use Rattle.arrayvec.specs.ArrayVec.{ArrayVec}
use Rattle.rv_isa.specs.declared.instruction.Inst.{Inst}
use Rattle.rv_isa.specs.Ranges.{IsValid}
use Rattle.rv_isa_laws.specs.Arithmetic.{signed}
use Rattle.rv_expression_laws.specs.Expression.{Primary}
use Rattle.rv_expression_laws.specs.Values as values
use Rattle.rv_expression.specs.declared.evaluation.Value.{Value}
use Rattle.rv_expression.specs.declared.evaluation.Value.TheVariants.{Constant}
use Rattle.rv_expression.specs.Eval.{value_told}
use Rattle.rv_statement.specs.declared.statement.Operation.{Operation}
use Rattle.rv_statement.specs.declared.statement.Plain.{Plain}
use Rattle.rv_statement.specs.declared.statement.Plain.TheVariants as plains
use Rattle.rv_statement_laws.specs.Statement.{Operand, Expression, Statement, StatementKind}
use Rattle.rv_statement.specs.View.{plain_of, with_operand}
use Rattle.rv_pseudo_laws.specs.Code.{Closed, Constants}
use Rattle.rv_pseudo_laws.specs.Filled.{are_closed}
use Rattle.rv_pseudo_laws.specs.InstructionFaults.{else_unplaced}
use Rattle.rv_pseudo_laws.specs.Valid.{IsOperandOf}
use Rattle.rv_pseudo.specs.declared.template.Template.{Template}
use Rattle.rv_pseudo.specs.declared.template.Worth.TheVariants as told
use Rattle.rv_pseudo.specs.Faults.{mnemonic_of}
use Rattle.rv_pseudo.specs.Templates.{plain, says_more, parts_of, statement_with, AnswersBare, AreTemplates, IsBareOne, IsOne}
use Rattle.rv_pseudo.proofs.TableLemmas.{has_rows, plain_faults, some_of}
use Rattle.rv_assemble_laws.specs.Coded.{IsCodedPart, AreCodedParts}
use Rattle.rv_instruction.specs.declared.encoded.Encoded.{Encoded}
use Rattle.rv_instruction.specs.Code.{encoded_bytes, alone, worth_for, AreCodable, AreInRange, IsExpanded, IsOneOf}
use Rattle.rv_instruction.proofs.RangesLemmas.{plain_codable, constant_codable}
use Rattle.rv_instruction.proofs.StatementKindsLemmas.{AreAnswers, answered, operand_found}

-- ---- without an expression

pub plain_valid : (p : Plain) (found : Option Inst) → ((c : Constants) → AreInRange c (plain_of p)) → IsBareOne (plain_of p) (says_more p) found → IfSome found (λ i. IsValid i)
plain_valid p None ranges are = tt
plain_valid p (Some i) ranges are = (plain_codable p false (plain i ∷ []) ranges (are false)).0

plain_placed : (p : Plain) (c : Constants) → has_rows c (plain_of p) ≡ is_some (parts_of c false 4 (plain_of p))
plain_placed plains.Ecall c = refl
plain_placed _ c = refl

one_bare : (p : Plain) (i : Inst) → ((rvc : Bool) (bytes : ℕ) → AreTemplates rvc bytes (plain_of p) (plain i ∷ [])) → (rvc : Bool) → AnswersBare rvc (plain_of p) (Ok (alone i))
one_bare p i are rvc c w bytes = (
  plain_faults p c w ∙ ap (λ b. else_unplaced b []) (plain_placed p c ∙ some_of (parts_of c false 4 (plain_of p)) (plain i ∷ []) (are false 4 c)),
  are rvc bytes c,
)

pub plain_alone : (p : Plain) (found : Option Inst) → IsBareOne (plain_of p) (says_more p) found
    → IfSome found (λ i. (rvc : Bool) → AnswersBare rvc (plain_of p) (Ok (alone i)))
plain_alone p None are = tt
plain_alone p (Some i) are = one_bare p i are

-- of templates that are one
pub lone_valid : (found : List Template) (one : Option Inst) → AreCodable found → IfSome one (λ i. found ≡ plain i ∷ []) → IfSome one (λ i. IsValid i)
lone_valid found None codable is = tt
lone_valid found (Some i) codable is = (subst AreCodable is codable).0

pub lone_answers : (rvc : Bool) (kind : StatementKind) (found : ArrayVec Template) (one : Option Inst) → AnswersBare rvc kind (Ok found) → IfSome one (λ i. found.items ≡ plain i ∷ [])
    → IfSome one (λ i. AnswersBare rvc kind (Ok (alone i)))
lone_answers rvc kind found None are is = tt
lone_answers rvc kind found (Some i) are is = λ v w bytes. ((are v w bytes).0, (are v w bytes).1 ∙ ap Some is)

-- ---- with a constant

pub constant_alone : (operation : Operation) (n : ℕ) (z : ℤ) → z ≡ signed 64 n → (found : Option Inst) → IfSome found (λ i. IsOne operation z i)
    → IfSome found (λ i. IsOne operation (signed 64 n) i)
constant_alone operation n z e None is = tt
constant_alone operation n z e (Some i) is = subst (λ (k : ℤ). IsOne operation k i) e is

one_answers : (operation : Operation) (k : ℤ) (i : Inst) → IsOne operation k i → (rvc : Bool) (bytes : ℕ) → AreAnswers operation None (told.Number k) rvc bytes (Ok (alone i))
one_answers operation k i one rvc bytes e = (one.sound rvc bytes e, one.is rvc bytes e)

pub constant_valid : (operation : Operation) (k : ℤ) (found : Option Inst)
    → ((c : Constants) (o : Operand) → IsOperandOf c (mnemonic_of operation) o → AreInRange c (with_operand operation o))
    → IfSome found (λ i. IsOne operation k i) → IfSome found (λ i. IsValid i)
constant_valid operation k None ranges is = tt
constant_valid operation k (Some i) ranges is =
    (constant_codable operation None k false 4 (alone i) (answered operation None (told.Number k) false 4 (alone i) (one_answers operation k i is false 4)) ranges).0

pub told_alone : (operation : Operation) (value : Value) (n : ℕ) → value ≡ Constant n → (found : Option Inst) → IfSome found (λ i. IsOne operation (signed 64 n) i)
    → IfSome found (λ i. (v : values.Value) → value_told value v → IsOneOf operation v i)
told_alone operation value n e None is = tt
told_alone operation value n e (Some i) is = λ v said. (n, (subst (λ r. value_told r v) e said, is))

pub one_expanded : (operation : Operation) (x : Expression) (s : Statement) (v : Expression → values.Value) (l : Primary → Bool) (rvc : Bool) (bytes : ℕ) (i : Inst)
    → s.kind ≡ statement_with operation None x → IsOneOf operation (v x) i → IsExpanded rvc bytes v l s (Ok (alone i))
one_expanded operation x s v l rvc bytes i says (n, (e, one)) =
    operand_found operation None x v l (told.Number (signed 64 n)) (ap (worth_for None l) (sym e)) s rvc bytes (alone i) says (one_answers operation (signed 64 n) i one rvc bytes)

-- ---- the code

pub coded_alone : (rvc : Bool) (i : Inst) (e : Encoded) → IsCodedPart None rvc (Closed i) (encoded_bytes e)
    → AreCodedParts None (rvc && are_closed (Closed i ∷ [])) (Closed i ∷ []) (encoded_bytes e ∷ [])
coded_alone true i e h = (h, tt)
coded_alone false i e h = (h, tt)
