-- An operation with a constant that is one instruction.

use Rattle.std.proofs.Common.{◌≡◌, ℕ, Bool, true, false, refl, sym, ap, ◌∙◌, ℤ, [], ◌∷◌, Option, Some, None}
use Rattle.std.specs.Prelude.{IfSome, unwrap_or}
use Rattle.rv_isa.specs.declared.instruction.Inst.{Inst}
use Rattle.rv_statement.specs.declared.statement.Operation.{Operation}
use Rattle.rv_statement.specs.declared.statement.Operation.TheVariants as operations
use Rattle.rv_statement_laws.specs.Statement.{Expression}
use Rattle.rv_statement.specs.View.{with_operand}
use Rattle.rv_pseudo_laws.specs.Code.{Closed}
use Rattle.rv_pseudo_laws.specs.InstructionFaults.{Number}
use Rattle.rv_pseudo.specs.Faults.{takes_target, is_placed, faults_of}
use Rattle.rv_pseudo.specs.Templates.{plain, all_templates, form_templates, constants_of, worths_of, parts_of, form_by, statement_with, is_store, Puts, ArePut, says_more_with, IsNumberedOne, IsUnnamed, IsOne}
use Rattle.rv_pseudo.proofs.InRangeLemmas.{is_taken, value_sound}
use Rattle.rv_pseudo.proofs.LowestLemmas.{faultless}
use Rattle.rv_pseudo.proofs.RowsLemmas.{away_operand, row_some, row_known}
use Rattle.rv_pseudo.proofs.TableLemmas.{with_faults, same_row, some_of}

one_put : (i : Inst) → ArePut None i (Some (Closed i ∷ []))
one_put i parts h = ap (λ o. all_templates (unwrap_or o [])) (sym h)

-- a constant is put under no relocation
known_put : (number : ℤ) (store : Bool) → Puts None (Some number) store number None
known_put number store = (λ make e. one_put (make number), λ make e. one_put _, λ k e h. (ap (λ o. unwrap_or o number) (sym h), refl))

whole_placed : (operation : Operation) → says_more_with operation ≡ false → is_placed operation None ≡ true
whole_placed (operations.Parcel operation a b) whole = absurd (cc)
whole_placed _ whole = refl

whole_unnamed : (operation : Operation) → says_more_with operation ≡ false → (e : Expression) → IsUnnamed (statement_with operation None e)
whole_unnamed (operations.Parcel operation a b) whole e v = absurd (cc)
whole_unnamed _ whole e v = refl

one_row : (operation : Operation) (number : ℤ) (i : Inst) → is_taken operation None (Some number) ≡ true → takes_target operation ≡ false → says_more_with operation ≡ false
    → IsNumberedOne operation number (Some i)
    → (rvc : Bool) (bytes : ℕ) (e : Expression) → form_templates (form_by number rvc bytes) (statement_with operation None e) ≡ Some (plain i ∷ [])
one_row operation number i taken away whole one rvc bytes e =
    ap (λ o. form_templates (form_by number rvc bytes) (with_operand operation o)) (away_operand operation None e away)
    ∙ row_known _ _ (row_some operation None (Some number) rvc bytes e taken away (whole_placed operation whole))
    (λ parts row. one None None (Some number) rvc bytes e parts (known_put number (is_store operation)) row)

pub one_of : (operation : Operation) (number : ℤ) (found : Option Inst) → faults_of operation None (Number number) ≡ [] → takes_target operation ≡ false
    → IsNumberedOne operation number found → IfSome found (λ i. says_more_with operation ≡ false) → IfSome found (λ i. IsOne operation number i)
one_of operation number None own away one whole = tt
one_of operation number (Some i) own away one whole =
    let rows = one_row operation number i (value_sound operation (Number number) own) away whole one in
    record {
      sound = λ rvc bytes e.
          let form = form_by number rvc bytes in
          with_faults operation None e (constants_of form) (worths_of form)
          ∙ faultless _ _ (sym (same_row operation None e (constants_of form) rvc bytes) ∙ some_of (parts_of (constants_of form) rvc bytes (statement_with operation None e)) _ (rows rvc bytes e)) own;
      is = rows;
      unnamed = whole_unnamed operation whole;
    }
