-- The first fault, statement by statement.

use Rattle.std.proofs.Common.{◌≡◌, ℕ, suc, ◌+◌, List, ◌∷◌, drop, sym, ap, ◌∙◌, arith, Option, Some, None, option_map}
use Rattle.rv_fault.specs.declared.source_fault.SourceCode.{SourceCode}
use Rattle.rv_fault.specs.SourceFault.{source_fault_number, IsLowest}
use Rattle.rv_statement_laws.specs.Statement.{Statement as SpecStatement}
use Rattle.rv_unit_laws.specs.Tables.{after, tables}
use Rattle.rv_expression_laws.specs.Codes.{lowest}
use Rattle.rv_unit_laws.specs.Faults.{faults, at_line, first_fault_from}
use Rattle.rv_unit.specs.Unit.{passed}

-- a statement without a fault is passed over
pub check_more : (ss : List SpecStatement) (i : ℕ) (x : SpecStatement) → drop i ss ≡ x ∷ drop (i + 1) ss → lowest (faults (tables ss) (passed ss i) (i + 1) x.kind) ≡ None → passed ss (i + 1) ≡ after (passed ss i) (i + 1) x.kind
    → first_fault_from (tables ss) (passed ss i) (i + 1) (drop i ss) ≡ first_fault_from (tables ss) (passed ss (i + 1)) (i + 1 + 1) (drop (i + 1) ss)
check_more ss i x next none more =
    ap (first_fault_from (tables ss) (passed ss i) (i + 1)) next
    ∙ ap (λ f. at_line x.line f (first_fault_from (tables ss) (after (passed ss i) (i + 1) x.kind) (suc (i + 1)) (drop (i + 1) ss))) none
    ∙ ap (λ t. first_fault_from (tables ss) t (suc (i + 1)) (drop (i + 1) ss)) (sym more)
    ∙ ap (λ n. first_fault_from (tables ss) (passed ss (i + 1)) n (drop (i + 1) ss)) (let e : suc (i + 1) ≡ i + 1 + 1 = omega arith in e)

-- one with a fault is the first
pub check_found : (ss : List SpecStatement) (i code : ℕ) (x : SpecStatement) → drop i ss ≡ x ∷ drop (i + 1) ss → lowest (faults (tables ss) (passed ss i) (i + 1) x.kind) ≡ Some code
    → first_fault_from (tables ss) (passed ss i) (i + 1) (drop i ss) ≡ Some (record { code = code; line = x.line })
check_found ss i code x next found =
    ap (first_fault_from (tables ss) (passed ss i) (i + 1)) next
    ∙ ap (λ f. at_line x.line f (first_fault_from (tables ss) (after (passed ss i) (i + 1) x.kind) (suc (i + 1)) (drop (i + 1) ss))) found

-- the lowest code of a statement, by what was found
pub check_lowest : (ss : List SpecStatement) (i : ℕ) (x : SpecStatement) (found same : Option SourceCode) → IsLowest found (faults (tables ss) (passed ss i) (i + 1) x.kind) → found ≡ same
    → lowest (faults (tables ss) (passed ss i) (i + 1) x.kind) ≡ option_map source_fault_number same
check_lowest ss i x found same low at = sym low ∙ ap (option_map source_fault_number) at
