-- A source without a fault has no more statements than it may have.

use Rattle.std.proofs.Common.{◌≡◌, ℕ, zero, suc, ◌≤◌, List, [], ◌∷◌, length, drop, refl, ap, Option, Some, None}
use Rattle.std.specs.Prelude.{slice_get}
use Rattle.std.proofs.lemmas.List.{drop_all}
use Rattle.rv_list_laws.proofs.TakeDropLemmas.{none_past}
use Rattle.rv_expression_laws.specs.Codes.{limit}
use Rattle.rv_statement_laws.specs.Limits.{most_statements}
use Rattle.rv_statement_laws.specs.Statement.{Statement}
use Rattle.rv_unit_laws.specs.Tables.{at_start, tables}
use Rattle.rv_unit_laws.specs.Faults.{StatementFault, past_most, first_fault_from, first_unit_fault}

few_within : (n : ℕ) (ss : List Statement) (others : Option StatementFault) → past_most (drop n ss) others ≡ None → (length ss ≤ n) × (others ≡ None)
few_within n ss others e = go (drop n ss) refl e
  where
    go : (more : List Statement) → drop n ss ≡ more → past_most more others ≡ None → (length ss ≤ n) × (others ≡ None)
    go [] is f = (none_past n ss is, f)
    go (s ∷ more) is f = absurd (cc)

pub few : (ss : List Statement) → first_unit_fault ss ≡ None → length ss ≤ most_statements
few ss e = (few_within most_statements ss (first_fault_from (tables ss) (at_start ss) 1 ss) e).0

-- and then no statement has one
pub no_fault_from : (ss : List Statement) → first_unit_fault ss ≡ None → first_fault_from (tables ss) (at_start ss) 1 ss ≡ None
no_fault_from ss e = (few_within most_statements ss (first_fault_from (tables ss) (at_start ss) 1 ss) e).1

-- of statements that are not too many the first faulty one counts
pub first_of_few : (ss : List Statement) → length ss ≤ most_statements → first_unit_fault ss ≡ first_fault_from (tables ss) (at_start ss) 1 ss
first_of_few ss few = ap (λ more. past_most more (first_fault_from (tables ss) (at_start ss) 1 ss)) (drop_all most_statements ss few)

-- else the first that is too many
past_at : (n : ℕ) (ss : List Statement) (s : Statement) (others : Option StatementFault) → slice_get ss n ≡ Some s → past_most (drop n ss) others ≡ Some (record { code = limit; line = s.line })
past_at n [] s others e = absurd (cc)
past_at zero (x ∷ ss) s others e = ap (past_most_of others) e
  where
    past_most_of : Option StatementFault → Option Statement → Option StatementFault
    past_most_of others None = others
    past_most_of others (Some x) = Some (record { code = limit; line = x.line })
past_at (suc n) (x ∷ ss) s others e = past_at n ss s others e

pub first_past : (ss : List Statement) (s : Statement) → slice_get ss most_statements ≡ Some s → first_unit_fault ss ≡ Some (record { code = limit; line = s.line })
first_past ss s e = past_at most_statements ss s (first_fault_from (tables ss) (at_start ss) 1 ss) e
