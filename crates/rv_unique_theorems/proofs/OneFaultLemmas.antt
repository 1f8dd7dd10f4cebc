-- Statements are refused for one fault.

use Rattle.std.proofs.Common.{◌≡◌, List, [], ◌∷◌, sym, ap, ◌∙◌, Some, None, inl, inr}
use Rattle.std.specs.Prelude.{Option}
use Rattle.rv_statement_laws.specs.Statement.{Statement}
use Rattle.rv_unit_laws.specs.Tables.{tables}
use Rattle.rv_unit_laws.specs.Faults.{StatementFault}
use Rattle.rv_source_laws.specs.Located.{located}
use Rattle.rv_assemble_laws.specs.Refusals.{size_fault_from, IsTooLong, statements_fault, IsStatementsFault}
use Rattle.rv_unique_theorems.proofs.CodeSizesLemmas.{one_code_sizes}

same_some : (f g : StatementFault) → ◌≡◌ {A = Option StatementFault} (Some f) (Some g) → f ≡ g
same_some f g e = cc

none_some : (f : StatementFault) (o : Option StatementFault) → o ≡ None → o ≡ Some f → ⊥
none_some f o a b = absurd (let clash : ◌≡◌ {A = Option StatementFault} None (Some f) = sym a ∙ b in cc)

-- the sizes of code are the least, so one section becomes too long first
one_too_long : (ss : List Statement) (f g : StatementFault) → IsTooLong ss f → IsTooLong ss g → f ≡ g
one_too_long ss f g h k =
    let ls = located (ss ∷ []) in
    same_some f g
    (sym h.fault
    ∙ ap (size_fault_from (λ j. 0) ls) (one_code_sizes (tables ss) ls h.sizes k.sizes h.are_sizes k.are_sizes h.least k.least)
    ∙ k.fault)

pub one_fault : (ss : List Statement) (f g : StatementFault) → IsStatementsFault ss f → IsStatementsFault ss g → f ≡ g
one_fault ss f g (inl h) (inl k) = same_some f g (sym h ∙ k)
one_fault ss f g (inl h) (inr (none, long)) = absurd (none_some f (statements_fault ss) none h)
one_fault ss f g (inr (none, long)) (inl k) = absurd (none_some g (statements_fault ss) none k)
one_fault ss f g (inr (none, long)) (inr (same, other)) = one_too_long ss f g long other
