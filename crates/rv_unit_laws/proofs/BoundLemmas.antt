-- No statement changes the bindings of names: they stand in the tables from the start.

use Rattle.std.proofs.Common.{◌≡◌, ℕ, suc, Bool, true, false, List, [], ◌∷◌, refl, ◌∙◌, Option, Some, None}
use Rattle.std.specs.Prelude.{if◌then◌else◌}
use Rattle.rv_expression_laws.specs.Values.{Value}
use Rattle.rv_statement_laws.specs.Statement.{StatementKind, Label, Numbered, Instruction, Directs, Statement, Expression, Directive}
use Rattle.rv_statement_laws.specs.declared.directive.Choice.{Choice}
use Rattle.rv_unit_laws.specs.Bindings.{Bindings}
use Rattle.rv_unit_laws.specs.Sections.{Section, entered_by}
use Rattle.rv_unit_laws.specs.Contributions.{Contribution, Nothing, contribution}
use Rattle.rv_unit_laws.specs.Tables.{Tables, Assignment, here, value_by_tables, assigned_by, choice_in, may_set, is_defined, with_assignment, with_section, with_chosen, with_contribution, after_directive, after, after_all}
use Rattle.rv_unit_laws.proofs.EnteringLemmas.{entering}

if_bound : (b : Bool) (t u : Tables) (bindings : Bindings) → t.bindings ≡ bindings → u.bindings ≡ bindings → (if b then t else u).bindings ≡ bindings
if_bound true t u bindings e f = e
if_bound false t u bindings e f = f

section_bound : (t : Tables) (found : Option Section) → (with_section t found).bindings ≡ t.bindings
section_bound t None = refl
section_bound t (Some section) = entering (λ (u : Tables). u.bindings ≡ t.bindings) t section (λ n at. refl) (λ room. refl) refl

set_bound : (t : Tables) (found : Option Assignment) → (with_assignment t found).bindings ≡ t.bindings
set_bound t None = refl
set_bound t (Some s) = if_bound (may_set t s.ordinal s.name s.meaning) _ t t.bindings refl refl

chosen_bound : (t : Tables) (found : Option Choice) → (with_chosen t found).bindings ≡ t.bindings
chosen_bound t None = refl
chosen_bound t (Some choice) = refl

contribution_bound : (t : Tables) (v : Expression → Value) (c : Contribution) → (with_contribution t v c).bindings ≡ t.bindings
contribution_bound t v Nothing = refl
contribution_bound t v _ = refl

directive_bound : (t : Tables) (o : ℕ) (d : Directive) → (after_directive t o d).bindings ≡ t.bindings
directive_bound t o d =
    let v : Expression → Value = value_by_tables t false o (here t) in
    let entered = with_section t (entered_by d) in
    let named = with_assignment entered (assigned_by v o d) in
    contribution_bound (with_chosen named (choice_in d)) v (contribution d) ∙ chosen_bound named (choice_in d)
    ∙ set_bound entered (assigned_by v o d) ∙ section_bound t (entered_by d)

bound_after : (t : Tables) (o : ℕ) (s : StatementKind) → (after t o s).bindings ≡ t.bindings
bound_after t o (Label name) = if_bound (is_defined t o name) t _ t.bindings refl refl
bound_after t o (Numbered number) = refl
bound_after t o (Instruction mnemonic operands) = refl
bound_after t o (Directs d) = directive_bound t o d

pub bound_all : (t : Tables) (o : ℕ) (ss : List Statement) → (after_all t o ss).bindings ≡ t.bindings
bound_all t o [] = refl
bound_all t o (s ∷ ss) = bound_all (after t o s.kind) (suc o) ss ∙ bound_after t o s.kind
