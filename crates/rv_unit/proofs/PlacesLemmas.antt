-- Values whose names have places, as none is set.

use Rattle.std.proofs.Common.{◌≡◌, ℕ, Bool, true, false, cond, List, [], refl, ◌∙◌, ap, Option, None, Some}
use Rattle.rv_expression_laws.specs.Expression.{Node, Primary, Symbol, tree_of}
use Rattle.rv_expression_laws.specs.Values.{Meaning, Known, InSection, Open, Refused, Symbolic, meant}
use Rattle.rv_expression.specs.Expr.{lone_primary}
use Rattle.rv_expression.proofs.EvalsLemmas.{lone_value}
use Rattle.rv_statement_laws.specs.declared.directive.Binding.{Binding}
use Rattle.rv_unit_laws.specs.Bindings.{is_weak}
use Rattle.rv_unit_laws.specs.Sections.{Opened, section_at}
use Rattle.rv_unit_laws.specs.Tables.{Tables, SectionOffset, Labelled, Assignment, labelled, label_of, assigned_first, assigned_before, assigned_later, assigned_ever, own_named, weakened, named, opened_of, meaning, value_by_tables}

-- a meaning that is no number and no fault
abbrev is_place : Meaning → Bool
is_place (InSection section offset) = true
is_place Open = true
is_place (Known number) = false
is_place (Refused code) = false

opened_place : (b : Bool) (section offset : ℕ) → is_place (cond b Open (InSection section offset)) ≡ true
opened_place true section offset = refl
opened_place false section offset = refl

labelled_place : (opened : Opened) (found : Option Labelled) → is_place (labelled opened found Open) ≡ true
labelled_place opened None = refl
labelled_place opened (Some l) = opened_place (section_at opened l.place.section).executable l.place.section l.place.offset

weakened_place : (binding : Binding) (m : Meaning) → is_place m ≡ true → is_place (weakened binding m) ≡ true
weakened_place binding (InSection section offset) e = opened_place (is_weak binding) section offset
weakened_place binding Open e = refl
weakened_place binding (Known number) e = absurd (cc)
weakened_place binding (Refused code) e = absurd (cc)

pub named_place : (t : Tables) (o : ℕ) (name : List ℕ) → t.assignments ≡ [] → is_place (named t true o name) ≡ true
named_place t o name none =
    weakened_place (t.bindings name) (own_named t true o name)
    (ap (λ (gs : List Assignment). is_place (assigned_first (assigned_before gs o name) (labelled (opened_of t) (label_of t.labels true o name) (assigned_later true (assigned_ever gs name))))) none
    ∙ labelled_place (opened_of t) (label_of t.labels true o name))

pub symbolic_place : (q : Primary) (m : Meaning) → is_place m ≡ true → (at : Meaning) × (meant q m ≡ Symbolic q at 0)
symbolic_place q (InSection section offset) e = (InSection section offset, refl)
symbolic_place q Open e = (Open, refl)
symbolic_place q (Known number) e = absurd (cc)
symbolic_place q (Refused code) e = absurd (cc)

-- the value of a name is the name
pub name_value : (t : Tables) (o : ℕ) (p : SectionOffset) (name : List ℕ) (ns : List Node) → t.assignments ≡ [] → ns ≡ lone_primary (Symbol name)
    → (at : Meaning) × (value_by_tables t true o p (tree_of ns) ≡ Symbolic (Symbol name) at 0)
name_value t o p name ns none is =
    let found = symbolic_place (Symbol name) (named t true o name) (named_place t o name none) in
    (found.0, ap (λ (l : List Node). value_by_tables t true o p (tree_of l)) is ∙ lone_value (λ q. meaning t true o p q) (Symbol name) ∙ found.1)
