-- The labels and the assignments of tables after a statement: which of them it leaves alone, and that a name which it defines had
-- none.

use Rattle.std.proofs.Common.{◌≡◌, ℕ, true, false, List, [], ◌∷◌, ◌++◌, refl, sym, ap, ◌∙◌, Option, Some, None}
use Rattle.std.specs.Prelude.{◌&&◌, ◌||◌, nat_lt, is_some, if◌then◌else◌}
use Rattle.std.specs.Option.{option_or}
use Rattle.std.specs.Str.{bytes_eq}
use Rattle.std.proofs.lemmas.Bool.{or_parts}
use Rattle.std.proofs.lemmas.List.Folds.{find-append}
use Rattle.rv_list_laws.proofs.ElementsLemmas.{same_bytes}
use Rattle.rv_list_laws.proofs.OptionsLemmas.{none_by_test}
use Rattle.rv_expression_laws.specs.Values.{Value}
use Rattle.rv_statement_laws.specs.declared.directive.Choice.{Choice}
use Rattle.rv_statement_laws.specs.Statement.{Expression, Directive}
use Rattle.rv_unit_laws.specs.Sections.{Section, entered_by}
use Rattle.rv_unit_laws.specs.Contributions.{Contribution, Nothing, contribution}
use Rattle.rv_unit_laws.specs.Tables.{Tables, Labelled, here, value_by_tables, label_of, assigned_ever, is_defined, has_location, assigned_by, choice_in, with_assignment, with_section, with_chosen, with_contribution, after_directive, gives_location}
use Rattle.rv_unit_laws.proofs.EnteringLemmas.{entering}
use Rattle.rv_unit_laws.proofs.BeforeLemmas.{IsBefore, has_place_now, defined_now}

-- ---- what a statement leaves alone

abbrev pub Same : Tables → Tables → Type 0
Same t u = (u.labels ≡ t.labels) × (u.assignments ≡ t.assignments)

joined : (t u v : Tables) → Same t u → Same u v → Same t v
joined t u v (l, a) (m, b) = (m ∙ l, b ∙ a)

pub section_same : (t : Tables) (found : Option Section) → Same t (with_section t found)
section_same t None = (refl, refl)
section_same t (Some section) = entering (λ (u : Tables). Same t u) t section (λ n at. (refl, refl)) (λ room. (refl, refl)) (refl, refl)

chosen_same : (t : Tables) (found : Option Choice) → Same t (with_chosen t found)
chosen_same t None = (refl, refl)
chosen_same t (Some choice) = (refl, refl)

contribution_same : (t : Tables) (v : Expression → Value) (c : Contribution) → Same t (with_contribution t v c)
contribution_same t v Nothing = (refl, refl)
contribution_same t v _ = (refl, refl)

-- but for a name that it sets
pub directive_same : (t : Tables) (k : ℕ) (d : Directive) → Same (with_assignment (with_section t (entered_by d)) (assigned_by (value_by_tables t false k (here t)) k d)) (after_directive t k d)
directive_same t k d =
    let v : Expression → Value = value_by_tables t false k (here t) in
    let named = with_assignment (with_section t (entered_by d)) (assigned_by v k d) in
    let both = joined named (with_chosen named (choice_in d)) (with_contribution (with_chosen named (choice_in d)) v (contribution d)) (chosen_same named (choice_in d)) (contribution_same (with_chosen named (choice_in d)) v (contribution d)) in
    (both.0, both.1)

-- ---- a name that a statement defines

module _ (name : List ℕ) where
  more : (ls : List Labelled) (new : Labelled) → label_of (ls ++ new ∷ []) true 0 name ≡ option_or (label_of ls true 0 name) (label_of (new ∷ []) true 0 name)
  more ls new = find-append (λ (l : Labelled). bytes_eq l.name name && (true || nat_lt l.ordinal 0)) ls (new ∷ [])

  pub own_label : (ls : List Labelled) (new : Labelled) → label_of ls true 0 name ≡ None → bytes_eq new.name name ≡ true → label_of (ls ++ new ∷ []) true 0 name ≡ Some new
  own_label ls new e f = more ls new ∙ ap (λ o. option_or o (label_of (new ∷ []) true 0 name)) e ∙ ap (λ b. if b && true then Some new else None) f

  pub other_label : (ls : List Labelled) (new : Labelled) → bytes_eq new.name name ≡ false → label_of (ls ++ new ∷ []) true 0 name ≡ label_of ls true 0 name
  other_label ls new f = more ls new ∙ go (label_of ls true 0 name)
    where
      go : (o : Option Labelled) → option_or o (label_of (new ∷ []) true 0 name) ≡ o
      go (Some l) = refl
      go None = ap (λ b. if b && true then Some new else None) f

  module _ (t : Tables) (k : ℕ) (n : List ℕ) (before : IsBefore t k) (same : bytes_eq n name ≡ true) where
    pub undefined : is_defined t k n ≡ false → (label_of t.labels true 0 name ≡ None) × (assigned_ever t.assignments name ≡ None)
    undefined e =
        let free = or_parts (is_some (label_of t.labels true 0 name)) (is_some (assigned_ever t.assignments name)) (sym (defined_now t k name before) ∙ ap (is_defined t k) (sym (same_bytes n name same)) ∙ e) in
        (none_by_test (label_of t.labels true 0 name) free.0, none_by_test (assigned_ever t.assignments name) free.1)

    pub unplaced : has_location t k n ≡ false → (label_of t.labels true 0 name ≡ None) × (gives_location (assigned_ever t.assignments name) ≡ false)
    unplaced e =
        let free = or_parts (is_some (label_of t.labels true 0 name)) (gives_location (assigned_ever t.assignments name)) (sym (has_place_now t k name before) ∙ ap (has_location t k) (sym (same_bytes n name same)) ∙ e) in
        (none_by_test (label_of t.labels true 0 name) free.0, free.1)
