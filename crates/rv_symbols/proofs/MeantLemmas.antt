-- What a symbol of a source means has a place.

use Rattle.std.proofs.Common.{◌≡◌, ℕ, Bool, true, false, List, map, refl, sym, ap, ◌∙◌, subst, Option, Some, None}
use Rattle.std.specs.Prelude.{reverse, nat_lt, ◌&&◌, ◌==◌}
use Rattle.rv_expression_laws.specs.Bytes.{digits_value}
use Rattle.rv_expression_laws.specs.Expression.{Literal, Symbol as Named, Here, Reference}
use Rattle.rv_statement_laws.specs.Statement.{Statement}
use Rattle.rv_unit_laws.specs.Tables.{Tables, Definition, Labelled, Assignment, NumericLabel, at_start, tables, definition, definition_at, numeric_definition, numeric_label_before, numeric_label_after, label_of, assigned_ever, is_location}
use Rattle.rv_unit_laws.proofs.BeforeLemmas.{before_start}
use Rattle.rv_source_laws.specs.Located.{located_from}
use Rattle.rv_assemble_laws.specs.LaidStatements.{LaidStatement}
use Rattle.rv_assemble_laws.proofs.SingleLemmas.{AreNumbers, of_label, of_set, of_numbers}
use Rattle.rv_assemble_laws.proofs.OneNameLemmas.{Is, IsSet, one_name, none_all}
use Rattle.rv_symbols.proofs.StandingLemmas.{StandsAt, AreNumeric, Means, numeric_stand, found_of, reversed}

module _ (ss : List Statement) (laid : List LaidStatement) (located : map (λ s. s.located) laid ≡ located_from 1 1 (at_start ss) ss) where
  abbrev t : Tables
  t = tables ss

  pub numeric_labels : AreNumeric laid t.numeric_labels
  numeric_labels = numeric_stand laid 0 1 (at_start ss) ss laid refl located tt

  -- a definition that is known
  known : (x d : Definition) (found : Option Definition) → found ≡ Some x → found ≡ Some d → StandsAt laid x.ordinal → StandsAt laid d.ordinal
  known x d found e f at =
      let both : Some x ≡ Some d = sym e ∙ f in
      let same : x ≡ d = cc in
      subst (λ (y : Definition). StandsAt laid y.ordinal) same at

  unknown : (d : Definition) (found : Option Definition) → found ≡ None → found ≡ Some d → StandsAt laid d.ordinal
  unknown d found e f = absurd (let both : ◌≡◌ {A = Option Definition} None (Some d) = sym e ∙ f in cc)

  later : (o : ℕ) (digits : List ℕ) (d : Definition) → definition t o (Reference digits true) ≡ Some d → StandsAt laid d.ordinal
  later o digits d e = go (numeric_label_after t.numeric_labels o (digits_value 10 digits)) refl
    where
      go : (found : Option NumericLabel) → numeric_label_after t.numeric_labels o (digits_value 10 digits) ≡ found → StandsAt laid d.ordinal
      go None f = unknown d (definition t o (Reference digits true)) (ap numeric_definition f) e
      go (Some l) f =
          known (definition_at l.ordinal) d (definition t o (Reference digits true)) (ap numeric_definition f) e
          (found_of (λ (z : NumericLabel). StandsAt laid z.ordinal) (λ z. nat_lt o z.ordinal && (z.number == digits_value 10 digits)) (reverse t.numeric_labels) l f
          (reversed (λ (z : NumericLabel). StandsAt laid z.ordinal) t.numeric_labels numeric_labels))

  earlier : (o : ℕ) (digits : List ℕ) (d : Definition) → definition t o (Reference digits false) ≡ Some d → StandsAt laid d.ordinal
  earlier o digits d e = go (numeric_label_before t.numeric_labels o (digits_value 10 digits)) refl
    where
      go : (found : Option NumericLabel) → numeric_label_before t.numeric_labels o (digits_value 10 digits) ≡ found → StandsAt laid d.ordinal
      go None f = unknown d (definition t o (Reference digits false)) (ap numeric_definition f) e
      go (Some l) f =
          known (definition_at l.ordinal) d (definition t o (Reference digits false)) (ap numeric_definition f) e
          (found_of (λ (z : NumericLabel). StandsAt laid z.ordinal) (λ z. nat_lt z.ordinal o && (z.number == digits_value 10 digits)) t.numeric_labels l f numeric_labels)

  by_name : (o : ℕ) (name : List ℕ) (d : Definition) → definition t o (Named name) ≡ Some d → StandsAt laid d.ordinal
  by_name o name d e = go (label_of t.labels true 0 name) refl (assigned_ever t.assignments name) refl (one_name name laid 0 1 (at_start ss) ss laid refl located (before_start ss 1) tt)
    where
      numbers : label_of t.labels true 0 name ≡ None → AreNumbers name t.assignments → StandsAt laid d.ordinal
      numbers f h = unknown d (definition t o (Named name)) (of_numbers name t o f h) e

      go : (l : Option Labelled) → label_of t.labels true 0 name ≡ l → (a : Option Assignment) → assigned_ever t.assignments name ≡ a → Is name laid t.assignments l a → StandsAt laid d.ordinal
      go None f None g h = numbers f (none_all name laid (λ x. is_location x ≡ false) t.assignments g)
      go (Some l) f None g (i, s, at, is, placed, kind) = known (definition_at l.ordinal) d (definition t o (Named name)) (of_label name t o l f g) e (i, s, at, is, placed)
      go (Some l) f (Some a) g h = absurd h
      go None f (Some a) g h = by (is_location a) refl
        where
          by : (b : Bool) → is_location a ≡ b → StandsAt laid d.ordinal
          by false k = numbers f (subst (IsSet name laid t.assignments a) k h)
          by true k =
              let there = subst (IsSet name laid t.assignments a) k h in
              let at = there.1.1 in
              known (record { ordinal = a.ordinal; plus = a.plus }) d (definition t o (Named name)) (of_set name t o a f g there.0 k) e (at.0, at.1, at.2, at.3, at.4)

  pub means : Means t laid
  means o at (Literal n) d e = absurd (cc)
  means o at (Named name) d e = by_name o name d e
  means o at Here d e = known (definition_at o) d (definition t o Here) refl e at
  means o at (Reference digits true) d e = later o digits d e
  means o at (Reference digits false) d e = earlier o digits d e
