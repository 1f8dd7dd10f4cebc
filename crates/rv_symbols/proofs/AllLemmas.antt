-- The symbols that stand for the uses of a source.

use Rattle.std.proofs.Common.{◌≡◌, ℕ, ◌<◌, ◌^◌, Bool, true, false, List, [], ◌∷◌, map, refl, sym, ap, Option, Some, None}
use Rattle.std.specs.Prelude.{reverse, slice_get, is_some, nat_lt, ◌&&◌, ◌==◌}
use Rattle.std.specs.List.{AllByRecursion}
use Rattle.std.specs.Str.{bytes_eq}
use Rattle.rv_list_laws.proofs.EachLemmas.{each_by_index, get_each}
use Rattle.rv_list_laws.proofs.TestsLemmas.{get_all}
use Rattle.rv_expression_laws.specs.Bytes.{digits_value}
use Rattle.rv_expression_laws.specs.Expression.{Primary, Literal, Symbol as Named, Here, Reference}
use Rattle.rv_statement_laws.specs.Statement.{Statement}
use Rattle.rv_unit_laws.specs.Tables as laws
use Rattle.rv_unit_laws.specs.Tables.{Tables, NumericLabel, at_start, tables, definition_at, numeric_label_before, numeric_label_after}
use Rattle.rv_unit_laws.specs.Faults.{first_unit_fault}
use Rattle.rv_unit_laws.proofs.FoundLemmas.{and_both}
use Rattle.rv_map_laws.specs.Name.{is_name}
use Rattle.rv_source_laws.specs.Located.{located_from}
use Rattle.rv_assemble_laws.specs.LaidStatements.{LaidStatement}
use Rattle.rv_assemble_laws.specs.Symbols.{SymbolUse, references, is_unnamed, symbols_of, StandsFor}
use Rattle.rv_assemble_laws.specs.IsObjectOf.{IsNumbered}
use Rattle.rv_assemble_laws.specs.ShownNames.{is_shown_use, AreShown, HasNames}
use Rattle.rv_symbols.specs.SymbolUse.{is_meant_use, AreMeant}
use Rattle.rv_symbols.specs.Numbers.{numbering_in}
use Rattle.rv_symbols.proofs.DefiningLemmas.{laid_of, own_name}
use Rattle.rv_assemble_laws.proofs.DefinedNamesLemmas.{names_some}
use Rattle.rv_symbols.proofs.NumberedLemmas.{undefined_stands}
use Rattle.rv_symbols.proofs.UnnamedLemmas.{unnamed_stands}
use Rattle.rv_symbols.proofs.StandingLemmas.{StandsAt, AreNumeric, uses_stand, found_of, reversed}
use Rattle.rv_symbols.proofs.MeantLemmas.{numeric_labels, means}

module _ (ss : List Statement) (laid : List LaidStatement) (located : map (λ s. s.located) laid ≡ located_from 1 1 (at_start ss) ss) (meant : AreMeant (tables ss) (references (tables ss) laid))
    (free : first_unit_fault ss ≡ None) (names : HasNames ss) (shown : AreShown (references (tables ss) laid)) (low : (i : ℕ) (s : LaidStatement) → slice_get laid i ≡ Some s → s.offset < 2 ^ 64) where
  abbrev t : Tables
  t = tables ss

  abbrev rs : List SymbolUse
  rs = references t laid

  abbrev Stands : ℕ → Primary → Type 0
  Stands o q = StandsFor t laid o q (slice_get (symbols_of t laid) (numbering_in t laid o q))

  numeric : AreNumeric laid t.numeric_labels
  numeric = numeric_labels ss laid located

  unnamed : (j o n : ℕ) (q : Primary) → slice_get rs j ≡ Some (record { ordinal = o; symbol = q }) → is_unnamed q ≡ true → laws.definition t o q ≡ Some (definition_at n) → StandsAt laid n → Stands o q
  unnamed j o n q e u f (i, s, at, is, placed) =
      unnamed_stands t laid (names_some t (at_start ss) 1 ss laid located names) j (record { ordinal = o; symbol = q }) (definition_at n) i s e u f at (laid_of ss laid located n i s at is) (sym is) placed refl (low i s at)

  later : (j o : ℕ) (digits : List ℕ) → slice_get rs j ≡ Some (record { ordinal = o; symbol = Reference digits true }) → is_some (laws.definition t o (Reference digits true)) ≡ true → Stands o (Reference digits true)
  later j o digits e m = go (numeric_label_after t.numeric_labels o (digits_value 10 digits)) refl
    where
      go : (found : Option NumericLabel) → numeric_label_after t.numeric_labels o (digits_value 10 digits) ≡ found → Stands o (Reference digits true)
      go None f = absurd (let n : is_some (laws.definition t o (Reference digits true)) ≡ false = ap (λ x. is_some (laws.numeric_definition x)) f in cc)
      go (Some l) f =
          unnamed j o l.ordinal (Reference digits true) e refl (ap laws.numeric_definition f)
          (found_of (λ (z : NumericLabel). StandsAt laid z.ordinal) (λ z. nat_lt o z.ordinal && (z.number == digits_value 10 digits)) (reverse t.numeric_labels) l f (reversed (λ (z : NumericLabel). StandsAt laid z.ordinal) t.numeric_labels numeric))

  earlier : (j o : ℕ) (digits : List ℕ) → slice_get rs j ≡ Some (record { ordinal = o; symbol = Reference digits false }) → is_some (laws.definition t o (Reference digits false)) ≡ true → Stands o (Reference digits false)
  earlier j o digits e m = go (numeric_label_before t.numeric_labels o (digits_value 10 digits)) refl
    where
      go : (found : Option NumericLabel) → numeric_label_before t.numeric_labels o (digits_value 10 digits) ≡ found → Stands o (Reference digits false)
      go None f = absurd (let n : is_some (laws.definition t o (Reference digits false)) ≡ false = ap (λ x. is_some (laws.numeric_definition x)) f in cc)
      go (Some l) f =
          unnamed j o l.ordinal (Reference digits false) e refl (ap laws.numeric_definition f)
          (found_of (λ (z : NumericLabel). StandsAt laid z.ordinal) (λ z. nat_lt z.ordinal o && (z.number == digits_value 10 digits)) t.numeric_labels l f numeric)

  outer : (j o : ℕ) (name : List ℕ) → slice_get rs j ≡ Some (record { ordinal = o; symbol = Named name }) → is_some (laws.definition t o (Named name)) ≡ false → Stands o (Named name)
  outer j o name e m = undefined_stands t laid j o name e (none_of (laws.definition t o (Named name)) m)
    where
      none_of : (d : Option laws.Definition) → is_some d ≡ false → d ≡ None
      none_of None f = refl
      none_of (Some d) f = absurd (cc)

  -- a name that a map can show is not empty
  some_name : (j o : ℕ) (name : List ℕ) → slice_get rs j ≡ Some (record { ordinal = o; symbol = Named name }) → bytes_eq [] name ≡ false
  some_name j o name e = go name (and_both (is_name name) true (get_all is_shown_use rs j (record { ordinal = o; symbol = Named name }) e shown)).0
    where
      go : (name : List ℕ) → is_name name ≡ true → bytes_eq [] name ≡ false
      go [] h = absurd (cc)
      go (b ∷ bs) h = refl

  by_name : (j o : ℕ) (name : List ℕ) → slice_get rs j ≡ Some (record { ordinal = o; symbol = Named name }) → Stands o (Named name)
  by_name j o name e = go (is_some (laws.definition t o (Named name))) refl
    where
      go : (b : Bool) → is_some (laws.definition t o (Named name)) ≡ b → Stands o (Named name)
      go true f = own_name ss laid located free low name (some_name j o name e) o f
      go false f = outer j o name e f

  by_symbol : (j o : ℕ) (q : Primary) → slice_get rs j ≡ Some (record { ordinal = o; symbol = q }) → is_meant_use t (record { ordinal = o; symbol = q }) ≡ true → StandsAt laid o → Stands o q
  by_symbol j o (Literal n) e m at = absurd (cc)
  by_symbol j o (Named name) e m at = by_name j o name e
  by_symbol j o Here e m at = unnamed j o o Here e refl refl at
  by_symbol j o (Reference digits true) e m at = later j o digits e m
  by_symbol j o (Reference digits false) e m at = earlier j o digits e m

  pub numbered : AllByRecursion (IsNumbered t laid (numbering_in t laid) (symbols_of t laid)) rs
  numbered =
      each_by_index (IsNumbered t laid (numbering_in t laid) (symbols_of t laid)) rs
      (λ j r e. by_symbol j r.ordinal r.symbol e (get_all (is_meant_use t) rs j r e meant)
      (get_each (λ (z : SymbolUse). StandsAt laid z.ordinal) rs j r e (uses_stand t laid (means ss laid located) 0 1 (at_start ss) ss laid refl located)))
