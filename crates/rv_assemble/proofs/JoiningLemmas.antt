-- What a unit's draft and symbols make, as the code has them.

use Rattle.std.proofs.Common.{◌≡◌, ℕ, suc, ◌<◌, true, List, [], ◌∷◌, ◌++◌, length, map, drop, refl, sym, ap, ◌∙◌, subst, Option, Some, None}
use Rattle.std.proofs.lemmas.List.{length-map}
use Rattle.std.specs.Global.{Vec}
use Rattle.std.specs.List.{AllByRecursion}
use Rattle.std.specs.Prelude.{flat_map, option_map}
use Rattle.rv_expression_laws.specs.Expression.{Primary}
use Rattle.rv_unit_laws.specs.Tables.{Tables, tables, opened_of, alignments_of}
use Rattle.rv_unit.specs.declared.section.Extent.{Extent}
use Rattle.rv_unit.specs.Sections.{extent_section}
use Rattle.rv_unit.proofs.LookupsLemmas.{sections_are, alignments_are}
use Rattle.rv_unit.specs.declared.unit.Unit.{Unit as SourceUnit}
use Rattle.rv_unit.specs.Unit.{said, IsFilled}
use Rattle.rv_object_types.specs.declared.relocation.Relocation.{Relocation as DeclaredRelocation}
use Rattle.rv_object_laws.specs.declared.row.Row.{Row}
use Rattle.rv_object_laws.specs.Object.{Section}
use Rattle.rv_object_types.specs.Parts.{symbol_of}
use Rattle.rv_object_laws.specs.Valid.{are_indexed, are_defined, are_rows}
use Rattle.rv_assemble_laws.specs.Refusals.{statements_fault}
use Rattle.rv_assemble_laws.proofs.FaultlessLemmas.{no_first_fault}
use Rattle.rv_assemble_laws.specs.Symbols.{use_of as field_use, references, symbols_of}
use Rattle.rv_assemble_laws.specs.IsObjectOf.{Numbering, IsNumbered, IsObjectOf}
use Rattle.rv_draft.specs.declared.field.OpenField.{OpenField}
use Rattle.rv_draft.specs.declared.draft.Draft.{Draft}
use Rattle.rv_draft.specs.Draft.{field_of, IsDraft}
use Rattle.rv_symbols.specs.declared.table.SymbolTable.{SymbolTable}
use Rattle.rv_symbols.specs.HasSymbols.{HasSymbols}
use Rattle.rv_assemble.specs.KeptNames.{OpenKept}
use Rattle.rv_assemble.specs.Making.{rows_from, index_of, next_of, indices_of, relocations_in, IsMakeable, sections_by, AreEach}
use Rattle.rv_assemble.specs.Lists.{list_in}
use Rattle.rv_assemble.specs.Tabled.{open_field_use, uses_in, HasTable}
use Rattle.rv_assemble.proofs.UsesLemmas.{uses_named, are_laid, fields_inside}
use Rattle.rv_assemble.proofs.ComposedLemmas as composed

-- each field that has a symbol takes the next number
numbers_map : (number : Numbering) (fs : List OpenField)
    → indices_of (map field_of fs) (map (λ r. number r.ordinal r.symbol) (flat_map open_field_use fs)) ≡ map (λ f. option_map (number f.ordinal) f.symbol) (map field_of fs)
numbers_map number [] = refl
numbers_map number (f ∷ fs) = go (field_of f).symbol (numbers_map number fs)
  where
    go : (q : Option Primary) → indices_of (map field_of fs) (map (λ r. number r.ordinal r.symbol) (flat_map open_field_use fs)) ≡ map (λ f. option_map (number f.ordinal) f.symbol) (map field_of fs)
        → index_of q (map (λ r. number r.ordinal r.symbol) (field_use f.ordinal q ++ flat_map open_field_use fs)) ∷ indices_of (map field_of fs) (drop (next_of q 0) (map (λ r. number r.ordinal r.symbol) (field_use f.ordinal q ++ flat_map open_field_use fs)))
        ≡ option_map (number f.ordinal) q ∷ map (λ f. option_map (number f.ordinal) f.symbol) (map field_of fs)
    go None e = ap (λ (l : List (Option ℕ)). None ∷ l) e
    go (Some q) e = ap (λ (l : List (Option ℕ)). Some (number f.ordinal q) ∷ l) e

pub indices_count : (fs : List OpenField) (ns : List ℕ) → length (indices_of (map field_of fs) ns) ≡ length fs
indices_count [] ns = refl
indices_count (f ∷ fs) ns = ap suc (indices_count fs (drop (next_of (field_of f).symbol 0) ns))

module _ (u : SourceUnit) (d : Draft) (x : SymbolTable) (filled : IsFilled u) (good : statements_fault (said u) ≡ None) (kept : OpenKept (said u)) (h : IsDraft (said u) d) (has : HasTable (said u) d x) where
  abbrev t : Tables
  t = tables (said u)

  abbrev extents : List Extent
  extents = u.tables.extents.items

  known : HasSymbols t h.laid (uses_in d) x
  known = has h.laid (are_laid (said u) d h)

  opened : map extent_section extents ≡ (opened_of t).sections
  opened = sections_are extents ∙ ap (λ (b : Tables). (opened_of b).sections) filled.tables

  alignments : map (λ (e : Extent). e.alignment) extents ≡ alignments_of t
  alignments = alignments_are extents ∙ ap (λ (b : Tables). alignments_of b) filled.tables

  indices_are : indices_of (map field_of d.fields.items) x.numbers.items ≡ map (λ f. option_map (known.number f.ordinal) f.symbol) (map field_of d.fields.items)
  indices_are = ap (indices_of (map field_of d.fields.items)) (sym known.numbers) ∙ numbers_map known.number d.fields.items

  pub inside : AllByRecursion (λ (f : OpenField). f.section < length extents) d.fields.items
  inside = subst (λ n. AllByRecursion (λ (f : OpenField). f.section < n) d.fields.items) (ap length (sym opened) ∙ length-map extents extent_section) (fields_inside (said u) d h (no_first_fault (said u) good))

  numbered : AllByRecursion (IsNumbered t h.laid known.number (symbols_of t h.laid)) (references t h.laid)
  numbered = subst (λ rs. AllByRecursion (IsNumbered t h.laid known.number (symbols_of t h.laid)) rs) (uses_named (said u) d h) known.numbered

  module _ (lists : List (Vec DeclaredRelocation)) (counted : length lists ≡ length extents) (listed : (j : ℕ) → list_in lists j ≡ relocations_in j (map field_of d.fields.items) (indices_of (map field_of d.fields.items) x.numbers.items)) where
    same_lists : (j : ℕ) → list_in lists j ≡ relocations_in j (map field_of d.fields.items) (map (λ f. option_map (known.number f.ordinal) f.symbol) (map field_of d.fields.items))
    same_lists j = listed j ∙ ap (relocations_in j (map field_of d.fields.items)) indices_are

    pub each : AreEach extents d.ends.items d.sections.items lists
    each = composed.are_each (said u) d extents lists known.number h good kept opened alignments counted same_lists numbered

    pub makeable : AllByRecursion IsMakeable (sections_by extents d.ends.items d.sections.items lists)
    makeable = composed.are_makeable (said u) d extents lists known.number h good kept opened alignments counted same_lists numbered

    module _ (sections : List Section) (rows : List Row) (made : sections ≡ sections_by extents d.ends.items d.sections.items lists) (listed_rows : rows ≡ rows_from 1 d.items.items) where
      pub indexed : are_indexed (map symbol_of x.symbols.items) sections ≡ true
      indexed =
          ap (λ s. are_indexed s sections) known.symbols ∙ ap (are_indexed (symbols_of t h.laid)) made
          ∙ composed.indexed (said u) d extents lists known.number h good kept opened alignments counted same_lists numbered

      pub defined : are_defined sections (map symbol_of x.symbols.items) ≡ true
      defined =
          ap (are_defined sections) known.symbols ∙ ap (λ s. are_defined s (symbols_of t h.laid)) made
          ∙ composed.defined (said u) d extents lists known.number h good kept opened alignments counted same_lists numbered

      pub lie : are_rows sections rows ≡ true
      lie =
          ap (are_rows sections) listed_rows ∙ ap (λ s. are_rows s (rows_from 1 d.items.items)) made
          ∙ composed.lie (said u) d extents lists known.number h good kept opened alignments counted same_lists numbered

      pub is_object : IsObjectOf (said u) (record { sections = sections; symbols = map symbol_of x.symbols.items; rows = rows; rvc = d.rvc })
      is_object =
          subst (λ s. IsObjectOf (said u) (record { sections = s; symbols = map symbol_of x.symbols.items; rows = rows; rvc = d.rvc })) (sym made)
          (subst (λ s. IsObjectOf (said u) (record { sections = sections_by extents d.ends.items d.sections.items lists; symbols = s; rows = rows; rvc = d.rvc })) (sym known.symbols)
          (subst (λ r. IsObjectOf (said u) (record { sections = sections_by extents d.ends.items d.sections.items lists; symbols = symbols_of t h.laid; rows = r; rvc = d.rvc })) (sym listed_rows)
          (composed.is_object (said u) d extents lists known.number h good kept opened alignments counted same_lists numbered)))
