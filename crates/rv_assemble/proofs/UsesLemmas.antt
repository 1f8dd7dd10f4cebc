-- The fields of a draft as the symbols that its source's relocations name.

use Rattle.std.proofs.Common.{◌≡◌, ℕ, ◌+◌, ◌*◌, ◌^◌, ◌<◌, ◌≤◌, List, [], ◌∷◌, ◌++◌, length, map, refl, sym, ap, ◌∙◌, subst, arith, None, drop, get_or, append_assoc}
use Rattle.std.proofs.lemmas.List.{length-map, drop_more}
use Rattle.std.specs.List.{AllByRecursion}
use Rattle.std.specs.Prelude.{Bool, true, false, flat_map, if◌then◌else◌}
use Rattle.std.proofs.lemmas.Option.{slice_get_within}
use Rattle.rv_list_laws.proofs.EachLemmas.{each_append}
use Rattle.rv_statement_laws.specs.Statement.{Statement}
use Rattle.rv_unit_laws.specs.Faults.{first_unit_fault}
use Rattle.rv_unit_laws.specs.Sections.{Section}
use Rattle.rv_unit_laws.specs.Tables.{Tables, at_start, tables, opened_of}
use Rattle.rv_source_laws.proofs.LocatedLemmas.{count_from}
use Rattle.rv_unit.specs.Items.{offsets_of}
use Rattle.rv_assemble_laws.specs.Templates.{Open, template_fields}
use Rattle.rv_assemble_laws.specs.LaidStatements.{LaidStatement, LaidPart, part_bytes, parts_of}
use Rattle.rv_assemble_laws.specs.Symbols.{references}
use Rattle.rv_assemble_laws.specs.Fields.{Field, field_at, fields_from, fields_at, fields}
use Rattle.rv_assemble_laws.specs.ShownNames.{used_names, HasNames, AreShown}
use Rattle.rv_assemble_laws.specs.Small.{all_said, AreSmall}
use Rattle.rv_assemble_laws.proofs.UseWeightsLemmas.{references_light, laid_said, used_light}
use Rattle.rv_draft.specs.declared.field.OpenField.{OpenField}
use Rattle.rv_draft.specs.declared.draft.Draft.{Draft}
use Rattle.rv_draft.specs.Draft.{item_of, field_of, IsDraft}
use Rattle.rv_symbols.specs.declared.symbol_use.SymbolUse.{SymbolUse as CodeUse}
use Rattle.rv_symbols.specs.SymbolUse.{AreMeant, uses_of}
use Rattle.rv_symbols.specs.HasSymbols.{AreLaid}
use Rattle.rv_assemble.specs.Tabled.{open_field_use, uses_in}
use Rattle.rv_assemble.proofs.SettledLemmas.{IsSettled, settled}
use Rattle.rv_assemble.proofs.FieldListsLemmas.{use_of_field, uses_of_fields}
use Rattle.rv_assemble.proofs.UsesKnownLemmas.{are_shown_uses, are_meant_uses}

offsets_are : (laid : List LaidStatement) → map (λ s. s.offset) laid ≡ offsets_of (map item_of laid)
offsets_are [] = refl
offsets_are (s ∷ ss) = ap (λ l. s.offset ∷ l) (offsets_are ss)

uses_are : (fs : List OpenField) → flat_map open_field_use fs ≡ flat_map use_of_field (map field_of fs)
uses_are [] = refl
uses_are (f ∷ fs) = ap (λ l. open_field_use f ++ l) (uses_are fs)

-- ---- the sections of fields

opens_inside : (n section offset : ℕ) → section < n → (fs : List Open) → AllByRecursion (λ (f : Field). f.section < n) (map (field_at section offset) fs)
opens_inside n section offset h [] = tt
opens_inside n section offset h (f ∷ fs) = (h, opens_inside n section offset h fs)

parts_inside : (n section offset : ℕ) → section < n → (ps : List LaidPart) → AllByRecursion (λ (f : Field). f.section < n) (fields_from section offset ps)
parts_inside n section offset h [] = tt
parts_inside n section offset h (p ∷ ps) =
    each_append (λ (f : Field). f.section < n) (map (field_at section offset) (template_fields p.ordinal p.template)) (fields_from section (offset + length (part_bytes p)) ps) (opens_inside n section offset h (template_fields p.ordinal p.template))
    (parts_inside n section (offset + length (part_bytes p)) h ps)

statement_inside : (n : ℕ) (t : Tables) (s : LaidStatement) → s.located.section < n → AllByRecursion (λ (f : Field). f.section < n) (fields_at t s)
statement_inside n t s h = go s.located.home.loaded
  where
    go : (b : Bool) → AllByRecursion (λ (f : Field). f.section < n) (if b then fields_from s.located.section s.offset (parts_of t s) else [])
    go true = parts_inside n s.located.section s.offset h (parts_of t s)
    go false = tt

laid_inside : (t : Tables) (sections : List Section) (laid : List LaidStatement) → AllByRecursion (IsSettled sections) laid → AllByRecursion (λ (f : Field). f.section < length sections) (fields t laid)
laid_inside t sections [] h = tt
laid_inside t sections (s ∷ ss) (h, hs) =
    each_append (λ (f : Field). f.section < length sections) (fields_at t s) (fields t ss)
    (statement_inside (length sections) t s (slice_get_within sections s.located.section s.located.home h.home)) (laid_inside t sections ss hs)

unmapped : (n : ℕ) (fs : List OpenField) → AllByRecursion (λ (f : Field). f.section < n) (map field_of fs) → AllByRecursion (λ (f : OpenField). f.section < n) fs
unmapped n [] h = tt
unmapped n (f ∷ fs) (h, hs) = (h, unmapped n fs hs)

module _ (ss : List Statement) (d : Draft) (h : IsDraft ss d) where
  -- the symbols of the fields are those that relocations name
  pub uses_named : uses_in d ≡ references (tables ss) h.laid
  uses_named = uses_are d.fields.items ∙ ap (flat_map use_of_field) h.open_fields ∙ uses_of_fields (tables ss) h.laid

  pub are_laid : AreLaid ss (offsets_of d.items.items) (uses_in d) h.laid
  are_laid = record { located = h.located; at = offsets_are h.laid ∙ ap offsets_of h.stand; named = sym uses_named }

  pub items_count : length d.items.items ≡ length ss
  items_count =
      ap length (sym h.stand) ∙ length-map h.laid item_of ∙ sym (length-map h.laid (λ (s : LaidStatement). s.located)) ∙ ap length h.located ∙ count_from 1 (at_start ss) ss

  pub uses_shown : HasNames ss → AreShown (uses_in d)
  uses_shown names = subst AreShown (sym uses_named) (are_shown_uses ss h.laid names h.located)

  -- relocations can hold the index of each symbol
  pub few_symbols : AreSmall ss → 3 * length d.items.items + length (used_names (uses_in d)) < 2 ^ 32
  few_symbols small =
      let count = items_count in
      let few : length ss ≤ 4194304 = small.few in
      let names : all_said ss ≤ 33554432 = small.names in
      let used = used_light (references (tables ss) h.laid) in
      let light = references_light (tables ss) h.laid in
      let said = (laid_said 1 (at_start ss) ss h.laid h.located).0 in
      let is = ap (λ l. length (used_names l)) uses_named in
      omega (arith, count, few, names, used, light, said, is)

  pub uses_meant : HasNames ss → AreMeant (tables ss) (uses_in d)
  uses_meant names = subst (AreMeant (tables ss)) (sym uses_named) (are_meant_uses ss h.laid names h.located)

  pub fields_inside : first_unit_fault ss ≡ None → AllByRecursion (λ (f : OpenField). f.section < length (opened_of (tables ss)).sections) d.fields.items
  fields_inside good =
      unmapped (length (opened_of (tables ss)).sections) d.fields.items
      (subst (λ fs. AllByRecursion (λ (f : Field). f.section < length (opened_of (tables ss)).sections) fs) (sym h.open_fields)
      (laid_inside (tables ss) (opened_of (tables ss)).sections h.laid (settled ss h.laid good h.located)))

-- ---- one more

pub uses_more : (made now : List CodeUse) (fs : List OpenField) (i : ℕ) (d : OpenField) → i < length fs → uses_of now ≡ uses_of made ++ open_field_use (get_or fs i d) → uses_of made ++ flat_map open_field_use (drop i fs) ≡ flat_map open_field_use fs
    → uses_of now ++ flat_map open_field_use (drop (i + 1) fs) ≡ flat_map open_field_use fs
uses_more made now fs i d inside is h =
    ap (λ l. l ++ flat_map open_field_use (drop (i + 1) fs)) is ∙ append_assoc (uses_of made) (open_field_use (get_or fs i d)) (flat_map open_field_use (drop (i + 1) fs))
    ∙ ap (λ l. uses_of made ++ flat_map open_field_use l) (sym (drop_more fs i d inside)) ∙ h
