-- One name more that a map shows.

use Rattle.std.proofs.Common.{◌≡◌, ◌<◌, ◌+◌, ℕ, suc, Bool, true, false, cond, Option, Some, List, [], ◌∷◌, ◌++◌, length, drop, get_or, slice_get, is_some, refl, sym, ap, ◌∙◌, append_assoc, append-nil, arith}
use Rattle.std.specs.Prelude.{option_map, ◌&&◌, filter, flat_map, if◌then◌else◌}
use Rattle.std.proofs.lemmas.Bool.{and_parts}
use Rattle.std.proofs.lemmas.List.Elements.{filter-append}
use Rattle.std.proofs.lemmas.Grind.{flat_map-append}
use Rattle.rv_list_laws.proofs.TakeDropLemmas.{drop_read, drop_next}
use Rattle.rv_map_laws.specs.Globals.{shown}
use Rattle.rv_map_laws.specs.Map.{Global}
use Rattle.rv_object_laws.specs.Object.{Symbol, Object}
use Rattle.rv_object_laws.specs.Bindings.{is_shared}
use Rattle.rv_link_laws.specs.Names.{Export, defined_address, export_address, is_export, exports_in, exports_from, chosen, is_chosen}
use Rattle.rv_placement.specs.declared.placement.Placement.{Placement}
use Rattle.rv_placement.specs.Placement.{starts_of}
use Rattle.rv_names.specs.declared.definitions.Exported.{Exported}
use Rattle.rv_names.specs.Chosen.{definer}
use Rattle.rv_names.specs.Names.{exported_of}
use Rattle.rv_addresses.specs.Shown.{shown_exports, export_at, is_chosen_at, shown_in}
use Rattle.rv_names.proofs.ChosenLemmas.{kept_some}

-- ---- the linker's

-- a name that the table finds is one that an object defines
pub is_taken : (os : List Object) (name : List ℕ) (f : Option Exported) (b : Bool) → f ≡ option_map exported_of (definer os name) → is_some f ≡ b
    → is_some (chosen os name) ≡ b
is_taken os name f b found is = sym (kept_some os name) ∙ ap is_some (sym found) ∙ is

-- ---- one symbol more of a file

module _ (os : List Object) (p : Placement) where
  shown-append : (xs ys : List Export) → shown_exports p (filter (is_chosen os) (xs ++ ys)) ≡ shown_exports p (filter (is_chosen os) xs) ++ shown_exports p (filter (is_chosen os) ys)
  shown-append xs ys =
      let one : Export → List Global = λ e. shown e.symbol.name (export_address (starts_of p) e) in
      ap (flat_map one) (filter-append (is_chosen os) xs ys) ∙ flat_map-append one (filter (is_chosen os) xs) (filter (is_chosen os) ys)

  one_in : (file : ℕ) (o : Object) (index : ℕ) (s : Symbol) (ss : List Symbol) → exports_in is_shared file o index (s ∷ ss) ≡ exports_in is_shared file o index (s ∷ []) ++ exports_in is_shared file o (suc index) ss
  one_in file o index s ss = by (is_export is_shared s)
    where
      it : Export
      it = record { file = file; object = o; index = index; symbol = s }

      rest : List Export
      rest = exports_in is_shared file o (suc index) ss

      by : (b : Bool) → (if b then it ∷ rest else rest) ≡ (if b then it ∷ [] else []) ++ rest
      by true = refl
      by false = refl

  -- of what is drop_read of its symbols
  pub symbol_more : (file : ℕ) (o : Object) (i : ℕ) (s : Symbol) (now next all : List Global) → slice_get o.symbols i ≡ Some s
      → now ++ shown_in os p file o i (drop i o.symbols) ≡ all → next ≡ now ++ shown_in os p file o i (s ∷ [])
      → next ++ shown_in os p file o (i + 1) (drop (i + 1) o.symbols) ≡ all
  symbol_more file o i s now next all at h more =
      let behind = drop (i + 1) o.symbols in
      let after : suc i ≡ i + 1 = omega arith in
      ap (λ l. l ++ shown_in os p file o (i + 1) behind) more
      ∙ append_assoc now (shown_in os p file o i (s ∷ [])) (shown_in os p file o (i + 1) behind)
      ∙ ap (λ n. now ++ (shown_in os p file o i (s ∷ []) ++ shown_in os p file o n behind)) (sym after)
      ∙ ap (λ l. now ++ l)
      (sym (shown-append (exports_in is_shared (file + 1) o i (s ∷ [])) (exports_in is_shared (file + 1) o (suc i) behind))
      ∙ ap (λ l. shown_exports p (filter (is_chosen os) l)) (sym (one_in (file + 1) o i s behind))
      ∙ ap (shown_in os p file o i) (sym (drop_next o.symbols i s at)))
      ∙ h

  -- a symbol that is no such definition, and one that is
  pub none_shown : (file : ℕ) (o : Object) (i : ℕ) (s : Symbol) → is_chosen_at os file o i s ≡ false → shown_in os p file o i (s ∷ []) ≡ []
  none_shown file o i s e = by (is_export is_shared s) (is_chosen os (export_at file o i s)) refl e
    where
      by : (a b : Bool) → is_chosen os (export_at file o i s) ≡ b → (a && b) ≡ false → shown_exports p (filter (is_chosen os) (if a then export_at file o i s ∷ [] else [])) ≡ []
      by false b is h = refl
      by true b is h = ap (λ c. shown_exports p (cond c (export_at file o i s ∷ []) [])) (is ∙ h)

  pub one_shown : (file : ℕ) (o : Object) (i : ℕ) (own s : Symbol) (address : Option ℕ) → is_chosen_at os file o i own ≡ true
      → address ≡ defined_address (starts_of p (file + 1)) o own.definition → own ≡ s → shown own.name address ≡ shown_in os p file o i (s ∷ [])
  one_shown file o i own s address e stands same =
      let both = and_parts (is_export is_shared own) (is_chosen os (export_at file o i own)) e in
      let it = export_at file o i own in
      ap (shown own.name) stands ∙ sym (append-nil (shown own.name (defined_address (starts_of p (file + 1)) o own.definition)))
      ∙ sym
      (ap (λ b. shown_exports p (filter (is_chosen os) (if b then it ∷ [] else []))) both.0
      ∙ ap (λ b. shown_exports p (cond b (it ∷ []) [])) both.1)
      ∙ ap (λ q. shown_in os p file o i (q ∷ [])) same

  -- ---- one file more

  abbrev pub files_shown : (file : ℕ) → List Object → List Global
  files_shown file drop_read = shown_exports p (filter (is_chosen os) (exports_from is_shared (suc file) drop_read))

  pub file_more : (i : ℕ) (o : Object) (now next all : List Global) → i < length os → o ≡ get_or os i o
      → now ++ files_shown i (drop i os) ≡ all → next ≡ now ++ shown_in os p i o 0 o.symbols → next ++ files_shown (i + 1) (drop (i + 1) os) ≡ all
  file_more i o now next all inside is h more =
      let after : i + 1 ≡ suc i = omega arith in
      let behind = drop (i + 1) os in
      ap (λ l. l ++ files_shown (i + 1) behind) more
      ∙ append_assoc now (shown_in os p i o 0 o.symbols) (files_shown (i + 1) behind)
      ∙ ap (λ n. now ++ (shown_exports p (filter (is_chosen os) (exports_in is_shared n o 0 o.symbols)) ++ files_shown n behind)) after
      ∙ ap (λ l. now ++ l) (sym (shown-append (exports_in is_shared (suc i) o 0 o.symbols) (exports_from is_shared (suc (suc i)) behind)))
      ∙ ap (λ l. now ++ files_shown i l) (sym (drop_read os i o inside is))
      ∙ h
