-- What names mean in what is left of objects: the same definitions, at the same places.

use Rattle.std.proofs.Common.{◌≡◌, ℕ, suc, Bool, true, false, cond, List, [], ◌∷◌, ◌++◌, map, filter, refl, sym, ap, ◌∙◌, Option, Some, None}
use Rattle.std.specs.Prelude.{bytes_eq, is_some, option_and_then, if◌then◌else◌}
use Rattle.std.specs.List.{find, slice_get}
use Rattle.std.specs.Option.{option_map}
use Rattle.std.proofs.lemmas.List.{map-append}
use Rattle.rv_map_laws.specs.declared.map.SectionId.{SectionId}
use Rattle.rv_collect_laws.specs.Graph.{is_dropped}
use Rattle.rv_object_laws.specs.Bindings.{is_global, is_shared, is_weak}
use Rattle.rv_object_laws.specs.declared.symbol.Binding.{Binding}
use Rattle.rv_object_laws.specs.Object.{Relocation, Symbol, Object}
use Rattle.rv_link_laws.specs.CallSites.{target_place}
use Rattle.rv_link_laws.specs.Inputs.{InputSection}
use Rattle.rv_link_laws.specs.Left.{left_of, export_left}
use Rattle.rv_link_laws.specs.Names.{is_sure, Export, is_export, exports_in, exports_from, exports_where, names_of, candidates, chosen, is_this, is_chosen, chosen_exports, global_names, place_in, shared_place, symbol_place}
use Rattle.rv_link_laws.specs.Without.{without_object, without_from, without}

module _ (drops : List SectionId) where
  -- ---- definitions for all files

  exports_left_in : (test : Binding → Bool) (file : ℕ) (o : Object) (index : ℕ) (ss : List Symbol)
      → exports_in test file (without_object (is_dropped drops file) o) index ss ≡ map (export_left drops) (exports_in test file o index ss)
  exports_left_in test file o index [] = refl
  exports_left_in test file o index (s ∷ ss) = by (is_export test s) (exports_left_in test file o (suc index) ss)
    where
      it : Export
      it = record { file = file; object = o; index = index; symbol = s }

      rest : List Export
      rest = exports_in test file o (suc index) ss

      left : List Export
      left = exports_in test file (without_object (is_dropped drops file) o) (suc index) ss

      by : (b : Bool) → left ≡ map (export_left drops) rest → (if b then export_left drops it ∷ left else left) ≡ map (export_left drops) (if b then it ∷ rest else rest)
      by true h = ap (λ l. export_left drops it ∷ l) h
      by false h = h

  exports_left_from : (test : Binding → Bool) (file : ℕ) (os : List Object) → exports_from test file (without_from drops file os) ≡ map (export_left drops) (exports_from test file os)
  exports_left_from test file [] = refl
  exports_left_from test file (o ∷ os) =
      let own = exports_in test file o 0 o.symbols in
      let others = exports_from test (suc file) os in
      ap (λ l. l ++ exports_from test (suc file) (without_from drops (suc file) os)) (exports_left_in test file o 0 o.symbols)
      ∙ ap (λ l. map (export_left drops) own ++ l) (exports_left_from test (suc file) os) ∙ sym (map-append (export_left drops) own others)

  -- those of a binding are the same, each in what is left of its object
  pub exports_left : (test : Binding → Bool) (os : List Object) → exports_where test (without drops os) ≡ map (export_left drops) (exports_where test os)
  exports_left test os = exports_left_from test 1 os

  pub candidates_left : (os : List Object) → candidates (without drops os) ≡ map (export_left drops) (candidates os)
  candidates_left os =
      ap (λ l. l ++ exports_where is_weak (without drops os)) (exports_left is_global os) ∙ ap (λ l. map (export_left drops) (exports_where is_global os) ++ l) (exports_left is_weak os)
      ∙ sym (map-append (export_left drops) (exports_where is_global os) (exports_where is_weak os))

  -- ---- what a name means

  found_left : (name : List ℕ) (es : List Export)
      → find (λ e. bytes_eq e.symbol.name name) (map (export_left drops) es) ≡ option_map (export_left drops) (find (λ e. bytes_eq e.symbol.name name) es)
  found_left name [] = refl
  found_left name (e ∷ es) = by (bytes_eq e.symbol.name name) (found_left name es)
    where
      here : Option Export
      here = find (λ x. bytes_eq x.symbol.name name) es

      there : Option Export
      there = find (λ x. bytes_eq x.symbol.name name) (map (export_left drops) es)

      by : (b : Bool) → there ≡ option_map (export_left drops) here → cond b (Some (export_left drops e)) there ≡ option_map (export_left drops) (cond b (Some e) here)
      by true h = refl
      by false h = h

  -- a name means the same definition: its file, index and symbol are the same, and its object is
  -- what is left of it
  pub chosen_left : (os : List Object) (name : List ℕ) → chosen (without drops os) name ≡ option_map (export_left drops) (chosen os name)
  chosen_left os name = ap (find (λ e. bytes_eq e.symbol.name name)) (candidates_left os) ∙ found_left name (candidates os)

  -- a name has a meaning where it had one
  pub is_some_left : (os : List Object) (name : List ℕ) → is_some (chosen (without drops os) name) ≡ is_some (chosen os name)
  is_some_left os name = ap is_some (chosen_left os name) ∙ by (chosen os name)
    where
      by : (c : Option Export) → is_some (option_map (export_left drops) c) ≡ is_some c
      by None = refl
      by (Some e) = refl

  -- ---- places

  pub shared_place_left : (os : List Object) (name : List ℕ) → shared_place (without drops os) name ≡ shared_place os name
  shared_place_left os name = ap (option_and_then (λ e. place_in e.file e.symbol.definition)) (chosen_left os name) ∙ by (chosen os name)
    where
      by : (c : Option Export) → option_and_then (λ e. place_in e.file e.symbol.definition) (option_map (export_left drops) c) ≡ option_and_then (λ e. place_in e.file e.symbol.definition) c
      by None = refl
      by (Some e) = refl

  pub symbol_place_left : (os : List Object) (file : ℕ) (s : Symbol) → symbol_place (without drops os) file s ≡ symbol_place os file s
  symbol_place_left os file s = ap (λ l. if is_sure s then place_in file s.definition else l) (shared_place_left os s.name)

  -- the symbol of a relocation means the same place, whatever is left of the objects
  pub target_place_left : (os : List Object) (i : InputSection) (r : Relocation) → target_place (without drops os) (left_of drops i) r ≡ target_place os i r
  target_place_left os i r = by r.symbol
    where
      one : (s : Option Symbol) → option_and_then (symbol_place (without drops os) i.file) s ≡ option_and_then (symbol_place os i.file) s
      one None = refl
      one (Some s) = symbol_place_left os i.file s

      by : (n : Option ℕ) → option_and_then (λ index. option_and_then (symbol_place (without drops os) i.file) (slice_get i.object.symbols index)) n
          ≡ option_and_then (λ index. option_and_then (symbol_place os i.file) (slice_get i.object.symbols index)) n
      by None = refl
      by (Some n) = one (slice_get i.object.symbols n)

  -- ---- names

  names_left : (es : List Export) → names_of (map (export_left drops) es) ≡ names_of es
  names_left [] = refl
  names_left (e ∷ es) = ap (λ l. e.symbol.name ∷ l) (names_left es)

  pub global_names_left : (os : List Object) → global_names (without drops os) ≡ global_names os
  global_names_left os = ap names_of (exports_left is_global os) ∙ names_left (exports_where is_global os)

  -- ---- the definitions that names mean

  is_chosen_left : (os : List Object) (e : Export) → is_chosen (without drops os) (export_left drops e) ≡ is_chosen os e
  is_chosen_left os e = ap (is_this (export_left drops e)) (chosen_left os e.symbol.name) ∙ by (chosen os e.symbol.name)
    where
      by : (c : Option Export) → is_this (export_left drops e) (option_map (export_left drops) c) ≡ is_this e c
      by None = refl
      by (Some f) = refl

  chosen_among : (os : List Object) (es : List Export) → filter (is_chosen (without drops os)) (map (export_left drops) es) ≡ map (export_left drops) (filter (is_chosen os) es)
  chosen_among os [] = refl
  chosen_among os (e ∷ es) =
      ap (λ b. if b then export_left drops e ∷ filter (is_chosen (without drops os)) (map (export_left drops) es) else filter (is_chosen (without drops os)) (map (export_left drops) es)) (is_chosen_left os e)
      ∙ by (is_chosen os e) (chosen_among os es)
    where
      left : List Export
      left = filter (is_chosen (without drops os)) (map (export_left drops) es)

      rest : List Export
      rest = filter (is_chosen os) es

      by : (b : Bool) → left ≡ map (export_left drops) rest → (if b then export_left drops e ∷ left else left) ≡ map (export_left drops) (if b then e ∷ rest else rest)
      by true h = ap (λ l. export_left drops e ∷ l) h
      by false h = h

  -- they are the same, each in what is left of its object
  pub chosen_exports_left : (os : List Object) → chosen_exports (without drops os) ≡ map (export_left drops) (chosen_exports os)
  chosen_exports_left os = ap (filter (is_chosen (without drops os))) (exports_left is_shared os) ∙ chosen_among os (exports_where is_shared os)
