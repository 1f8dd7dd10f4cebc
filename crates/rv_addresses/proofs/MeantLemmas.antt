-- What a symbol means: its definition, and the address and the place of that.

use Rattle.std.proofs.Common.{◌≡◌, ◌+◌, ℕ, Bool, true, false, Option, Some, None, option_map, List, slice_get, refl, sym, ap, ◌∙◌}
use Rattle.std.specs.Prelude.{option_and_then, if◌then◌else◌}
use Rattle.std.specs.Option.{option_or}
use Rattle.rv_list_laws.proofs.OptionsLemmas.{option_map_none}
use Rattle.rv_map_laws.specs.Globals.{global_address, linker_symbols}
use Rattle.rv_map_laws.specs.Map.{Map}
use Rattle.rv_object_laws.specs.Object.{Symbol, Object}
use Rattle.rv_link_laws.specs.Inputs.{Starts}
use Rattle.rv_object_laws.specs.Bindings.{is_weak}
use Rattle.rv_link_laws.specs.Names.{Export, is_sure, chosen, defined_address, outer_address, symbol_address, Place, place_in, shared_place, symbol_place}
use Rattle.rv_addresses.specs.declared.resolution.Meant.{Meant}
use Rattle.rv_addresses.specs.Meant.{meant_of, meant_by}
use Rattle.rv_link_laws.specs.Undefined.{has_address, is_known, is_resolved}
use Rattle.rv_link_laws.proofs.ChosenLemmas.{chosen_held}
use Rattle.rv_link_laws.proofs.ShownLemmas.{every, outer_some, outer_none}

-- ---- places

abbrev pub kept_place : Meant → Option Place
kept_place x = place_in (x.file.0 + 1) x.definition

pub place_meant : (os : List Object) (file : ℕ) (s : Symbol) → option_and_then kept_place (meant_by os file s) ≡ symbol_place os (file + 1) s
place_meant os file s = by (is_sure s)
  where
    go : (f : Option Export) → chosen os s.name ≡ f → option_and_then kept_place (option_map meant_of f) ≡ option_and_then (λ e. place_in e.file e.symbol.definition) f
    go None is = refl
    go (Some e) is = ap (λ n. place_in n e.symbol.definition) (chosen_held os s.name e is).counted

    by : (b : Bool) → option_and_then kept_place (if b then Some (record { file = record { 0 = file }; definition = s.definition }) else option_map meant_of (chosen os s.name))
        ≡ (if b then place_in (file + 1) s.definition else shared_place os s.name)
    by true = refl
    by false = go (chosen os s.name) refl

-- ---- definitions

-- a definition is one of an object at its file
pub record IsKept (os : List Object) (name : List ℕ) (x : Meant) : Type 0 where
  pub export : Export
  pub found : chosen os name ≡ Some export
  pub same : meant_of export ≡ x
  pub file : x.file.0 + 1 ≡ export.file
  pub at : slice_get os x.file.0 ≡ Some export.object

pub kept_held : (os : List Object) (name : List ℕ) (x : Meant) → option_map meant_of (chosen os name) ≡ Some x → IsKept os name x
kept_held os name x is = by (chosen os name) refl is
  where
    by : (f : Option Export) → chosen os name ≡ f → option_map meant_of f ≡ Some x → IsKept os name x
    by None f h = absurd (cc)
    by (Some e) f h =
        let same : meant_of e ≡ x = let t : ◌≡◌ {A = Option Meant} (Some (meant_of e)) (Some x) = h in cc in
        let held = chosen_held os name e f in
        record {
          export = e;
          found = f;
          same = same;
          file = ap (λ (y : Meant). y.file.0 + 1) (sym same) ∙ held.counted;
          at = ap (λ (y : Meant). slice_get os y.file.0) (sym same) ∙ held.object;
        }

module _ (os : List Object) (file : ℕ) (o : Object) (s : Symbol) where
  -- a definition that a symbol means is that of an object, and gives its address
  pub record IsMeant (x : Meant) : Type 0 where
    pub holder : Object
    pub at : slice_get os x.file.0 ≡ Some holder
    pub resolved : is_resolved os o s ≡ has_address holder x.definition
    pub address : (starts : Starts) (m : Map) → symbol_address (outer_address os (every starts os m)) (starts (file + 1)) o s ≡ defined_address (starts (x.file.0 + 1)) holder x.definition

  module _ (at : slice_get os file ≡ Some o) (x : Meant) where
    own : is_sure s ≡ true → Some (record { file = record { 0 = file }; definition = s.definition }) ≡ Some x → IsMeant x
    own sure is =
        let same : record { file = record { 0 = file }; definition = s.definition } ≡ x = cc in
        record {
          holder = o;
          at = ap (λ (y : Meant). slice_get os y.file.0) (sym same) ∙ at;
          resolved = ap (λ b. if b then has_address o s.definition else is_known s (chosen os s.name)) sure ∙ ap (λ (y : Meant). has_address o y.definition) same;
          address = λ starts m.
              ap (λ b. if b then defined_address (starts (file + 1)) o s.definition else outer_address os (every starts os m) s) sure
              ∙ ap (λ (y : Meant). defined_address (starts (y.file.0 + 1)) o y.definition) same;
        }

    others : is_sure s ≡ false → IsKept os s.name x → IsMeant x
    others unsure k =
        let e = k.export in
        record {
          holder = e.object;
          at = k.at;
          resolved = ap (λ b. if b then has_address o s.definition else is_known s (chosen os s.name)) unsure ∙ ap (is_known s) k.found ∙ ap (λ (y : Meant). has_address e.object y.definition) k.same;
          address = λ starts m.
              ap (λ b. if b then defined_address (starts (file + 1)) o s.definition else outer_address os (every starts os m) s) unsure
              ∙ outer_some starts os m s e k.found
              ∙ ap (λ n. defined_address (starts n) e.object e.symbol.definition) (sym k.file)
              ∙ ap (λ (y : Meant). defined_address (starts (x.file.0 + 1)) e.object y.definition) k.same;
        }

    pub is_meant : meant_by os file s ≡ Some x → IsMeant x
    is_meant is = by (is_sure s) refl is
      where
        by : (b : Bool) → is_sure s ≡ b → (if b then Some (record { file = record { 0 = file }; definition = s.definition }) else option_map meant_of (chosen os s.name)) ≡ Some x → IsMeant x
        by true sure h = own sure h
        by false unsure h = others unsure (kept_held os s.name x h)

  -- a symbol that means no definition means what the linker gives its name, or 0
  unsure : meant_by os file s ≡ None → (is_sure s ≡ false) × (chosen os s.name ≡ None)
  unsure is = by (is_sure s) refl is
    where
      by : (b : Bool) → is_sure s ≡ b → (if b then Some (record { file = record { 0 = file }; definition = s.definition }) else option_map meant_of (chosen os s.name)) ≡ None → (is_sure s ≡ false) × (chosen os s.name ≡ None)
      by true sure h = absurd (cc)
      by false not_sure h = (not_sure, option_map_none meant_of (chosen os s.name) h)

  pub address_none : meant_by os file s ≡ None → (starts : Starts) (m : Map)
      → symbol_address (outer_address os (every starts os m)) (starts (file + 1)) o s ≡ option_or (global_address (linker_symbols m) s.name) (if is_weak s.binding then Some 0 else None)
  address_none is starts m =
      ap (λ b. if b then defined_address (starts (file + 1)) o s.definition else outer_address os (every starts os m) s) (unsure is).0
      ∙ outer_none starts os m s (unsure is).1

-- what a symbol means that its own object doesn't surely define has an address
pub known_resolved : (os : List Object) (o : Object) (s : Symbol) → is_sure s ≡ false → is_known s (chosen os s.name) ≡ is_resolved os o s
known_resolved os o s unsure = sym (ap (λ b. if b then has_address o s.definition else is_known s (chosen os s.name)) unsure)
