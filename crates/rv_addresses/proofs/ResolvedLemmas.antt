-- Where no reference is undefined, each has an address.

use Rattle.std.proofs.Common.{◌≡◌, ℕ, suc, Bool, true, false, Option, Some, None, List, [], ◌∷◌, is_some, slice_get, refl, ap, ◌∙◌}
use Rattle.std.specs.Prelude.{IsTrue, ◌||◌, option_and_then, if◌then◌else◌}
use Rattle.std.specs.List.{AllByRecursion}
use Rattle.std.specs.Option.{option_or}
use Rattle.rv_list_laws.proofs.EachLemmas.{each_append}
use Rattle.rv_map_laws.specs.Globals.{global_address, is_one_of, linker_symbols}
use Rattle.rv_map_laws.specs.Map.{Map}
use Rattle.rv_object_laws.specs.declared.symbol.Definition.{Definition}
use Rattle.rv_object_laws.specs.declared.symbol.Definition.TheVariants as definitions
use Rattle.rv_object_laws.specs.Object.{Relocation, Section, Symbol, Object}
use Rattle.rv_link_laws.specs.Inputs.{Starts, InputSection, inputs_from, inputs_of}
use Rattle.rv_link_laws.specs.IsLinkOf.{is_loaded}
use Rattle.rv_object_laws.specs.Bindings.{is_weak}
use Rattle.rv_link_laws.specs.Names.{Export, Outer, is_sure, chosen, defined_address, offset_address, outer_address, symbol_address}
use Rattle.rv_link_laws.specs.Values.{target}
use Rattle.rv_link_laws.specs.Undefined.{has_address, is_loaded_at, is_known, is_resolved, linker_names, undefined_symbol, undefined_name, undefined_in, first_some, first_undefined}
use Rattle.rv_addresses.specs.Resolved.{AreResolved}
use Rattle.rv_link_laws.proofs.FirstSomeLemmas.{each_none}
use Rattle.rv_link_laws.proofs.LinkerNamesLemmas.{some_address}
use Rattle.rv_link_laws.proofs.ShownLemmas.{every, outer_some, outer_none}

some_if : (b : Bool) (n : ℕ) → b ≡ true → is_some (if b then Some n else None) ≡ true
some_if b n e = ap (λ c. is_some (if c then Some n else None)) e

section_address : (start offset : ℕ) (f : Option Section) → is_loaded_at f ≡ true → is_some (offset_address start offset f) ≡ true
section_address start offset None e = absurd (cc)
section_address start offset (Some s) e = some_if s.loaded _ e

definition_address : (starts : ℕ → ℕ) (o : Object) (d : Definition) → has_address o d ≡ true → is_some (defined_address starts o d) ≡ true
definition_address starts o definitions.Undefined e = absurd (cc)
definition_address starts o (definitions.Absolute n) e = refl
definition_address starts o (definitions.InSection section offset) e = section_address (starts section) offset (slice_get o.sections section) e
definition_address starts o (definitions.Skipped n) e = absurd (cc)

or_some : (f g : Option ℕ) (a b : Bool) → is_some f ≡ a → is_some g ≡ b → (a || b) ≡ true → is_some (option_or f g) ≡ true
or_some (Some x) g a b e h both = refl
or_some None g a b e h both = h ∙ ap (λ c. c || b) e ∙ both

zero_if : (b : Bool) → is_some {T = ℕ} (if b then Some 0 else None) ≡ b
zero_if true = refl
zero_if false = refl

module _ (os : List Object) (starts : Starts) (m : Map) where
  abbrev outer : Outer
  outer = outer_address os (every starts os m)

  name_address : (s : Symbol) → is_known s (chosen os s.name) ≡ true → is_some (outer s) ≡ true
  name_address s e = by (chosen os s.name) refl e
    where
      by : (f : Option Export) → chosen os s.name ≡ f → is_known s f ≡ true → is_some (outer s) ≡ true
      by (Some x) is h = ap is_some (outer_some starts os m s x is) ∙ definition_address (starts x.file) x.object x.symbol.definition h
      by None is h =
          ap is_some (outer_none starts os m s is)
          ∙ or_some (global_address (linker_symbols m) s.name) (if is_weak s.binding then Some 0 else None) (is_one_of linker_names s.name) (is_weak s.binding) (some_address (linker_symbols m) s.name) (zero_if (is_weak s.binding)) h

  meant_address : (own : ℕ → ℕ) (o : Object) (s : Symbol) → is_resolved os o s ≡ true → is_some (symbol_address outer own o s) ≡ true
  meant_address own o s e = by (is_sure s) e
    where
      by : (b : Bool) → (if b then has_address o s.definition else is_known s (chosen os s.name)) ≡ true → is_some (if b then defined_address own o s.definition else outer s) ≡ true
      by true h = definition_address own o s.definition h
      by false h = name_address s h

  symbol_target : (own : ℕ → ℕ) (o : Object) (f : Option Symbol) → undefined_symbol os o f ≡ None → is_some (option_and_then (symbol_address outer own o) f) ≡ true
  symbol_target own o None h = absurd (cc)
  symbol_target own o (Some s) h = by (is_resolved os o s) refl h
    where
      by : (b : Bool) → is_resolved os o s ≡ b → (if b then None else Some s.name) ≡ None → is_some (symbol_address outer own o s) ≡ true
      by true e h = meant_address own o s e
      by false e h = absurd (cc)

  index_target : (own : ℕ → ℕ) (o : Object) (index : Option ℕ) → undefined_name os o index ≡ None → IsTrue (is_some (target outer own o index))
  index_target own o None h = refl
  index_target own o (Some i) h = symbol_target own o (slice_get o.symbols i) h

  targets : (own : ℕ → ℕ) (o : Object) (rs : List Relocation) → AllByRecursion (λ r. undefined_name os o r.symbol ≡ None) rs → AllByRecursion (λ r. IsTrue (is_some (target outer own o r.symbol))) rs
  targets own o [] h = tt
  targets own o (r ∷ rs) h = (index_target own o r.symbol h.0, targets own o rs h.1)

  abbrev IsResolvedAt : InputSection → Type 0
  IsResolvedAt i = AllByRecursion (λ r. IsTrue (is_some (target outer (starts i.file) i.object r.symbol))) i.section.relocations

  sections : (file : ℕ) (o : Object) (index : ℕ) (ss : List Section) → AllByRecursion (λ s. undefined_in os o s ≡ None) ss → AllByRecursion IsResolvedAt (inputs_from is_loaded file o index ss)
  sections file o index [] h = tt
  sections file o index (s ∷ ss) h = by s.loaded h.0 (sections file o (suc index) ss h.1)
    where
      by : (b : Bool) → (if b then first_some (λ r. undefined_name os o r.symbol) s.relocations else None) ≡ None
          → AllByRecursion IsResolvedAt (inputs_from is_loaded file o (suc index) ss)
          → AllByRecursion IsResolvedAt (if b then record { file = file; object = o; index = index; section = s } ∷ inputs_from is_loaded file o (suc index) ss else inputs_from is_loaded file o (suc index) ss)
      by true h rest = (targets (starts file) o s.relocations (each_none (λ (r : Relocation). undefined_name os o r.symbol) s.relocations h), rest)
      by false h rest = rest

  files : (file : ℕ) (ps : List Object) → AllByRecursion (λ o. first_some (undefined_in os o) o.sections ≡ None) ps → AllByRecursion IsResolvedAt (inputs_of is_loaded file ps)
  files file [] h = tt
  files file (o ∷ ps) h =
      each_append IsResolvedAt (inputs_from is_loaded file o 0 o.sections) (inputs_of is_loaded (suc file) ps)
      (sections file o 0 o.sections (each_none (undefined_in os o) o.sections h.0)) (files (suc file) ps h.1)

  pub all_resolved : first_undefined os ≡ None → AreResolved starts os outer
  all_resolved h = files 1 os (each_none (λ (o : Object). first_some (undefined_in os o) o.sections) os h)
