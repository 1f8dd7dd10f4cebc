-- Where names have addresses, no reference is undefined.

use Rattle.std.proofs.Common.{◌≡◌, ◌+◌, ℕ, suc, Bool, true, false, Option, Some, None, List, [], ◌∷◌, ◌++◌, is_some, refl, sym, ap, ◌∙◌, ◌%◌, ◌^◌}
use Rattle.std.specs.Prelude.{IsTrue, ◌||◌, option_and_then, if◌then◌else◌}
use Rattle.std.specs.List.{AllByRecursion, slice_get}
use Rattle.std.specs.Option.{option_or}
use Rattle.rv_list_laws.proofs.EachLemmas.{each_left, each_right}
use Rattle.rv_map_laws.specs.Globals.{global_address, linker_symbols}
use Rattle.rv_map_laws.specs.Map.{Map}
use Rattle.rv_object_laws.specs.declared.symbol.Definition.{Definition}
use Rattle.rv_object_laws.specs.declared.symbol.Definition.TheVariants as definitions
use Rattle.rv_object_laws.specs.Object.{Relocation, Section, Symbol, Object}
use Rattle.rv_link_laws.specs.Moves.{moves, new_offset}
use Rattle.rv_link_laws.specs.Inputs.{Starts, InputSection, inputs_from, inputs_of, inputs}
use Rattle.rv_link_laws.specs.IsLinkOf.{is_loaded}
use Rattle.rv_object_laws.specs.Bindings.{is_weak}
use Rattle.rv_link_laws.specs.Names.{Export, Outer, is_sure, chosen, offset_address, defined_address, globals_of, shown_linker_symbols, outer_address, symbol_address}
use Rattle.rv_link_laws.specs.Values.{target}
use Rattle.rv_link_laws.specs.Undefined.{has_address, is_loaded_at, is_known, is_resolved, undefined_symbol, undefined_name, undefined_in, first_some, first_undefined}
use Rattle.rv_link_laws.proofs.LinkerNamesLemmas.{some_address}
use Rattle.rv_link_laws.proofs.ShownLemmas.{outer_some, outer_none}
use Rattle.rv_unique_theorems.proofs.FoundLemmas.{input}

some_by : (b : Bool) (n : ℕ) → is_some (if b then Some n else None) ≡ true → b ≡ true
some_by true n e = refl
some_by false n e = absurd (cc)

loaded_by : (start offset : ℕ) (f : Option Section) → is_some (offset_address start offset f) ≡ true → is_loaded_at f ≡ true
loaded_by start offset None e = absurd (cc)
loaded_by start offset (Some s) e = some_by s.loaded ((start + new_offset (moves start s) offset) % 2 ^ 64) e

addressed : (starts : ℕ → ℕ) (o : Object) (d : Definition) → is_some (defined_address starts o d) ≡ true → has_address o d ≡ true
addressed starts o definitions.Undefined e = absurd (cc)
addressed starts o (definitions.Absolute n) e = refl
addressed starts o (definitions.InSection section offset) e = loaded_by (starts section) offset (slice_get o.sections section) e
addressed starts o (definitions.Skipped n) e = absurd (cc)

-- a name that nobody defines is the linker's, or 0
unshown_by : (a : Option ℕ) (weak : Bool) → is_some (option_or a (if weak then Some 0 else None)) ≡ true → (is_some a || weak) ≡ true
unshown_by (Some n) weak e = refl
unshown_by None true e = refl
unshown_by None false e = absurd (cc)

module _ (os : List Object) (starts : Starts) (m : Map) where
  abbrev outer : Outer
  outer = outer_address os (globals_of starts os ++ shown_linker_symbols os m)

  outer_known : (s : Symbol) → is_some (outer s) ≡ true → is_known s (chosen os s.name) ≡ true
  outer_known s e = by (chosen os s.name) refl
    where
      by : (f : Option Export) → chosen os s.name ≡ f → is_known s f ≡ true
      by (Some x) is = addressed (starts x.file) x.object x.symbol.definition (ap is_some (sym (outer_some starts os m s x is)) ∙ e)
      by None is =
          ap (λ b. b || is_weak s.binding) (sym (some_address (linker_symbols m) s.name))
          ∙ unshown_by (global_address (linker_symbols m) s.name) (is_weak s.binding) (ap is_some (sym (outer_none starts os m s is)) ∙ e)

  symbol_known : (own : ℕ → ℕ) (o : Object) (s : Symbol) → is_some (symbol_address outer own o s) ≡ true → is_resolved os o s ≡ true
  symbol_known own o s e = by (is_sure s) e
    where
      by : (b : Bool) → is_some (if b then defined_address own o s.definition else outer s) ≡ true → (if b then has_address o s.definition else is_known s (chosen os s.name)) ≡ true
      by true h = addressed own o s.definition h
      by false h = outer_known s h

  none_by : (own : ℕ → ℕ) (o : Object) (f : Option Symbol) → is_some (option_and_then (symbol_address outer own o) f) ≡ true → undefined_symbol os o f ≡ None
  none_by own o None e = absurd (cc)
  none_by own o (Some s) e = ap (λ b. if b then None else Some s.name) (symbol_known own o s e)

  none_at : (own : ℕ → ℕ) (o : Object) (index : Option ℕ) → is_some (target outer own o index) ≡ true → undefined_name os o index ≡ None
  none_at own o None e = refl
  none_at own o (Some index) e = none_by own o (slice_get o.symbols index) e

  abbrev pub HaveTargets : InputSection → Type 0
  HaveTargets i = AllByRecursion (λ r. IsTrue (is_some (target outer (starts i.file) i.object r.symbol))) i.section.relocations

  none_of : (own : ℕ → ℕ) (o : Object) (rs : List Relocation) → AllByRecursion (λ r. IsTrue (is_some (target outer own o r.symbol))) rs → first_some (λ r. undefined_name os o r.symbol) rs ≡ None
  none_of own o [] h = refl
  none_of own o (r ∷ rs) (e, h) = ap (λ f. option_or f (first_some (λ q. undefined_name os o q.symbol) rs)) (none_at own o r.symbol e) ∙ none_of own o rs h

  none_in : (file : ℕ) (o : Object) (index : ℕ) (ss : List Section) → AllByRecursion HaveTargets (inputs_from is_loaded file o index ss) → first_some (undefined_in os o) ss ≡ None
  none_in file o index [] h = refl
  none_in file o index (s ∷ ss) h = by s.loaded h (none_in file o (suc index) ss)
    where
      by : (b : Bool) → AllByRecursion HaveTargets (if b then input file o index s ∷ inputs_from is_loaded file o (suc index) ss else inputs_from is_loaded file o (suc index) ss)
          → (AllByRecursion HaveTargets (inputs_from is_loaded file o (suc index) ss) → first_some (undefined_in os o) ss ≡ None)
          → option_or (if b then first_some (λ r. undefined_name os o r.symbol) s.relocations else None) (first_some (undefined_in os o) ss) ≡ None
      by true (own, h) rest = ap (λ f. option_or f (first_some (undefined_in os o) ss)) (none_of (starts file) o s.relocations own) ∙ rest h
      by false h rest = rest h

  none_from : (file : ℕ) (ps : List Object) → AllByRecursion HaveTargets (inputs_of is_loaded file ps) → first_some (λ o. first_some (undefined_in os o) o.sections) ps ≡ None
  none_from file [] h = refl
  none_from file (o ∷ ps) h =
      ap (λ f. option_or f (first_some (λ q. first_some (undefined_in os q) q.sections) ps))
      (none_in file o 0 o.sections (each_left HaveTargets (inputs_from is_loaded file o 0 o.sections) (inputs_of is_loaded (suc file) ps) h))
      ∙ none_from (suc file) ps (each_right HaveTargets (inputs_from is_loaded file o 0 o.sections) (inputs_of is_loaded (suc file) ps) h)

  pub none_undefined : AllByRecursion HaveTargets (inputs is_loaded os) → first_undefined os ≡ None
  none_undefined h = none_from 1 os h
