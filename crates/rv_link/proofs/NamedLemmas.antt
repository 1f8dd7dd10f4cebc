-- The global names of placed objects can stand in a map.

use Rattle.std.proofs.Common.{◌≡◌, ◌≤◌, ◌<◌, ◌+◌, ◌%◌, ◌^◌, ℕ, suc, Bool, true, false, if◌then◌else◌, Option, Some, None, List, [], ◌∷◌, map, refl, arith}
use Rattle.std.specs.Prelude.{IsTrue, flat_map, is_some, not}
use Rattle.std.specs.List.{AllByRecursion, slice_get}
use Rattle.std.proofs.lemmas.Bool.{and_parts, ltb-true}
use Rattle.std.proofs.Math.Nat.{le_trans}
use Rattle.rv_image_laws.specs.Free.{highest}
use Rattle.rv_image_laws.proofs.FreeLemmas.{free_low}
use Rattle.rv_list_laws.proofs.EachLemmas.{each_append}
use Rattle.rv_list_laws.proofs.FilterLemmas.{each_filter}
use Rattle.rv_map_laws.specs.Globals.{shown, linker_symbols}
use Rattle.rv_map_laws.specs.Limits.{IsGlobal}
use Rattle.rv_map_laws.specs.Name.{is_name}
use Rattle.rv_object_laws.specs.declared.symbol.Binding.{Binding}
use Rattle.rv_object_laws.specs.declared.symbol.Binding.TheVariants as bindings
use Rattle.rv_object_laws.specs.declared.symbol.Definition.{Definition}
use Rattle.rv_object_laws.specs.declared.symbol.Definition.TheVariants as definitions
use Rattle.rv_object_types.specs.declared.symbol.Symbol.{Symbol as DeclaredSymbol}
use Rattle.rv_object_laws.specs.Bindings.{is_shared}
use Rattle.rv_object_laws.specs.Object.{Section, Symbol, Object}
use Rattle.rv_object_types.specs.Parts.{symbol_of}
use Rattle.rv_object_laws.specs.Valid.{is_shown, has_64_bits}
use Rattle.rv_link_laws.specs.declared.bounds.Ground.{Ground}
use Rattle.rv_link_laws.specs.Inputs.{Starts}
use Rattle.rv_link_laws.specs.Moves.{Move, moves, new_offset}
use Rattle.rv_link_laws.specs.Names.{Export, chosen, is_defined, is_export, exports_in, exports_from, exports_where, is_chosen, chosen_exports, offset_address, defined_address, export_address, globals_of, shown_linker_symbols}
use Rattle.rv_link_laws.specs.Layout.{regions_of, shown_globals}
use Rattle.rv_shorten.specs.declared.object.ShortObject.{ShortObject}
use Rattle.rv_cut_laws.specs.Cutting.{cut_definition, cut_symbol}
use Rattle.rv_shorten.specs.View.{short_object_of, moves_by_section}
use Rattle.rv_placement.specs.declared.placement.Placement.{Placement}
use Rattle.rv_placement.specs.Placement.{starts_of, IsPlacement, layout_of}

-- ---- symbols

-- a map can show a symbol's name, if all files may use it, and the number that it is
abbrev CanShow : Symbol → Type 0
CanShow s = IsTrue (is_shown s.binding s.name) × IsTrue (has_64_bits s.definition)

low_cut : (mss : List (List Move)) (d : Definition) → IsTrue (has_64_bits d) → IsTrue (has_64_bits (cut_definition mss d))
low_cut mss definitions.Undefined low = refl
low_cut mss (definitions.Absolute n) low = low
low_cut mss (definitions.InSection section offset) low = refl
low_cut mss (definitions.Skipped n) low = refl

-- the symbols of an object whose calls are cut
can_show_cut : (mss : List (List Move)) (ss : List DeclaredSymbol) → AllByRecursion CanShow (map (cut_symbol mss) (map symbol_of ss))
can_show_cut mss [] = tt
can_show_cut mss (s ∷ ss) = ((s.shown, low_cut mss s.definition s.low), can_show_cut mss ss)

can_show : (objects : List ShortObject) → AllByRecursion (λ o. AllByRecursion CanShow o.symbols) (map short_object_of objects)
can_show [] = tt
can_show (x ∷ xs) = (can_show_cut (moves_by_section x) x.whole.now.symbols.items, can_show xs)

-- ---- definitions for all files

abbrev IsShowable : Export → Type 0
IsShowable e = IsTrue (is_name e.symbol.name) × IsTrue (has_64_bits e.symbol.definition)

named : (b : Binding) (name : List ℕ) → is_shared b ≡ true → IsTrue (is_shown b name) → IsTrue (is_name name)
named bindings.Local name shared h = absurd (cc)
named bindings.Global name shared h = h
named bindings.Weak name shared h = h

showable_in : (file : ℕ) (o : Object) (index : ℕ) (ss : List Symbol) → AllByRecursion CanShow ss → AllByRecursion IsShowable (exports_in is_shared file o index ss)
showable_in file o index [] all = tt
showable_in file o index (s ∷ ss) all = by (is_export is_shared s) refl (showable_in file o (suc index) ss all.1)
  where
    rest : List Export
    rest = exports_in is_shared file o (suc index) ss

    it : Export
    it = record { file = file; object = o; index = index; symbol = s }

    by : (b : Bool) → is_export is_shared s ≡ b → AllByRecursion IsShowable rest → AllByRecursion IsShowable (if b then it ∷ rest else rest)
    by true e more = ((named s.binding s.name (and_parts (is_shared s.binding) (is_defined s.definition) e).0 all.0.0, all.0.1), more)
    by false e more = more

showable_from : (file : ℕ) (os : List Object) → AllByRecursion (λ o. AllByRecursion CanShow o.symbols) os → AllByRecursion IsShowable (exports_from is_shared file os)
showable_from file [] all = tt
showable_from file (o ∷ os) all =
    each_append IsShowable (exports_in is_shared file o 0 o.symbols) (exports_from is_shared (suc file) os) (showable_in file o 0 o.symbols all.0) (showable_from (suc file) os all.1)

-- ---- their addresses

placed_known : (name : List ℕ) (start offset : ℕ) (s : Option Section) → IsTrue (is_name name) → AllByRecursion IsGlobal (shown name (offset_address start offset s))
placed_known name start offset None is = tt
placed_known name start offset (Some s) is = by s.loaded
  where
    by : (b : Bool) → AllByRecursion IsGlobal (shown name (if b then Some ((start + new_offset (moves start s) offset) % 2 ^ 64) else None))
    by true = ((is, omega arith), tt)
    by false = tt

defined_known : (name : List ℕ) (starts : ℕ → ℕ) (o : Object) (d : Definition) → IsTrue (is_name name) → IsTrue (has_64_bits d) → AllByRecursion IsGlobal (shown name (defined_address starts o d))
defined_known name starts o definitions.Undefined is low = tt
defined_known name starts o (definitions.Absolute n) is low = ((is, ltb-true n (2 ^ 64) low), tt)
defined_known name starts o (definitions.InSection section offset) is low = placed_known name (starts section) offset (slice_get o.sections section) is
defined_known name starts o (definitions.Skipped n) is low = tt

shown_known : (starts : Starts) (es : List Export) → AllByRecursion IsShowable es → AllByRecursion IsGlobal (flat_map (λ e. shown e.symbol.name (export_address starts e)) es)
shown_known starts [] all = tt
shown_known starts (e ∷ es) all =
    each_append IsGlobal (shown e.symbol.name (export_address starts e)) (flat_map (λ e. shown e.symbol.name (export_address starts e)) es)
    (defined_known e.symbol.name (starts e.file) e.object e.symbol.definition all.0.0 all.0.1) (shown_known starts es all.1)

-- ---- the linker's names

linkers_known : (os : List Object) (bounds : Ground) (p : Placement) → IsPlacement os bounds p → AllByRecursion IsGlobal (linker_symbols (regions_of (layout_of p)))
linkers_known os bounds p placed =
    let (a, b, c, d, e, f, g) = placed.laid.ordered in
    let low : p.bss.end ≤ highest = le_trans placed.laid.below (le_trans placed.free (free_low bounds.text)) in
    let text : p.text.end < 2 ^ 64 = omega (arith, b, c, d, e, f, g, low) in
    let zeros : p.bss.start < 2 ^ 64 = omega (arith, g, low) in
    let variables : p.data.end < 2 ^ 64 = omega (arith, f, g, low) in
    let end : p.bss.end < 2 ^ 64 = omega (arith, low) in
    let pointer : p.data.start + 2048 < 2 ^ 64 = omega (arith, e, f, g, low) in
    ((refl, text), ((refl, zeros), ((refl, variables), ((refl, end), ((refl, pointer), tt)))))

pub globals_known : (objects : List ShortObject) (bounds : Ground) (p : Placement) → IsPlacement (map short_object_of objects) bounds p
    → AllByRecursion IsGlobal (shown_globals (map short_object_of objects) (layout_of p))
globals_known objects bounds p placed =
    let os = map short_object_of objects in
    each_append IsGlobal (globals_of (starts_of p) os) (shown_linker_symbols os (regions_of (layout_of p)))
    (shown_known (starts_of p) (chosen_exports os) (each_filter IsShowable (is_chosen os) (exports_where is_shared os) (showable_from 1 os (can_show objects))))
    (each_filter IsGlobal (λ g. not (is_some (chosen os g.name))) (linker_symbols (regions_of (layout_of p))) (linkers_known os bounds p placed))
