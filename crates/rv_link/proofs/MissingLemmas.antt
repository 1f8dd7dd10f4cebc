-- Where no run can begin, collection leaves no reference, and so no name without a meaning.

use Rattle.std.proofs.Common.{◌≡◌, inl, ℕ, zero, suc, ◌%◌, Bool, true, false, List, [], ◌∷◌, ◌++◌, length, map, refl, sym, ap, subst, ◌∙◌, Some, None}
use Rattle.std.proofs.lemmas.List.{length-map}
use Rattle.std.specs.Prelude.{◌&&◌, ◌==◌, bytes_eq, codes, if◌then◌else◌}
use Rattle.std.specs.Global.{Vec}
use Rattle.std.specs.List.{AllByRecursion, find, slice_get}
use Rattle.std.specs.Option.{option_or}
use Rattle.rv_list_laws.proofs.EachLemmas.{each_append}
use Rattle.rv_map_laws.specs.Globals.{AreDistinct}
use Rattle.rv_map_laws.specs.Regions.{is_text}
use Rattle.rv_map_laws.specs.declared.map.SectionId.{SectionId}
use Rattle.rv_object_types.specs.declared.object.Object.{Object as DeclaredObject}
use Rattle.rv_object_laws.specs.declared.symbol.Binding.{Binding}
use Rattle.rv_object_laws.specs.declared.symbol.Definition.{Definition}
use Rattle.rv_object_laws.specs.declared.symbol.Definition.TheVariants as definitions
use Rattle.rv_object_laws.specs.Bindings.{is_global, is_weak}
use Rattle.rv_object_laws.specs.Object.{Section, Symbol, Object}
use Rattle.rv_object_types.specs.View.{object_of}
use Rattle.rv_link_laws.specs.declared.bounds.Ground.{Ground}
use Rattle.rv_link_laws.specs.Collects.{entry_place, Collects}
use Rattle.rv_link_laws.specs.Inputs.{InputSection, goes_to_text, inputs_from, inputs_of}
use Rattle.rv_link_laws.specs.IsLinkOf.{is_loaded}
use Rattle.rv_link_laws.specs.Names.{Export, exports_in, exports_from, exports_where, candidates, is_export, global_names, is_in_text, can_begin}
use Rattle.rv_link_laws.specs.Shortened.{Sizes, shortened_text, shortened_section, shortened_sections, shortened_from, Relaxes}
use Rattle.rv_link_laws.specs.Without.{without}
use Rattle.rv_link_laws.specs.Refusals.{HasNoProgram}
use Rattle.rv_link_laws.proofs.DanglingLemmas.{nothing_left}
use Rattle.rv_link_laws.specs.Entry.{is_entry, has_entry}
use Rattle.rv_link_laws.specs.Undefined.{undefined_name, first_some, undefined_in, first_undefined}
use Rattle.rv_names.proofs.AlikeLemmas.{same_names}
use Rattle.rv_fault.specs.declared.link_fault.LinkFault.TheVariants.{Undefined, EntryMissing}
use Rattle.rv_link_laws.specs.TextStart.{AreWithin}
use Rattle.rv_link.proofs.LeftLemmas.{some_leaves}

-- ---- objects of which nothing has an address

abbrev pub IsUnloaded : Section → Type 0
IsUnloaded s = s.loaded ≡ false

abbrev pub AreUnloaded : List Object → Type 0
AreUnloaded os = AllByRecursion (λ o. AllByRecursion IsUnloaded o.sections) os

parts_nil : (xs ys : List InputSection) → xs ++ ys ≡ [] → (xs ≡ []) × (ys ≡ [])
parts_nil [] ys e = (refl, e)
parts_nil (x ∷ xs) ys e = absurd (cc)

unloaded_in : (file : ℕ) (o : Object) (index : ℕ) (ss : List Section) → inputs_from is_loaded file o index ss ≡ [] → AllByRecursion IsUnloaded ss
unloaded_in file o index [] e = tt
unloaded_in file o index (s ∷ ss) e = by s.loaded refl (unloaded_in file o (suc index) ss) e
  where
    it : InputSection
    it = record { file = file; object = o; index = index; section = s }

    rest : List InputSection
    rest = inputs_from is_loaded file o (suc index) ss

    by : (b : Bool) → s.loaded ≡ b → (rest ≡ [] → AllByRecursion IsUnloaded ss) → (if b then it ∷ rest else rest) ≡ [] → (s.loaded ≡ false) × AllByRecursion IsUnloaded ss
    by true f more none = absurd (cc)
    by false f more none = (f, more none)

unloaded_of : (file : ℕ) (os : List Object) → inputs_of is_loaded file os ≡ [] → AreUnloaded os
unloaded_of file [] e = tt
unloaded_of file (o ∷ os) e =
    let both = parts_nil (inputs_from is_loaded file o 0 o.sections) (inputs_of is_loaded (suc file) os) e in
    (unloaded_in file o 0 o.sections both.0, unloaded_of (suc file) os both.1)

-- relaxation gives none
short_section : (sizes : Sizes) (s : Section) → IsUnloaded s → IsUnloaded (shortened_section sizes s)
short_section sizes s e = by (goes_to_text s)
  where
    by : (b : Bool) → IsUnloaded (if b then shortened_text sizes s else s)
    by true = e
    by false = e

short_in : (sizes : ℕ → Sizes) (index : ℕ) (ss : List Section) → AllByRecursion IsUnloaded ss → AllByRecursion IsUnloaded (shortened_sections sizes index ss)
short_in sizes index [] h = tt
short_in sizes index (s ∷ ss) h = (short_section (sizes index) s h.0, short_in sizes (suc index) ss h.1)

short_from : (sizes : ℕ → ℕ → Sizes) (file : ℕ) (os : List Object) → AreUnloaded os → AreUnloaded (shortened_from sizes file os)
short_from sizes file [] h = tt
short_from sizes file (o ∷ os) h = (short_in (sizes file) 0 o.sections h.0, short_from sizes (suc file) os h.1)

unloaded_left : (relax : Bool) (os left : List Object) → Relaxes relax os left → AreUnloaded os → AreUnloaded left
unloaded_left false os left e h = subst AreUnloaded (sym e) h
unloaded_left true os left (kept, greatest, e) h = subst AreUnloaded (sym e) (short_from _ 1 os h)

-- ---- they refer to nothing

none_in : (os : List Object) (o : Object) (ss : List Section) → AllByRecursion IsUnloaded ss → first_some (undefined_in os o) ss ≡ None
none_in os o [] h = refl
none_in os o (s ∷ ss) h =
    ap (λ b. option_or (if b then first_some (λ r. undefined_name os o r.symbol) s.relocations else None) (first_some (undefined_in os o) ss)) h.0 ∙ none_in os o ss h.1

none_of : (all os : List Object) → AreUnloaded os → first_some (λ o. first_some (undefined_in all o) o.sections) os ≡ None
none_of all [] h = refl
none_of all (o ∷ os) h =
    ap (λ x. option_or x (first_some (λ o. first_some (undefined_in all o) o.sections) os)) (none_in all o o.sections h.0) ∙ none_of all os h.1

-- ---- no run begins in them

abbrev pub IsOfUnloaded : Export → Type 0
IsOfUnloaded e = AllByRecursion IsUnloaded e.object.sections

exports_unloaded_in : (test : Binding → Bool) (file : ℕ) (o : Object) (index : ℕ) (ss : List Symbol) → AllByRecursion IsUnloaded o.sections → AllByRecursion IsOfUnloaded (exports_in test file o index ss)
exports_unloaded_in test file o index [] h = tt
exports_unloaded_in test file o index (s ∷ ss) h = by (is_export test s) (exports_unloaded_in test file o (suc index) ss h)
  where
    it : Export
    it = record { file = file; object = o; index = index; symbol = s }

    rest : List Export
    rest = exports_in test file o (suc index) ss

    by : (b : Bool) → AllByRecursion IsOfUnloaded rest → AllByRecursion IsOfUnloaded (if b then it ∷ rest else rest)
    by true more = (h, more)
    by false more = more

exports_unloaded : (test : Binding → Bool) (file : ℕ) (os : List Object) → AreUnloaded os → AllByRecursion IsOfUnloaded (exports_from test file os)
exports_unloaded test file [] h = tt
exports_unloaded test file (o ∷ os) h =
    each_append IsOfUnloaded (exports_in test file o 0 o.symbols) (exports_from test (suc file) os) (exports_unloaded_in test file o 0 o.symbols h.0) (exports_unloaded test (suc file) os h.1)

no_text : (ss : List Section) (index : ℕ) → AllByRecursion IsUnloaded ss → is_in_text (slice_get ss index) ≡ false
no_text [] index h = refl
no_text (s ∷ ss) zero h = ap (λ b. is_text b s.executable) h.0
no_text (s ∷ ss) (suc index) h = no_text ss index h.1

no_run : (o : Object) (d : Definition) → AllByRecursion IsUnloaded o.sections → can_begin o d ≡ false
no_run o definitions.Undefined h = refl
no_run o (definitions.Absolute n) h = refl
no_run o (definitions.Skipped n) h = refl
no_run o (definitions.InSection section offset) h = ap (λ b. b && (offset % 2 == 0)) (no_text o.sections section h)

no_entry_in : (test : Export → Bool) (es : List Export) → AllByRecursion IsOfUnloaded es → is_entry (find test es) ≡ false
no_entry_in test [] h = refl
no_entry_in test (e ∷ es) h = by (test e) (no_entry_in test es h.1)
  where
    by : (b : Bool) → is_entry (find test es) ≡ false → is_entry (if b then Some e else find test es) ≡ false
    by true more = no_run e.object e.symbol.definition h.0
    by false more = more

no_entry : (os : List Object) → AreUnloaded os → has_entry os ≡ false
no_entry os h =
    no_entry_in (λ e. bytes_eq e.symbol.name (codes "_start")) (candidates os)
    (each_append IsOfUnloaded (exports_where is_global os) (exports_where is_weak os) (exports_unloaded is_global 1 os h) (exports_unloaded is_weak 1 os h))

-- ---- without an entry

missing_unloaded : (os : List Object) (drops : List SectionId) → Collects true os drops → entry_place os ≡ None → AreUnloaded (without drops os)
missing_unloaded os drops collected none = unloaded_of 1 (without drops os) (nothing_left os drops collected none)

-- what collection leaves refers to no name
pub missing_undefined : (os : List Object) (drops : List SectionId) → Collects true os drops → entry_place os ≡ None → first_undefined (without drops os) ≡ None
missing_undefined os drops collected none = none_of (without drops os) (without drops os) (missing_unloaded os drops collected none)

-- so no link is refused for one
pub missing_first : (os : List Object) (bounds : Ground) (relax : Bool) (name : Vec ℕ) → entry_place os ≡ None → HasNoProgram os bounds relax true (Undefined name) → ⊥
missing_first os bounds relax name none h =
    let left = h.left in
    let unloaded : AreUnloaded left = unloaded_left relax (without h.drops os) left h.leaves.relaxed (missing_unloaded os h.drops h.leaves.collected none) in
    let found : first_undefined left ≡ Some name.items = h.unlinked.1.1 in
    let no : first_undefined left ≡ None = none_of left left unloaded in
    absurd (cc)

-- it is refused for the entry
pub missing_told : (ds : List DeclaredObject) (bounds : Ground) (relax : Bool) → AreWithin (length ds) bounds → AreDistinct (global_names (map object_of ds)) → entry_place (map object_of ds) ≡ None
    → HasNoProgram (map object_of ds) bounds relax true EntryMissing
missing_told ds bounds relax within once none =
    let os : List Object = map object_of ds in
    let some = some_leaves relax true ds in
    let left : List Object = some.left in
    let unloaded : AreUnloaded left = unloaded_left relax (without some.drops os) left some.leaves.relaxed (missing_unloaded os some.drops some.leaves.collected none) in
    let few : AreWithin (length left) bounds = subst (λ n. AreWithin n bounds) (sym (some.alike.many ∙ length-map ds object_of)) within in
    let still : AreDistinct (global_names left) = subst AreDistinct (sym (same_names os left some.alike.seen)) once in
    record {
      drops = some.drops;
      left = left;
      leaves = some.leaves;
      unlinked = ((few, (still, none_of left left unloaded)), inl (no_entry left unloaded));
    }
