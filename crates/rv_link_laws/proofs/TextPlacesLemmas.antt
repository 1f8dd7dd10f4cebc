-- The place of a symbol is one that a symbol of its object names.

use Rattle.std.proofs.Common.{◌≡◌, ℕ, suc, ◌+◌, ◌-◌, ◌<◌, ◌≤◌, ◌⊎◌, inl, inr, Bool, true, false, ◌&&◌, nat_lt, List, [], ◌∷◌, Option, Some, None, slice_index_or, refl, sym, ap, ◌∙◌, arith}
use Rattle.std.specs.Prelude.{◌==◌, if◌then◌else◌, option_and_then, bytes_eq}
use Rattle.std.specs.List.{AllByRecursion, list_any, slice_get}
use Rattle.std.proofs.lemmas.Bool.{eqb-true, eq-eqb, lt-ltb, and_from, cases_lt}
use Rattle.rv_object_laws.specs.declared.symbol.Binding.{Binding}
use Rattle.rv_object_laws.specs.declared.symbol.Definition.{Definition}
use Rattle.rv_object_laws.specs.declared.symbol.Definition.TheVariants as definitions
use Rattle.rv_object_laws.specs.Object.{Symbol, Object, Relocation}
use Rattle.rv_link_laws.specs.Inputs.{InputSection}
use Rattle.rv_object_laws.specs.Bindings.{is_global, is_weak}
use Rattle.rv_link_laws.specs.Names.{is_sure, is_export, Export, exports_in, exports_from, exports_where, candidates, chosen, Place, place_in, shared_place, symbol_place, no_object, object_at}
use Rattle.rv_link_laws.specs.CallSites.{is_inside, is_entered, target_place}
use Rattle.std.proofs.lemmas.Map.Keys.{any_passes_from_place}
use Rattle.rv_list_laws.proofs.EachLemmas.{each_append}
use Rattle.rv_list_laws.proofs.FindLemmas.{each_found}
use Rattle.rv_list_laws.proofs.TestsLemmas.{any_weaker}

-- a definition names a place of a section
abbrev pub names_at : (index offset : ℕ) → Definition → Bool
names_at index offset (definitions.InSection section at) = (section == index) && (at == offset)
names_at index offset _ = false

abbrev pub is_named : Object → Place → Bool
is_named o p = list_any (λ s. names_at p.section p.offset s.definition) o.symbols

pub record IsNamed (os : List Object) (p : Place) : Type 0 where
  pub counted : 1 ≤ p.file
  pub named : is_named (object_at os p.file) p ≡ true

-- ---- places of definitions

-- a definition in a file that has this place names it
pub record Stands (file : ℕ) (d : Definition) (p : Place) : Type 0 where
  pub file_is : file ≡ p.file
  pub names : names_at p.section p.offset d ≡ true

stands : (file : ℕ) (d : Definition) (p : Place) → place_in file d ≡ Some p → Stands file d p
stands file (definitions.InSection section offset) p h =
    let place : Place = record { file = file; section = section; offset = offset } in
    let same : place ≡ p = let t : ◌≡◌ {A = Option Place} (Some place) (Some p) = h in cc in
    record {
      file_is = ap (λ (q : Place). q.file) same;
      names = and_from (section == p.section) (offset == p.offset) (eq-eqb section p.section (ap (λ (q : Place). q.section) same)) (eq-eqb offset p.offset (ap (λ (q : Place). q.offset) same));
    }
stands file definitions.Undefined p h = absurd (cc)
stands file (definitions.Absolute n) p h = absurd (cc)
stands file (definitions.Skipped n) p h = absurd (cc)

-- a definition for all files is a symbol of its object
record IsExport (os : List Object) (e : Export) : Type 0 where
  counted : 1 ≤ e.file
  object : object_at os e.file ≡ e.object
  symbol : slice_get e.object.symbols e.index ≡ Some e.symbol

exports_are_in : (os : List Object) (test : Binding → Bool) (file : ℕ) (o : Object) → 1 ≤ file → object_at os file ≡ o → (index : ℕ) (ss : List Symbol) → ((n : ℕ) → slice_get o.symbols (index + n) ≡ slice_get ss n)
    → AllByRecursion (IsExport os) (exports_in test file o index ss)
exports_are_in os test file o some at index [] each = tt
exports_are_in os test file o some at index (s ∷ ss) each = by (is_export test s) (exports_are_in os test file o some at (suc index) ss later)
  where
    it : Export
    it = record { file = file; object = o; index = index; symbol = s }

    rest : List Export
    rest = exports_in test file o (suc index) ss

    later : (n : ℕ) → slice_get o.symbols (suc index + n) ≡ slice_get ss n
    later n = ap (slice_get o.symbols) (let same : suc index + n ≡ index + suc n = omega arith in same) ∙ each (suc n)

    here : slice_get o.symbols index ≡ Some s
    here = ap (slice_get o.symbols) (let same : index ≡ index + 0 = omega arith in same) ∙ each 0

    by : (b : Bool) → AllByRecursion (IsExport os) rest → AllByRecursion (IsExport os) (if b then it ∷ rest else rest)
    by true all = (record { counted = some; object = at; symbol = here }, all)
    by false all = all

exports_are : (whole : List Object) (test : Binding → Bool) (file : ℕ) (os : List Object) → 1 ≤ file → ((n : ℕ) → object_at whole (file + n) ≡ slice_index_or os n no_object) → AllByRecursion (IsExport whole) (exports_from test file os)
exports_are whole test file [] some each = tt
exports_are whole test file (o ∷ os) some each =
    each_append (IsExport whole) (exports_in test file o 0 o.symbols) (exports_from test (suc file) os) (exports_are_in whole test file o some here 0 o.symbols (λ n. ap (slice_get o.symbols) (let same : 0 + n ≡ n = omega arith in same)))
    (exports_are whole test (suc file) os (omega (arith, some)) later)
  where
    here : object_at whole file ≡ o
    here = ap (object_at whole) (let same : file ≡ file + 0 = omega arith in same) ∙ each 0

    later : (n : ℕ) → object_at whole (suc file + n) ≡ slice_index_or os n no_object
    later n = ap (object_at whole) (let same : suc file + n ≡ file + suc n = omega arith in same) ∙ each (suc n)

candidates_are : (os : List Object) → AllByRecursion (IsExport os) (candidates os)
candidates_are os = each_append (IsExport os) (exports_where is_global os) (exports_where is_weak os) (exports_are os is_global 1 os (omega arith) each) (exports_are os is_weak 1 os (omega arith) each)
  where
    each : (n : ℕ) → object_at os (1 + n) ≡ slice_index_or os n no_object
    each n = ap (λ m. slice_index_or os m no_object) (let same : 1 + n - 1 ≡ n = omega arith in same)

-- of what a name means
shared_named : (os : List Object) (name : List ℕ) (p : Place) → shared_place os name ≡ Some p → IsNamed os p
shared_named os name p h = by (chosen os name) refl h
  where
    named_by : (e : Export) → IsExport os e → place_in e.file e.symbol.definition ≡ Some p → IsNamed os p
    named_by e it is =
        let at = stands e.file e.symbol.definition p is in
        let same = at.file_is in
        let some = it.counted in
        record {
          counted = omega (arith, some, same);
          named = ap (λ x. is_named x p) (ap (object_at os) (sym at.file_is) ∙ it.object) ∙ any_passes_from_place (λ (x : Symbol). names_at p.section p.offset x.definition) e.object.symbols e.index e.symbol it.symbol at.names;
        }

    by : (c : Option Export) → chosen os name ≡ c → option_and_then (λ e. place_in e.file e.symbol.definition) c ≡ Some p → IsNamed os p
    by None found is = absurd (cc)
    by (Some e) found is = named_by e (each_found (IsExport os) (λ x. bytes_eq x.symbol.name name) (candidates os) e (candidates_are os) found) is

pub symbol_named : (os : List Object) (file : ℕ) (o : Object) (n : ℕ) (s : Symbol) (p : Place) → 1 ≤ file → object_at os file ≡ o → slice_get o.symbols n ≡ Some s → symbol_place os file s ≡ Some p → IsNamed os p
symbol_named os file o n s p some at got h = by (is_sure s) h
  where
    by : (b : Bool) → (if b then place_in file s.definition else shared_place os s.name) ≡ Some p → IsNamed os p
    by true is =
        let it = stands file s.definition p is in
        let same = it.file_is in
        record {
          counted = omega (arith, some, same);
          named = ap (λ x. is_named x p) (ap (object_at os) (sym it.file_is) ∙ at) ∙ any_passes_from_place (λ (x : Symbol). names_at p.section p.offset x.definition) o.symbols n s got it.names;
        }
    by false is = shared_named os s.name p is

-- so is the place of a relocation's symbol
pub target_named : (os : List Object) (i : InputSection) (r : Relocation) (p : Place) → 1 ≤ i.file → object_at os i.file ≡ i.object → target_place os i r ≡ Some p → IsNamed os p
target_named os i r p some at h = by r.symbol h
  where
    of_symbol : (n : ℕ) (o : Option Symbol) → slice_get i.object.symbols n ≡ o → option_and_then (symbol_place os i.file) o ≡ Some p → IsNamed os p
    of_symbol n None got is = absurd (cc)
    of_symbol n (Some s) got is = symbol_named os i.file i.object n s p some at got is

    by : (o : Option ℕ) → option_and_then (λ n. option_and_then (symbol_place os i.file) (slice_get i.object.symbols n)) o ≡ Some p → IsNamed os p
    by None is = absurd (cc)
    by (Some n) is = of_symbol n (slice_get i.object.symbols n) refl is

-- ---- and no named place is strictly inside a call

inside : (index place offset : ℕ) (d : Definition) → place < offset → offset < place + 8 → names_at index offset d ≡ true → is_inside index place d ≡ true
inside index place offset (definitions.InSection section at) low high h =
    let both = parts (section == index) (at == offset) h in
    let same = eqb-true at offset both.1 in
    and_from ((section == index) && nat_lt place at) (nat_lt at (place + 8)) (and_from (section == index) (nat_lt place at) both.0 (lt-ltb place at (omega (arith, same, low))))
    (lt-ltb at (place + 8) (omega (arith, same, high)))
  where
    parts : (a b : Bool) → (a && b) ≡ true → (a ≡ true) × (b ≡ true)
    parts true true e = (refl, refl)
    parts true false e = absurd (cc)
    parts false b e = absurd (cc)
inside index place offset definitions.Undefined low high h = absurd (cc)
inside index place offset (definitions.Absolute n) low high h = absurd (cc)
inside index place offset (definitions.Skipped n) low high h = absurd (cc)

pub not_inside : (o : Object) (p : Place) (place : ℕ) → is_named o p ≡ true → is_entered o p.section place ≡ false → (p.offset ≤ place) ⊎ (place + 8 ≤ p.offset)
not_inside o p place named entered = by (cases_lt place p.offset) (cases_lt p.offset (place + 8))
  where
    by : (place < p.offset) ⊎ (p.offset ≤ place) → (p.offset < place + 8) ⊎ (place + 8 ≤ p.offset) → (p.offset ≤ place) ⊎ (place + 8 ≤ p.offset)
    by (inr e) g = inl e
    by (inl e) (inr g) = inr g
    by (inl e) (inl g) =
        let there = any_weaker (λ (s : Symbol). names_at p.section p.offset s.definition) (λ (s : Symbol). is_inside p.section place s.definition) o.symbols (λ s h. inside p.section place p.offset s.definition e g h) named in
        absurd (let clash : true ≡ false = sym there ∙ entered in cc)
