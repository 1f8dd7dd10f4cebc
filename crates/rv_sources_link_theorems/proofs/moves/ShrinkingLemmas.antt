-- An object with the linker's moves made: its places have moved, its paddings are the least, and nothing moves any more.

use Rattle.std.proofs.Common.{◌≡◌, ℕ, zero, suc, ◌+◌, ◌-◌, ◌%◌, ◌≤◌, Bool, true, false, List, [], ◌∷◌, ◌++◌, map, take, drop, refl, sym, ap, ◌∙◌, subst, arith, ℤ, pos, Option, Some, None, option_map}
use Rattle.std.proofs.lemmas.Bool.{and_parts}
use Rattle.std.proofs.lemmas.List.{map-append}
use Rattle.std.specs.Prelude.{⊤, ◌^◌, not, ◌&&◌, ◌==◌, IsTrue, is_some, unwrap_or, option_and_then, filter, if◌then◌else◌, bytes_eq, slice_index_or}
use Rattle.std.specs.List.{AllByRecursion, find, slice_get}
use Rattle.rv_list_laws.proofs.FindLemmas.{each_find}
use Rattle.rv_list_laws.proofs.EachLemmas.{each_append}
use Rattle.std.proofs.lemmas.Option.{slice_get-map}
use Rattle.rv_isa.specs.Kinds.{is_low_part}
use Rattle.rv_isa.specs.declared.kind.Kind.{Kind}
use Rattle.rv_isa.specs.declared.kind.Kind.TheVariants as kinds
use Rattle.rv_reloc_laws.specs.Values.{value_of}
use Rattle.rv_reloc_laws.specs.Ranges.{Takes}
use Rattle.rv_object_laws.specs.declared.symbol.Binding.{Binding}
use Rattle.rv_object_laws.specs.declared.symbol.Definition.{Definition}
use Rattle.rv_object_laws.specs.declared.symbol.Definition.TheVariants.{Undefined, Absolute, InSection, Skipped}
use Rattle.rv_object_laws.specs.declared.row.Row.{Row}
use Rattle.rv_object_laws.specs.Object.{Contents, Progbits, Note, Nobits, Relocation, Section, Symbol, Object}
use Rattle.rv_object_laws.specs.Valid.{is_align}
use Rattle.rv_link_laws.specs.Moves.{Move, alignments_of, by_place, has_padding, plan, moves, new_offset, kept, lost}
use Rattle.rv_link_laws.specs.Inputs.{Starts, InputSection, start_of}
use Rattle.rv_object_laws.specs.Bindings.{is_shared, is_global, is_weak}
use Rattle.rv_link_laws.specs.Names.{Export, Outer, Place, is_export, is_sure_by, is_sure, exports_in, exports_from, exports_where, candidates, chosen, defined_address, offset_address, symbol_address, is_defined, place_in, shared_place, symbol_place, no_object, object_at}
use Rattle.rv_link_laws.specs.Values.{target, own_value, is_high, high_at, value_in, value_at, paired, value, IsRelocated, patched_at, applied, initial_bytes, linked_bytes}
use Rattle.rv_link_laws.specs.IsLinkOf.{moves_at}
use Rattle.rv_sources_link_theorems.proofs.fields.PatchesLemmas.{take_drop}
use Rattle.rv_sources_link_theorems.proofs.names.ExportedLemmas.{is_exported, exported}
use Rattle.rv_sources_link_theorems.proofs.names.KnownLemmas.{still}

-- ---- what it is

abbrev pub shrunk_relocation : List Move → Relocation → Relocation
shrunk_relocation ms r = record { place = new_offset ms r.place; kind = r.kind; symbol = r.symbol; addend = r.addend }

abbrev pub shrunk_relocations : List Move → List Relocation → List Relocation
shrunk_relocations ms rs = map (shrunk_relocation ms) (filter (λ r. not (has_padding r)) rs)

abbrev pub shrunk_contents : List Move → Contents → Contents
shrunk_contents ms (Progbits bytes) = Progbits (kept 0 ms bytes)
shrunk_contents ms (Note bytes) = Note (kept 0 ms bytes)
shrunk_contents ms (Nobits size) = Nobits (new_offset ms size)

abbrev pub shrunk_section : ℕ → Section → Section
shrunk_section start s = record {
  name = s.name;
  loaded = s.loaded;
  executable = s.executable;
  writable = s.writable;
  contents = shrunk_contents (moves start s) s.contents;
  alignment = s.alignment;
  relocations = shrunk_relocations (moves start s) s.relocations;
}

abbrev pub sections_from : (ℕ → ℕ) → ℕ → List Section → List Section
sections_from f index [] = []
sections_from f index (s ∷ ss) = shrunk_section (f index) s ∷ sections_from f (suc index) ss

abbrev pub moves_in : (ℕ → ℕ) → Object → ℕ → List Move
moves_in f o section = moves_at (f section) (slice_get o.sections section)

abbrev pub shrunk_definition : (ℕ → ℕ) → Object → Definition → Definition
shrunk_definition f o Undefined = Undefined
shrunk_definition f o (Absolute n) = Absolute n
shrunk_definition f o (InSection section offset) = InSection section (new_offset (moves_in f o section) offset)
shrunk_definition f o (Skipped n) = Skipped n

abbrev pub shrunk_symbol : (ℕ → ℕ) → Object → Symbol → Symbol
shrunk_symbol f o x = record { name = x.name; binding = x.binding; definition = shrunk_definition f o x.definition }

-- addresses for which only names and bindings count
abbrev pub IsBlind : Outer → Type 0
IsBlind g = (f : ℕ → ℕ) (o : Object) (x : Symbol) → g (shrunk_symbol f o x) ≡ g x

abbrev pub shrunk_row : (ℕ → ℕ) → Object → Row → Row
shrunk_row f o r = record {
  line = r.line;
  ordinal = r.ordinal;
  section = r.section;
  offset = new_offset (moves_in f o r.section) r.offset;
  bytes = new_offset (moves_in f o r.section) (r.offset + r.bytes) - new_offset (moves_in f o r.section) r.offset;
  instructions = r.instructions - lost (moves_in f o r.section) r.offset r.bytes;
}

abbrev pub shrunk_object : (ℕ → ℕ) → Object → Object
shrunk_object f o = record {
  sections = sections_from f 0 o.sections;
  symbols = map (shrunk_symbol f o) o.symbols;
  rows = map (shrunk_row f o) o.rows;
  rvc = o.rvc;
}

abbrev pub shrunk_objects : Starts → ℕ → List Object → List Object
shrunk_objects starts file [] = []
shrunk_objects starts file (o ∷ os) = shrunk_object (starts file) o ∷ shrunk_objects starts (suc file) os

abbrev pub shrunk_input : Starts → InputSection → InputSection
shrunk_input starts i = record {
  file = i.file;
  object = shrunk_object (starts i.file) i.object;
  index = i.index;
  section = shrunk_section (starts i.file i.index) i.section;
}

-- ---- nothing moves in it

filter_none : (ms : List Move) (rs : List Relocation) → filter has_padding (shrunk_relocations ms rs) ≡ []
filter_none ms [] = refl
filter_none ms (r ∷ rs) = go (has_padding r) refl (filter_none ms rs)
  where
    go : (b : Bool) → has_padding r ≡ b → filter has_padding (shrunk_relocations ms rs) ≡ []
        → filter has_padding (map (shrunk_relocation ms) (if not b then r ∷ filter (λ r. not (has_padding r)) rs else filter (λ r. not (has_padding r)) rs)) ≡ []
    go true e ih = ih
    go false e ih = ap (λ b. if b then shrunk_relocation ms r ∷ filter has_padding (shrunk_relocations ms rs) else filter has_padding (shrunk_relocations ms rs)) e ∙ ih

pub none_left : (start : ℕ) (s : Section) → alignments_of (shrunk_section start s) ≡ []
none_left start s = go (s.loaded && s.executable) (ap by_place (filter_none (moves start s) s.relocations))
  where
    go : (b : Bool) → by_place (filter has_padding (shrunk_relocations (moves start s) s.relocations)) ≡ []
        → (if b then by_place (filter has_padding (shrunk_relocations (moves start s) s.relocations)) else []) ≡ []
    go true e = e
    go false e = refl

pub stays : (start : ℕ) (s : Section) (n : ℕ) → new_offset (moves start (shrunk_section start s)) n ≡ n
stays start s n = still (shrunk_section start s) (none_left start s) start n

pub moves_none : (start : ℕ) (x : Option Section) → moves_at start (option_map (shrunk_section start) x) ≡ []
moves_none start None = refl
moves_none start (Some s) = ap (plan start 0) (none_left start s)

section_at : (f : ℕ → ℕ) (k : ℕ) (xs : List Section) (j : ℕ) → slice_get (sections_from f k xs) j ≡ option_map (shrunk_section (f (k + j))) (slice_get xs j)
section_at f k [] j = refl
section_at f k (x ∷ xs) zero = ap (λ n. Some (shrunk_section (f n) x)) (let e : k ≡ k + 0 = omega arith in e)
section_at f k (x ∷ xs) (suc j) =
    section_at f (suc k) xs j ∙ ap (λ n. option_map (shrunk_section (f n)) (slice_get xs j)) (let e : suc k + j ≡ k + suc j = omega arith in e)

-- ---- a file

module _ (f : ℕ → ℕ) (o : Object) where
  abbrev o' : Object
  o' = shrunk_object f o

  pub section_is : (j : ℕ) → slice_get o'.sections j ≡ option_map (shrunk_section (f j)) (slice_get o.sections j)
  section_is j = section_at f 0 o.sections j ∙ ap (λ n. option_map (shrunk_section (f n)) (slice_get o.sections j)) (let e : 0 + j ≡ j = omega arith in e)

  address_by : (start offset : ℕ) (x : Option Section)
      → offset_address start (new_offset (moves_at start x) offset) (option_map (shrunk_section start) x) ≡ offset_address start offset x
  address_by start offset None = refl
  address_by start offset (Some s) = ap (λ n. if s.loaded then Some ((start + n) % 2 ^ 64) else None) (stays start s (new_offset (moves start s) offset))

  pub defined_same : (d : Definition) → defined_address f o' (shrunk_definition f o d) ≡ defined_address f o d
  defined_same Undefined = refl
  defined_same (Absolute n) = refl
  defined_same (InSection section offset) =
      ap (offset_address (f section) (new_offset (moves_in f o section) offset)) (section_is section) ∙ address_by (f section) offset (slice_get o.sections section)
  defined_same (Skipped n) = refl

  sure_still : (b : Binding) (d : Definition) → is_sure_by b (shrunk_definition f o d) ≡ is_sure_by b d
  sure_still b Undefined = refl
  sure_still b (Absolute n) = refl
  sure_still b (InSection section offset) = refl
  sure_still b (Skipped n) = refl

  module _ (g : Outer) (blind : IsBlind g) where
    symbol_same : (x : Symbol) → symbol_address g f o' (shrunk_symbol f o x) ≡ symbol_address g f o x
    symbol_same x =
        ap (λ b. if b then defined_address f o' (shrunk_definition f o x.definition) else g (shrunk_symbol f o x)) (sure_still x.binding x.definition)
        ∙ ap (λ a. if is_sure x then a else g (shrunk_symbol f o x)) (defined_same x.definition)
        ∙ ap (λ a. if is_sure x then defined_address f o x.definition else a) (blind f o x)

    pub target_same : (symbol : Option ℕ) → target g f o' symbol ≡ target g f o symbol
    target_same None = refl
    target_same (Some index) = ap (option_and_then (symbol_address g f o')) (slice_get-map (shrunk_symbol f o) o.symbols index) ∙ go (slice_get o.symbols index)
      where
        go : (x : Option Symbol) → option_and_then (symbol_address g f o') (option_map (shrunk_symbol f o) x) ≡ option_and_then (symbol_address g f o) x
        go None = refl
        go (Some x) = symbol_same x

    pub own_same : (start : ℕ) (s : Section) (r : Relocation)
        → own_value g f o' start (shrunk_section start s) (shrunk_relocation (moves start s) r) ≡ own_value g f o start s r
    own_same start s r =
        ap (λ t. value_of r.kind (unwrap_or t 0) r.addend (start + new_offset (moves start (shrunk_section start s)) (new_offset (moves start s) r.place))) (target_same r.symbol)
        ∙ ap (λ n. value_of r.kind (unwrap_or (target g f o r.symbol) 0) r.addend (start + n)) (stays start s (new_offset (moves start s) r.place))

  -- ---- its symbols

  defined_still : (d : Definition) → is_defined (shrunk_definition f o d) ≡ is_defined d
  defined_still Undefined = refl
  defined_still (Absolute n) = refl
  defined_still (InSection section offset) = refl
  defined_still (Skipped n) = refl

  exported_by : (xs : List Symbol)
      → filter is_exported (map (shrunk_symbol f o) xs) ≡ map (shrunk_symbol f o) (filter is_exported xs)
  exported_by [] = refl
  exported_by (x ∷ xs) =
      ap (λ b. if is_shared x.binding && b then shrunk_symbol f o x ∷ rest else rest) (defined_still x.definition) ∙ go (is_exported x) (exported_by xs)
    where
      rest : List Symbol
      rest = filter is_exported (map (shrunk_symbol f o) xs)

      go : (b : Bool) → rest ≡ map (shrunk_symbol f o) (filter is_exported xs)
          → (if b then shrunk_symbol f o x ∷ rest else rest) ≡ map (shrunk_symbol f o) (if b then x ∷ filter is_exported xs else filter is_exported xs)
      go true ih = ap (λ (l : List Symbol). shrunk_symbol f o x ∷ l) ih
      go false ih = ih

  pub exported_same : exported o' ≡ map (shrunk_symbol f o) (exported o)
  exported_same = exported_by o.symbols

-- ---- definitions for all files

module _ (starts : Starts) where
  abbrev pub shrunk_export : Export → Export
  shrunk_export e = record {
    file = e.file;
    object = shrunk_object (starts e.file) e.object;
    index = e.index;
    symbol = shrunk_symbol (starts e.file) e.object e.symbol;
  }

  exports_by : (test : Binding → Bool) (file : ℕ) (o : Object) (index : ℕ) (xs : List Symbol)
      → exports_in test file (shrunk_object (starts file) o) index (map (shrunk_symbol (starts file) o) xs) ≡ map shrunk_export (exports_in test file o index xs)
  exports_by test file o index [] = refl
  exports_by test file o index (x ∷ xs) =
      ap (λ b. if test x.binding && b then shrunk_export own ∷ rest else rest) (defined_still (starts file) o x.definition)
      ∙ go (is_export test x) (exports_by test file o (suc index) xs)
    where
      own : Export
      own = record { file = file; object = o; index = index; symbol = x }

      rest : List Export
      rest = exports_in test file (shrunk_object (starts file) o) (suc index) (map (shrunk_symbol (starts file) o) xs)

      go : (b : Bool) → rest ≡ map shrunk_export (exports_in test file o (suc index) xs)
          → (if b then shrunk_export own ∷ rest else rest) ≡ map shrunk_export (if b then own ∷ exports_in test file o (suc index) xs else exports_in test file o (suc index) xs)
      go true ih = ap (λ l. shrunk_export own ∷ l) ih
      go false ih = ih

  pub exports_same : (test : Binding → Bool) (file : ℕ) (us : List Object) → exports_from test file (shrunk_objects starts file us) ≡ map shrunk_export (exports_from test file us)
  exports_same test file [] = refl
  exports_same test file (o ∷ us) =
      ap (λ l. l ++ exports_from test (suc file) (shrunk_objects starts (suc file) us)) (exports_by test file o 0 o.symbols)
      ∙ ap (λ l. map shrunk_export (exports_in test file o 0 o.symbols) ++ l) (exports_same test (suc file) us)
      ∙ sym (map-append shrunk_export (exports_in test file o 0 o.symbols) (exports_from test (suc file) us))

  find_shrunk : (name : List ℕ) (es : List Export)
      → find (λ e. bytes_eq e.symbol.name name) (map shrunk_export es) ≡ option_map shrunk_export (find (λ e. bytes_eq e.symbol.name name) es)
  find_shrunk name [] = refl
  find_shrunk name (e ∷ es) = go (bytes_eq e.symbol.name name) (find_shrunk name es)
    where
      go : (b : Bool) → find (λ e. bytes_eq e.symbol.name name) (map shrunk_export es) ≡ option_map shrunk_export (find (λ e. bytes_eq e.symbol.name name) es)
          → (if b then Some (shrunk_export e) else find (λ e. bytes_eq e.symbol.name name) (map shrunk_export es))
          ≡ option_map shrunk_export (if b then Some e else find (λ e. bytes_eq e.symbol.name name) es)
      go true ih = refl
      go false ih = ih

  pub chosen_same : (os : List Object) (name : List ℕ) → chosen (shrunk_objects starts 1 os) name ≡ option_map shrunk_export (chosen os name)
  chosen_same os name =
      ap (find (λ e. bytes_eq e.symbol.name name))
      (ap (λ l. l ++ exports_where is_weak (shrunk_objects starts 1 os)) (exports_same is_global 1 os)
      ∙ ap (λ l. map shrunk_export (exports_where is_global os) ++ l) (exports_same is_weak 1 os)
      ∙ sym (map-append shrunk_export (exports_where is_global os) (exports_where is_weak os)))
      ∙ find_shrunk name (candidates os)

-- ---- high parts

not_high : (r : Relocation) → has_padding r ≡ true → is_high r.kind ≡ false
not_high r e = go r.kind (and_parts (is_align r.kind) _ e).0
  where
    go : (k : Kind) → is_align k ≡ true → is_high k ≡ false
    go kinds.Align e = refl
    go kinds.None e = absurd (cc)
    go _ e = absurd (cc)

high_same : (start : ℕ) (s : Section) (offset : ℕ) (rs : List Relocation)
    → high_at (moves start (shrunk_section start s)) (new_offset (moves start s) offset) (shrunk_relocations (moves start s) rs)
    ≡ option_map (shrunk_relocation (moves start s)) (high_at (moves start s) offset rs)
high_same start s offset [] = refl
high_same start s offset (r ∷ rs) = go (has_padding r) refl (high_same start s offset rs)
  where
    ms : List Move
    ms = moves start s

    ms' : List Move
    ms' = moves start (shrunk_section start s)

    rest : Option Relocation
    rest = high_at ms' (new_offset ms offset) (shrunk_relocations ms rs)

    test : (is_high r.kind && (new_offset ms' (new_offset ms r.place) == new_offset ms' (new_offset ms offset))) ≡ (is_high r.kind && (new_offset ms r.place == new_offset ms offset))
    test =
        ap (λ n. is_high r.kind && (n == new_offset ms' (new_offset ms offset))) (stays start s (new_offset ms r.place))
        ∙ ap (λ n. is_high r.kind && (new_offset ms r.place == n)) (stays start s (new_offset ms offset))

    either : (b : Bool) → rest ≡ option_map (shrunk_relocation ms) (high_at ms offset rs)
        → (if b then Some (shrunk_relocation ms r) else rest) ≡ option_map (shrunk_relocation ms) (if b then Some r else high_at ms offset rs)
    either true ih = refl
    either false ih = ih

    go : (b : Bool) → has_padding r ≡ b → rest ≡ option_map (shrunk_relocation ms) (high_at ms offset rs)
        → high_at ms' (new_offset ms offset) (map (shrunk_relocation ms) (if not b then r ∷ filter (λ r. not (has_padding r)) rs else filter (λ r. not (has_padding r)) rs))
        ≡ option_map (shrunk_relocation ms) (if is_high r.kind && (new_offset ms r.place == new_offset ms offset) then Some r else high_at ms offset rs)
    go true e ih = ih ∙ ap (λ b. option_map (shrunk_relocation ms) (if b && (new_offset ms r.place == new_offset ms offset) then Some r else high_at ms offset rs)) (sym (not_high r e))
    go false e ih =
        ap (λ b. if b then Some (shrunk_relocation ms r) else rest) test ∙ either (is_high r.kind && (new_offset ms r.place == new_offset ms offset)) ih

-- ---- bytes

unpatched : (k : Kind) (n : ℕ) (v : ℤ) (bytes : List ℕ) → is_align k ≡ true → patched_at n k v bytes ≡ bytes
unpatched kinds.Align n v bytes e = ap (λ l. take n bytes ++ l) (zero_drop (drop n bytes)) ∙ take_drop n bytes
  where
    zero_drop : (xs : List ℕ) → drop 0 xs ≡ xs
    zero_drop [] = refl
    zero_drop (x ∷ xs) = refl
unpatched kinds.None n v bytes e = absurd (cc)
unpatched _ n v bytes e = absurd (cc)

applied_same : (ms : List Move) (new : ℕ → ℕ) (worth worth' : Relocation → ℤ) → ((n : ℕ) → new n ≡ n) → ((r : Relocation) → worth' (shrunk_relocation ms r) ≡ worth r)
    → (rs : List Relocation) (bytes : List ℕ) → applied new worth' (shrunk_relocations ms rs) bytes ≡ applied (new_offset ms) worth rs bytes
applied_same ms new worth worth' same values [] bytes = refl
applied_same ms new worth worth' same values (r ∷ rs) bytes = go (has_padding r) refl (applied_same ms new worth worth' same values rs)
  where
    go : (b : Bool) → has_padding r ≡ b → ((l : List ℕ) → applied new worth' (shrunk_relocations ms rs) l ≡ applied (new_offset ms) worth rs l)
        → applied new worth' (map (shrunk_relocation ms) (if not b then r ∷ filter (λ r. not (has_padding r)) rs else filter (λ r. not (has_padding r)) rs)) bytes
        ≡ applied (new_offset ms) worth rs (patched_at (new_offset ms r.place) r.kind (worth r) bytes)
    go true e ih = ih bytes ∙ ap (applied (new_offset ms) worth rs) (sym (unpatched r.kind (new_offset ms r.place) (worth r) bytes (and_parts (is_align r.kind) _ e).0))
    go false e ih =
        ap (λ n. applied new worth' (shrunk_relocations ms rs) (patched_at n r.kind (worth' (shrunk_relocation ms r)) bytes)) (same (new_offset ms r.place))
        ∙ ap (λ v. applied new worth' (shrunk_relocations ms rs) (patched_at (new_offset ms r.place) r.kind v bytes)) (values r)
        ∙ ih (patched_at (new_offset ms r.place) r.kind (worth r) bytes)

-- ---- values

object_by : (starts : Starts) (k n : ℕ) (os : List Object) → slice_index_or (shrunk_objects starts k os) n no_object ≡ shrunk_object (starts (k + n)) (slice_index_or os n no_object)
object_by starts k n [] = refl
object_by starts k zero (o ∷ os) = ap (λ n. shrunk_object (starts n) o) (let e : k ≡ k + 0 = omega arith in e)
object_by starts k (suc n) (o ∷ os) =
    object_by starts (suc k) n os ∙ ap (λ m. shrunk_object (starts m) (slice_index_or os n no_object)) (let e : suc k + n ≡ k + suc n = omega arith in e)

-- the objects of the files from one on
abbrev pub AreAt : List Object → ℕ → List Object → Type 0
AreAt os file [] = ⊤
AreAt os file (u ∷ us) = (object_at os file ≡ u) × AreAt os (suc file) us

at_from : (os : List Object) (file : ℕ) (us : List Object) → ((i : ℕ) → slice_index_or os (file + i - 1) no_object ≡ slice_index_or us i no_object) → AreAt os file us
at_from os file [] h = tt
at_from os file (u ∷ us) h = (
  ap (λ n. slice_index_or os n no_object) (let e : file - 1 ≡ file + 0 - 1 = omega arith in e) ∙ h 0,
  at_from os (suc file) us (λ i. ap (λ n. slice_index_or os n no_object) (let e : suc file + i - 1 ≡ file + suc i - 1 = omega arith in e) ∙ h (suc i)),
)

pub all_at : (os : List Object) → AreAt os 1 os
all_at os = at_from os 1 os (λ i. ap (λ n. slice_index_or os n no_object) (let e : 1 + i - 1 ≡ i = omega arith in e))

-- a place in a file
abbrev OnFile : Option Place → Type 0
OnFile None = ⊤
OnFile (Some p) = 1 ≤ p.file

module _ (starts : Starts) (os : List Object) where
  abbrev pub os' : List Object
  os' = shrunk_objects starts 1 os

  object_is : (file : ℕ) → 1 ≤ file → object_at os' file ≡ shrunk_object (starts file) (object_at os file)
  object_is file h = object_by starts 1 (file - 1) os ∙ ap (λ n. shrunk_object (starts n) (object_at os file)) (let e : 1 + (file - 1) ≡ file = omega (arith, h) in e)

  abbrev shrunk_place : Place → Place
  shrunk_place p = record { file = p.file; section = p.section; offset = new_offset (moves_in (starts p.file) (object_at os p.file) p.section) p.offset }

  -- where a symbol stands
  placed_by : (file : ℕ) (o : Object) (d : Definition) → object_at os file ≡ o → place_in file (shrunk_definition (starts file) o d) ≡ option_map shrunk_place (place_in file d)
  placed_by file o Undefined e = refl
  placed_by file o (Absolute n) e = refl
  placed_by file o (InSection section offset) e =
      ap (λ (x : Object). Some (put file section (new_offset (moves_in (starts file) x section) offset))) (sym e)
    where
      put : ℕ → ℕ → ℕ → Place
      put file section offset = record { file = file; section = section; offset = offset }
  placed_by file o (Skipped n) e = refl

  on_file : (file : ℕ) (d : Definition) → 1 ≤ file → OnFile (place_in file d)
  on_file file Undefined h = tt
  on_file file (Absolute n) h = tt
  on_file file (InSection section offset) h = h
  on_file file (Skipped n) h = tt

  -- a definition of its file
  abbrev pub IsHere : Export → Type 0
  IsHere e = (1 ≤ e.file) × (object_at os e.file ≡ e.object)

  here_in : (test : Binding → Bool) (file : ℕ) (o : Object) (index : ℕ) (xs : List Symbol) → 1 ≤ file → object_at os file ≡ o → AllByRecursion IsHere (exports_in test file o index xs)
  here_in test file o index [] h e = tt
  here_in test file o index (x ∷ xs) h e = go (is_export test x) (here_in test file o (suc index) xs h e)
    where
      go : (b : Bool) → AllByRecursion IsHere (exports_in test file o (suc index) xs)
          → AllByRecursion IsHere (if b then record { file = file; object = o; index = index; symbol = x } ∷ exports_in test file o (suc index) xs else exports_in test file o (suc index) xs)
      go true ih = ((h, e), ih)
      go false ih = ih

  here_from : (test : Binding → Bool) (file : ℕ) (us : List Object) → 1 ≤ file → AreAt os file us → AllByRecursion IsHere (exports_from test file us)
  here_from test file [] h e = tt
  here_from test file (o ∷ us) h (e, es) =
      each_append IsHere (exports_in test file o 0 o.symbols) (exports_from test (suc file) us) (here_in test file o 0 o.symbols h e) (here_from test (suc file) us (omega arith) es)

  chosen_here : (name : List ℕ) (e : Export) → chosen os name ≡ Some e → IsHere e
  chosen_here name e found =
      each_find IsHere (λ e. bytes_eq e.symbol.name name) (candidates os)
      (each_append IsHere (exports_where is_global os) (exports_where is_weak os) (here_from is_global 1 os (omega arith) (all_at os)) (here_from is_weak 1 os (omega arith) (all_at os))) e found

  abbrev place_of : Option Export → Option Place
  place_of c = option_and_then (λ e. place_in e.file e.symbol.definition) c

  shared_by : (name : List ℕ) → shared_place os' name ≡ option_map shrunk_place (shared_place os name)
  shared_by name = ap place_of (chosen_same starts os name) ∙ go (chosen os name) (chosen_here name)
    where
      go : (c : Option Export) → ((e : Export) → c ≡ Some e → IsHere e) → place_of (option_map (shrunk_export starts) c) ≡ option_map shrunk_place (place_of c)
      go None h = refl
      go (Some e) h = placed_by e.file e.object e.symbol.definition (h e refl).1

  shared_on : (name : List ℕ) → OnFile (shared_place os name)
  shared_on name = go (chosen os name) (chosen_here name)
    where
      go : (c : Option Export) → ((e : Export) → c ≡ Some e → IsHere e) → OnFile (place_of c)
      go None h = tt
      go (Some e) h = on_file e.file e.symbol.definition (h e refl).0

  symbol_by_place : (file : ℕ) (o : Object) (x : Symbol) → object_at os file ≡ o → symbol_place os' file (shrunk_symbol (starts file) o x) ≡ option_map shrunk_place (symbol_place os file x)
  symbol_by_place file o x e =
      ap (λ b. if b then place_in file (shrunk_definition (starts file) o x.definition) else shared_place os' x.name) (sure_still (starts file) o x.binding x.definition) ∙ go (is_sure x)
    where
      go : (b : Bool) → (if b then place_in file (shrunk_definition (starts file) o x.definition) else shared_place os' x.name)
          ≡ option_map shrunk_place (if b then place_in file x.definition else shared_place os x.name)
      go true = placed_by file o x.definition e
      go false = shared_by x.name

  symbol_on : (file : ℕ) (x : Symbol) → 1 ≤ file → OnFile (symbol_place os file x)
  symbol_on file x h = go (is_sure x)
    where
      go : (b : Bool) → OnFile (if b then place_in file x.definition else shared_place os x.name)
      go true = on_file file x.definition h
      go false = shared_on x.name

  module _ (g : Outer) (blind : IsBlind g) where
    value_by : (file : ℕ) (o : Object) (section offset : ℕ) (x : Option Section)
        → value_in g starts file (shrunk_object (starts file) o) section (new_offset (moves_at (starts file section) x) offset) (option_map (shrunk_section (starts file section)) x)
        ≡ value_in g starts file o section offset x
    value_by file o section offset None = refl
    value_by file o section offset (Some s) =
        ap (option_map (own_value g (starts file) (shrunk_object (starts file) o) start (shrunk_section start s))) (high_same start s offset s.relocations)
        ∙ go (high_at (moves start s) offset s.relocations)
      where
        start : ℕ
        start = starts file section

        go : (r : Option Relocation) → option_map (own_value g (starts file) (shrunk_object (starts file) o) start (shrunk_section start s)) (option_map (shrunk_relocation (moves start s)) r)
            ≡ option_map (own_value g (starts file) o start s) r
        go None = refl
        go (Some r) = ap Some (own_same (starts file) o g blind start s r)

    value_same : (p : Option Place) → OnFile p → value_at g starts os' (option_map shrunk_place p) ≡ value_at g starts os p
    value_same None h = refl
    value_same (Some p) h =
        let o = object_at os p.file in
        let f = starts p.file in
        let offset = new_offset (moves_in f o p.section) p.offset in
        ap (λ (y : Object). value_in g starts p.file y p.section offset (slice_get y.sections p.section)) (object_is p.file h)
        ∙ ap (value_in g starts p.file (shrunk_object f o) p.section offset) (section_is f o p.section)
        ∙ value_by p.file o p.section p.offset (slice_get o.sections p.section)

    paired_same : (file : ℕ) (o : Object) → 1 ≤ file → object_at os file ≡ o → (symbol : Option ℕ)
        → paired g starts os' file (shrunk_object (starts file) o) symbol ≡ paired g starts os file o symbol
    paired_same file o h e None = refl
    paired_same file o h e (Some index) =
        ap (λ y. value_at g starts os' (option_and_then (symbol_place os' file) y)) (slice_get-map (shrunk_symbol (starts file) o) o.symbols index) ∙ go (slice_get o.symbols index)
      where
        go : (x : Option Symbol) → value_at g starts os' (option_and_then (symbol_place os' file) (option_map (shrunk_symbol (starts file) o) x)) ≡ value_at g starts os (option_and_then (symbol_place os file) x)
        go None = refl
        go (Some x) = ap (value_at g starts os') (symbol_by_place file o x e) ∙ value_same (symbol_place os file x) (symbol_on file x h)

    module _ (i : InputSection) (least : 1 ≤ i.file) (here : object_at os i.file ≡ i.object) where
      abbrev ms : List Move
      ms = moves (start_of starts i) i.section

      abbrev i' : InputSection
      i' = shrunk_input starts i

      pub input_value : (r : Relocation) → value g starts os' i' (shrunk_relocation ms r) ≡ value g starts os i r
      input_value r = go (is_low_part r.kind)
        where
          go : (b : Bool) → (if b then paired g starts os' i.file i'.object r.symbol else Some (own_value g (starts i.file) i'.object (start_of starts i) i'.section (shrunk_relocation ms r)))
              ≡ (if b then paired g starts os i.file i.object r.symbol else Some (own_value g (starts i.file) i.object (start_of starts i) i.section r))
          go true = paired_same i.file i.object least here r.symbol
          go false = ap Some (own_same (starts i.file) i.object g blind (start_of starts i) i.section r)

      relocated_one : (r : Relocation) → IsRelocated g starts os i r → IsRelocated g starts os' i' (shrunk_relocation ms r)
      relocated_one r h = record {
        resolved = subst (λ t. IsTrue (is_some t)) (sym (target_same (starts i.file) i.object g blind r.symbol)) h.resolved;
        found = subst (λ v. IsTrue (is_some v)) (sym (input_value r)) h.found;
        alone = h.alone;
        takes = subst (λ v. Takes r.kind (unwrap_or v (pos 0))) (sym (input_value r)) h.takes;
      }

      pub relocated_all : (rs : List Relocation) → AllByRecursion (IsRelocated g starts os i) rs → AllByRecursion (IsRelocated g starts os' i') (shrunk_relocations ms rs)
      relocated_all [] h = tt
      relocated_all (r ∷ rs) (h, hs) = go (has_padding r) (relocated_all rs hs)
        where
          go : (b : Bool) → AllByRecursion (IsRelocated g starts os' i') (shrunk_relocations ms rs)
              → AllByRecursion (IsRelocated g starts os' i') (map (shrunk_relocation ms) (if not b then r ∷ filter (λ r. not (has_padding r)) rs else filter (λ r. not (has_padding r)) rs))
          go true ih = ih
          go false ih = (relocated_one r h, ih)

      pub linked_same : initial_bytes (shrunk_contents ms i.section.contents) ≡ kept 0 ms (initial_bytes i.section.contents) → linked_bytes g starts os' i' ≡ linked_bytes g starts os i
      linked_same initial =
          let ms' = moves (start_of starts i) i'.section in
          let worth' : Relocation → ℤ = λ r. unwrap_or (value g starts os' i' r) (pos 0) in
          let worth : Relocation → ℤ = λ r. unwrap_or (value g starts os i r) (pos 0) in
          ap (λ l. applied (new_offset ms') worth' (shrunk_relocations ms i.section.relocations) (kept 0 l (initial_bytes i'.section.contents)))
          (ap (plan (start_of starts i) 0) (none_left (start_of starts i) i.section))
          ∙ ap (applied (new_offset ms') worth' (shrunk_relocations ms i.section.relocations)) initial
          ∙ applied_same ms (new_offset ms') worth worth' (stays (start_of starts i) i.section) (λ r. ap (λ v. unwrap_or v (pos 0)) (input_value r)) i.section.relocations
          (kept 0 ms (initial_bytes i.section.contents))
