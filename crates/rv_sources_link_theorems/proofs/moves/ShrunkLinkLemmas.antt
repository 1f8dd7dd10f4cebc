-- Objects with the linker's moves made are linked to the same program.

use Rattle.std.proofs.Common.{◌≡◌, ℕ, suc, ◌+◌, ◌-◌, ◌≤◌, Bool, true, false, List, [], ◌∷◌, ◌++◌, map, length, refl, sym, ap, ◌∙◌, subst, arith, Option, Some, None, option_map}
use Rattle.std.proofs.lemmas.Bool.{and_parts}
use Rattle.std.proofs.lemmas.List.{map-append}
use Rattle.std.specs.Prelude.{⊤, not, ◌&&◌, ◌||◌, nat_le, nat_lt, max, IsTrue, is_some, option_and_then, filter, flat_map, if◌then◌else◌, bytes_eq, codes}
use Rattle.std.specs.List.{AllByRecursion, list_all, list_any, slice_get}
use Rattle.std.specs.Option.{option_or}
use Rattle.rv_list_laws.proofs.FindLemmas.{each_find}
use Rattle.rv_list_laws.proofs.EachLemmas.{each_append}
use Rattle.rv_map_laws.specs.Globals.{AreDistinct, global_address, shown, linker_symbols}
use Rattle.rv_size_laws.specs.Alignment.{aligned}
use Rattle.rv_isa_laws.specs.Bytes.{zeros}
use Rattle.rv_map_laws.specs.Map.{Global}
use Rattle.rv_map_laws.specs.declared.map.Region.{Region}
use Rattle.rv_map_laws.specs.declared.map.Row.{Row as MapRow}
use Rattle.rv_image_laws.specs.Linked.{Linked}
use Rattle.rv_object_laws.specs.declared.row.Row.{Row}
use Rattle.rv_object_laws.specs.declared.symbol.Binding.{Binding}
use Rattle.rv_object_laws.specs.declared.symbol.Binding.TheVariants as bindings
use Rattle.rv_object_laws.specs.Object.{Contents, Progbits, Note, Nobits, Section, Symbol, Object, size_of}
use Rattle.rv_link_laws.specs.declared.bounds.Ground.{Ground}
use Rattle.rv_link_laws.specs.Moves.{Move, alignments_of, plan, moves, new_offset, kept, has_room, lost}
use Rattle.rv_link_laws.specs.Inputs.{Starts, InputSection, has_no_bytes, goes_to_text, goes_to_rodata, goes_to_data, goes_to_bss, inputs_from, inputs_of, inputs, raised, begins_at, start_of, size, Stand, sections_end, Holds, gaps_of, greatest, contents}
use Rattle.rv_object_laws.specs.Bindings.{is_shared, is_global, is_weak}
use Rattle.rv_link_laws.specs.Names.{Export, Outer, is_defined, is_export, exports_in, exports_from, exports_where, names_of, candidates, chosen, is_this, is_chosen, chosen_exports, export_address, globals_of, global_names, shown_linker_symbols, can_begin, begins_run, run_start, entry_of, object_at}
use Rattle.rv_link_laws.specs.Values.{initial_bytes, linked_bytes, IsRelocated}
use Rattle.rv_link_laws.specs.IsLinkOf.{moves_at, map_row, row_in, inserted_row, by_ordinal, rows_of, is_loaded, outer_of, IsLinkOf}
use Rattle.rv_sources_link_theorems.proofs.names.ExportedLemmas.{is_exported, exported}
use Rattle.rv_sources_link_theorems.proofs.moves.ShrinkingLemmas.{shrunk_contents, shrunk_section, sections_from, moves_in, shrunk_definition, shrunk_row, shrunk_object, shrunk_objects, shrunk_input, shrunk_export, IsBlind, none_left, stays, moves_none, section_is, defined_same, exports_same, chosen_same, AreAt, all_at, relocated_all, linked_same}

-- what a section owes so that its moves change no other
pub record IsTidy (start : ℕ) (s : Section) : Type 0 where
  -- its own alignment is no less than those in its code
  pub begins : raised (alignments_of s) (max (if goes_to_text s then 2 else 1) s.alignment) ≡ max (if goes_to_text s then 2 else 1) s.alignment
  pub size : size_of (shrunk_contents (moves start s) s.contents) ≡ new_offset (moves start s) (size_of s.contents)
  pub initial : initial_bytes (shrunk_contents (moves start s) s.contents) ≡ kept 0 (moves start s) (initial_bytes s.contents)

-- a symbol begins a run as it does after the moves
abbrev pub BeginsSame : (ℕ → ℕ) → Object → Symbol → Type 0
BeginsSame f o x = can_begin (shrunk_object f o) (shrunk_definition f o x.definition) ≡ can_begin o x.definition

abbrev pub AllBegin : Starts → ℕ → List Object → Type 0
AllBegin starts file [] = ⊤
AllBegin starts file (o ∷ os) =
    AllByRecursion (BeginsSame (starts file) o) (exported o) × AllBegin starts (suc file) os

-- ---- lists

flat_join : {X Y : Type 0} (f : X → List Y) (h : X → X) (xs : List X) → ((x : X) → f (h x) ≡ f x) → flat_map f (map h xs) ≡ flat_map f xs
flat_join f h [] e = refl
flat_join f h (x ∷ xs) e = ap (λ l. l ++ flat_map f (map h xs)) (e x) ∙ ap (λ l. f x ++ l) (flat_join f h xs e)

-- ---- regions

module _ (starts : Starts) where
  abbrev mv : InputSection → InputSection
  mv = shrunk_input starts

  module _ (goes : Section → Bool) (same : (start : ℕ) (s : Section) → goes (shrunk_section start s) ≡ goes s) where
    from_same : (file : ℕ) (o : Object) (index : ℕ) (ss : List Section)
        → inputs_from goes file (shrunk_object (starts file) o) index (sections_from (starts file) index ss) ≡ map mv (inputs_from goes file o index ss)
    from_same file o index [] = refl
    from_same file o index (s ∷ ss) =
        ap (λ b. if b then own ∷ rest else rest) (same (starts file index) s) ∙ go (goes s) (from_same file o (suc index) ss)
      where
        own : InputSection
        own = record { file = file; object = shrunk_object (starts file) o; index = index; section = shrunk_section (starts file index) s }

        rest : List InputSection
        rest = inputs_from goes file (shrunk_object (starts file) o) (suc index) (sections_from (starts file) (suc index) ss)

        go : (b : Bool) → rest ≡ map mv (inputs_from goes file o (suc index) ss)
            → (if b then own ∷ rest else rest)
            ≡ map mv (if b then record { file = file; object = o; index = index; section = s } ∷ inputs_from goes file o (suc index) ss else inputs_from goes file o (suc index) ss)
        go true ih = ap (λ l. own ∷ l) ih
        go false ih = ih

    pub inputs_same : (file : ℕ) (us : List Object) → inputs_of goes file (shrunk_objects starts file us) ≡ map mv (inputs_of goes file us)
    inputs_same file [] = refl
    inputs_same file (o ∷ us) =
        ap (λ l. l ++ inputs_of goes (suc file) (shrunk_objects starts (suc file) us)) (from_same file o 0 o.sections)
        ∙ ap (λ l. map mv (inputs_from goes file o 0 o.sections) ++ l) (inputs_same (suc file) us)
        ∙ sym (map-append mv (inputs_from goes file o 0 o.sections) (inputs_of goes (suc file) us))

  abbrev Tidy : InputSection → Type 0
  Tidy i = IsTidy (start_of starts i) i.section

  begins_same : (i : InputSection) → Tidy i → begins_at (mv i).section ≡ begins_at i.section
  begins_same i h = ap (λ rs. raised rs (max (if goes_to_text i.section then 2 else 1) i.section.alignment)) (none_left (start_of starts i) i.section) ∙ sym h.begins

  size_same : (i : InputSection) → Tidy i → size starts (mv i) ≡ size starts i
  size_same i h = stays (start_of starts i) i.section (size_of (shrunk_contents (moves (start_of starts i) i.section) i.section.contents)) ∙ h.size

  stand_same : (stop : ℕ) (is : List InputSection) → AllByRecursion Tidy is → Stand starts stop is → Stand starts stop (map mv is)
  stand_same stop [] h st = tt
  stand_same stop (i ∷ is) (h, hs) (at, st) = (
    at ∙ ap (λ n. aligned n stop) (sym (begins_same i h)),
    subst (λ n. Stand starts (start_of starts i + n) (map mv is)) (sym (size_same i h)) (stand_same (start_of starts i + size starts i) is hs st),
  )

  end_same : (stop : ℕ) (is : List InputSection) → AllByRecursion Tidy is → sections_end starts stop (map mv is) ≡ sections_end starts stop is
  end_same stop [] h = refl
  end_same stop (i ∷ is) (h, hs) = ap (λ n. sections_end starts (start_of starts i + n) (map mv is)) (size_same i h) ∙ end_same (start_of starts i + size starts i) is hs

  gaps_same : (stop : ℕ) (is : List InputSection) → AllByRecursion Tidy is → gaps_of starts stop (map mv is) ≡ gaps_of starts stop is
  gaps_same stop [] h = refl
  gaps_same stop (i ∷ is) (h, hs) =
      let start = start_of starts i in
      let with : List Region → List Region = λ l. if nat_lt stop start then record { start = stop; end = start } ∷ l else l in
      ap (λ n. with (gaps_of starts (start + n) (map mv is))) (size_same i h) ∙ ap with (gaps_same (start + size starts i) is hs)

  greatest_same : (is : List InputSection) → AllByRecursion Tidy is → greatest (map mv is) ≡ greatest is
  greatest_same [] h = refl
  greatest_same (i ∷ is) (h, hs) = ap (λ n. max n (greatest (map mv is))) (begins_same i h) ∙ ap (λ n. max (begins_at i.section) n) (greatest_same is hs)

  holds_same : (region : Region) (place : ℕ) (is : List InputSection) → AllByRecursion Tidy is → Holds starts region place is → Holds starts region place (map mv is)
  holds_same region place is h (begin, st, stop) = (begin, stand_same place is h st, stop ∙ sym (end_same place is h))

  room_same : (is : List InputSection) → AllByRecursion (λ i. IsTrue (list_all has_room (moves (start_of starts i) i.section))) (map mv is)
  room_same [] = tt
  room_same (i ∷ is) = (ap (λ rs. list_all has_room (plan (start_of starts i) 0 rs)) (none_left (start_of starts i) i.section), room_same is)

  -- ---- symbols

  abbrev moved : Export → Export
  moved = shrunk_export starts

  named_same : (es : List Export) → names_of (map moved es) ≡ names_of es
  named_same [] = refl
  named_same (e ∷ es) = ap (λ (l : List (List ℕ)). e.symbol.name ∷ l) (named_same es)

  address_same : (e : Export) → export_address starts (moved e) ≡ export_address starts e
  address_same e = defined_same (starts e.file) e.object e.symbol.definition

  module _ (os : List Object) where
    abbrev left : List Object
    left = shrunk_objects starts 1 os

    some_same : (name : List ℕ) → is_some (chosen left name) ≡ is_some (chosen os name)
    some_same name = ap is_some (chosen_same starts os name) ∙ go (chosen os name)
      where
        go : (c : Option Export) → is_some (option_map moved c) ≡ is_some c
        go None = refl
        go (Some e) = refl

    names_same : global_names left ≡ global_names os
    names_same = ap names_of (exports_same starts is_global 1 os) ∙ named_same (exports_where is_global os)

    this_same : (e : Export) → is_chosen left (moved e) ≡ is_chosen os e
    this_same e = ap (is_this (moved e)) (chosen_same starts os e.symbol.name) ∙ go (chosen os e.symbol.name)
      where
        go : (c : Option Export) → is_this (moved e) (option_map moved c) ≡ is_this e c
        go None = refl
        go (Some f) = refl

    kept_same : (es : List Export) → filter (is_chosen left) (map moved es) ≡ map moved (filter (is_chosen os) es)
    kept_same [] = refl
    kept_same (e ∷ es) = ap (λ b. if b then moved e ∷ rest else rest) (this_same e) ∙ go (is_chosen os e) (kept_same es)
      where
        rest : List Export
        rest = filter (is_chosen left) (map moved es)

        go : (b : Bool) → rest ≡ map moved (filter (is_chosen os) es)
            → (if b then moved e ∷ rest else rest) ≡ map moved (if b then e ∷ filter (is_chosen os) es else filter (is_chosen os) es)
        go true ih = ap (λ l. moved e ∷ l) ih
        go false ih = ih

    pub globals_same : globals_of starts left ≡ globals_of starts os
    globals_same =
        ap (flat_map (λ e. shown e.symbol.name (export_address starts e)))
        (ap (filter (is_chosen left)) (exports_same starts is_shared 1 os) ∙ kept_same (exports_where is_shared os))
        ∙ flat_join (λ e. shown e.symbol.name (export_address starts e)) moved (chosen_exports os) (λ e. ap (shown e.symbol.name) (address_same e))

  -- ---- the entry

  abbrev Begins : Export → Type 0
  Begins e = BeginsSame (starts e.file) e.object e.symbol

  shared_too : (b : Binding) (defined : Bool) → is_shared b ≡ true → defined ≡ true → (is_shared b && defined) ≡ true
  shared_too b defined s d = ap (λ c. c && defined) s ∙ d

  begin_in : (test : Binding → Bool) → ((b : Binding) → test b ≡ true → is_shared b ≡ true) → (file : ℕ) (o : Object) (index : ℕ) (xs : List Symbol)
      → AllByRecursion (BeginsSame (starts file) o) (filter is_exported xs) → AllByRecursion Begins (exports_in test file o index xs)
  begin_in test shares file o index [] h = tt
  begin_in test shares file o index (x ∷ xs) h =
      go (is_export test x) refl (is_exported x) refl h (begin_in test shares file o (suc index) xs)
    where
      own : Export
      own = record { file = file; object = o; index = index; symbol = x }

      go : (b : Bool) → is_export test x ≡ b → (c : Bool) → is_exported x ≡ c
          → AllByRecursion (BeginsSame (starts file) o) (if c then x ∷ filter is_exported xs else filter is_exported xs)
          → (AllByRecursion (BeginsSame (starts file) o) (filter is_exported xs) → AllByRecursion Begins (exports_in test file o (suc index) xs))
          → AllByRecursion Begins (if b then own ∷ exports_in test file o (suc index) xs else exports_in test file o (suc index) xs)
      go true e true f (k, ks) ih = (k, ih ks)
      go true e false f ks ih =
          let both = and_parts (test x.binding) (is_defined x.definition) e in
          let g : true ≡ false = sym (shared_too x.binding (is_defined x.definition) (shares x.binding both.0) both.1) ∙ f in absurd (cc)
      go false e true f (k, ks) ih = ih ks
      go false e false f ks ih = ih ks

  begin_from : (test : Binding → Bool) → ((b : Binding) → test b ≡ true → is_shared b ≡ true) → (file : ℕ) (us : List Object) → AllBegin starts file us
      → AllByRecursion Begins (exports_from test file us)
  begin_from test shares file [] h = tt
  begin_from test shares file (o ∷ us) (h, hs) =
      each_append Begins (exports_in test file o 0 o.symbols) (exports_from test (suc file) us) (begin_in test shares file o 0 o.symbols h) (begin_from test shares (suc file) us hs)

  global_shared : (b : Binding) → is_global b ≡ true → is_shared b ≡ true
  global_shared bindings.Local e = e
  global_shared bindings.Global e = e
  global_shared bindings.Weak e = refl

  weak_shared : (b : Binding) → is_weak b ≡ true → is_shared b ≡ true
  weak_shared bindings.Local e = e
  weak_shared bindings.Global e = refl
  weak_shared bindings.Weak e = e

  entry_same : (os : List Object) → AllBegin starts 1 os → entry_of starts (shrunk_objects starts 1 os) ≡ entry_of starts os
  entry_same os h = ap (option_and_then (run_start starts)) (chosen_same starts os (codes "_start")) ∙ go (chosen os (codes "_start")) begins
    where
      begins : (e : Export) → chosen os (codes "_start") ≡ Some e → Begins e
      begins e found =
          each_find Begins (λ e. bytes_eq e.symbol.name (codes "_start")) (candidates os)
          (each_append Begins (exports_where is_global os) (exports_where is_weak os) (begin_from is_global global_shared 1 os h) (begin_from is_weak weak_shared 1 os h)) e found

      go : (c : Option Export) → ((e : Export) → c ≡ Some e → Begins e) → option_and_then (run_start starts) (option_map moved c) ≡ option_and_then (run_start starts) c
      go None k = refl
      go (Some e) k = ap (λ b. if b then export_address starts (moved e) else None) (k e refl) ∙ ap (λ a. if begins_run e then a else None) (address_same e)

  -- ---- rows

  module _ (file : ℕ) (o : Object) where
    abbrev f : ℕ → ℕ
    f = starts file

    inserted_same : (r : Row) (qs : List Row) → inserted_row (shrunk_row f o r) (map (shrunk_row f o) qs) ≡ map (shrunk_row f o) (inserted_row r qs)
    inserted_same r [] = refl
    inserted_same r (q ∷ qs) = go (nat_le r.ordinal q.ordinal) (inserted_same r qs)
      where
        go : (b : Bool) → inserted_row (shrunk_row f o r) (map (shrunk_row f o) qs) ≡ map (shrunk_row f o) (inserted_row r qs)
            → (if b then shrunk_row f o r ∷ shrunk_row f o q ∷ map (shrunk_row f o) qs else shrunk_row f o q ∷ inserted_row (shrunk_row f o r) (map (shrunk_row f o) qs))
            ≡ map (shrunk_row f o) (if b then r ∷ q ∷ qs else q ∷ inserted_row r qs)
        go true ih = refl
        go false ih = ap (λ (l : List Row). shrunk_row f o q ∷ l) ih

    ordered_same : (rs : List Row) → by_ordinal (map (shrunk_row f o) rs) ≡ map (shrunk_row f o) (by_ordinal rs)
    ordered_same [] = refl
    ordered_same (r ∷ rs) = ap (inserted_row (shrunk_row f o r)) (ordered_same rs) ∙ inserted_same r (by_ordinal rs)

    still_row : (start : ℕ) (r : Row) (ms : List Move)
        → map_row file start [] (record {
          line = r.line;
          ordinal = r.ordinal;
          section = r.section;
          offset = new_offset ms r.offset;
          bytes = new_offset ms (r.offset + r.bytes) - new_offset ms r.offset;
          instructions = r.instructions - lost ms r.offset r.bytes;
        })
        ≡ map_row file start ms r
    still_row start r ms =
        let x = new_offset ms r.offset in
        let y = new_offset ms (r.offset + r.bytes) in
        let n = r.instructions - lost ms r.offset r.bytes in
        let mk : ℕ → ℕ → ℕ → MapRow = λ a b c. record { file = file; line = r.line; ordinal = r.ordinal; address = a; bytes = b; instructions = c } in
        let e : start + (x - 0) ≡ start + x = omega arith in
        let g : (x + (y - x) - 0) - (x - 0) ≡ y - x = omega arith in
        let h : n - 0 ≡ n = omega arith in
        ap (λ a. mk a ((x + (y - x) - 0) - (x - 0)) (n - 0)) e ∙ ap (λ b. mk (start + x) b (n - 0)) g ∙ ap (mk (start + x) (y - x)) h

    row_same : (r : Row) → row_in starts file (shrunk_object f o) (shrunk_row f o r) ≡ row_in starts file o r
    row_same r =
        ap (λ x. map_row file (f r.section) (moves_at (f r.section) x) (shrunk_row f o r)) (section_is f o r.section)
        ∙ ap (λ ms. map_row file (f r.section) ms (shrunk_row f o r)) (moves_none (f r.section) (slice_get o.sections r.section))
        ∙ still_row (f r.section) r (moves_in f o r.section)

    rows_by : (rs : List Row) → map (row_in starts file (shrunk_object f o)) (map (shrunk_row f o) rs) ≡ map (row_in starts file o) rs
    rows_by [] = refl
    rows_by (r ∷ rs) = ap (λ x. x ∷ map (row_in starts file (shrunk_object f o)) (map (shrunk_row f o) rs)) (row_same r) ∙ ap (λ l. row_in starts file o r ∷ l) (rows_by rs)

  rows_same : (file : ℕ) (us : List Object) → rows_of starts file (shrunk_objects starts file us) ≡ rows_of starts file us
  rows_same file [] = refl
  rows_same file (o ∷ us) =
      ap (λ l. map (row_in starts file (shrunk_object (starts file) o)) l ++ rows_of starts (suc file) (shrunk_objects starts (suc file) us)) (ordered_same file o o.rows)
      ∙ ap (λ l. l ++ rows_of starts (suc file) (shrunk_objects starts (suc file) us)) (rows_by file o (by_ordinal o.rows))
      ∙ ap (λ l. map (row_in starts file o) (by_ordinal o.rows) ++ l) (rows_same (suc file) us)

  few_same : (file : ℕ) (us : List Object) → length (shrunk_objects starts file us) ≡ length us
  few_same file [] = refl
  few_same file (o ∷ us) = ap suc (few_same (suc file) us)

  rvc_same : (file : ℕ) (us : List Object) → list_any (λ o. o.rvc) (shrunk_objects starts file us) ≡ list_any (λ o. o.rvc) us
  rvc_same file [] = refl
  rvc_same file (o ∷ us) = ap (λ b. o.rvc || b) (rvc_same (suc file) us)

  -- ---- bytes

  module _ (os : List Object) (g : Outer) (blind : IsBlind g) where
    abbrev IsInput : InputSection → Type 0
    IsInput i = (1 ≤ i.file) × (object_at os i.file ≡ i.object)

    are_from : (goes : Section → Bool) (file : ℕ) (o : Object) (index : ℕ) (ss : List Section) → 1 ≤ file → object_at os file ≡ o → AllByRecursion IsInput (inputs_from goes file o index ss)
    are_from goes file o index [] h e = tt
    are_from goes file o index (s ∷ ss) h e = go (goes s) (are_from goes file o (suc index) ss h e)
      where
        go : (b : Bool) → AllByRecursion IsInput (inputs_from goes file o (suc index) ss)
            → AllByRecursion IsInput (if b then record { file = file; object = o; index = index; section = s } ∷ inputs_from goes file o (suc index) ss else inputs_from goes file o (suc index) ss)
        go true ih = ((h, e), ih)
        go false ih = ih

    are_inputs : (goes : Section → Bool) (file : ℕ) (us : List Object) → 1 ≤ file → AreAt os file us → AllByRecursion IsInput (inputs_of goes file us)
    are_inputs goes file [] h e = tt
    are_inputs goes file (o ∷ us) h (e, es) =
        each_append IsInput (inputs_from goes file o 0 o.sections) (inputs_of goes (suc file) us) (are_from goes file o 0 o.sections h e) (are_inputs goes (suc file) us (omega arith) es)

    contents_same : (stop : ℕ) (is : List InputSection) → AllByRecursion IsInput is → AllByRecursion Tidy is
        → contents (linked_bytes g starts (shrunk_objects starts 1 os)) starts stop (map mv is) ≡ contents (linked_bytes g starts os) starts stop is
    contents_same stop [] k h = refl
    contents_same stop (i ∷ is) ((least, here), ks) (h, hs) =
        let start = start_of starts i in
        ap (λ l. zeros (start - stop) ++ (l ++ contents (linked_bytes g starts (shrunk_objects starts 1 os)) starts (start + size starts (mv i)) (map mv is))) (linked_same starts os g blind i least here h.initial)
        ∙ ap (λ n. zeros (start - stop) ++ (linked_bytes g starts os i ++ contents (linked_bytes g starts (shrunk_objects starts 1 os)) starts (start + n) (map mv is))) (size_same i h)
        ∙ ap (λ l. zeros (start - stop) ++ (linked_bytes g starts os i ++ l)) (contents_same (start + size starts i) is ks hs)

    relocated_same : (is : List InputSection) → AllByRecursion IsInput is → AllByRecursion (λ i. AllByRecursion (IsRelocated g starts os i) i.section.relocations) is
        → AllByRecursion (λ i. AllByRecursion (IsRelocated g starts (shrunk_objects starts 1 os) i) i.section.relocations) (map mv is)
    relocated_same [] k h = tt
    relocated_same (i ∷ is) ((least, here), ks) (h, hs) = (relocated_all starts os g blind i least here i.section.relocations h, relocated_same is ks hs)

-- ---- where they go

nobits_same : (ms : List Move) (c : Contents) → has_no_bytes (shrunk_contents ms c) ≡ has_no_bytes c
nobits_same ms (Progbits bytes) = refl
nobits_same ms (Note bytes) = refl
nobits_same ms (Nobits n) = refl

bss_same : (start : ℕ) (s : Section) → goes_to_bss (shrunk_section start s) ≡ goes_to_bss s
bss_same start s = ap (λ b. (s.loaded && not s.executable) && b) (nobits_same (moves start s) s.contents)

data_same : (start : ℕ) (s : Section) → goes_to_data (shrunk_section start s) ≡ goes_to_data s
data_same start s = ap (λ b. ((s.loaded && not s.executable) && not b) && s.writable) (nobits_same (moves start s) s.contents)

rodata_same : (start : ℕ) (s : Section) → goes_to_rodata (shrunk_section start s) ≡ goes_to_rodata s
rodata_same start s = ap (λ b. ((s.loaded && not s.executable) && not b) && not s.writable) (nobits_same (moves start s) s.contents)

-- ---- the whole

module _ (os : List Object) (bounds : Ground) (l : Linked) (link : IsLinkOf os bounds l) where
  abbrev st : Starts
  st = link.starts

  module _ (tidy : (goes : Section → Bool) → AllByRecursion (λ i. IsTidy (start_of st i) i.section) (inputs goes os)) (begins : AllBegin st 1 os) where
    abbrev us : List Object
    us = shrunk_objects st 1 os

    -- what symbols mean that their own objects don't surely define
    abbrev outer : Outer
    outer = outer_of os l

    outer_same : outer ≡ outer_of us l
    outer_same = λ i s.
        option_or (global_address l.map.globals s.name) (if is_weak s.binding && not (sym (some_same st os s.name) i) then Some 0 else None)

    blind : IsBlind outer
    blind f o x = refl

    abbrev ok : (goes : Section → Bool) → AllByRecursion (IsInput st os outer blind) (inputs goes os)
    ok goes = are_inputs st os outer blind goes 1 os (omega arith) (all_at os)

    text_is : inputs goes_to_text us ≡ map (shrunk_input st) (inputs goes_to_text os)
    text_is = inputs_same st goes_to_text (λ start s. refl) 1 os

    rodata_is : inputs goes_to_rodata us ≡ map (shrunk_input st) (inputs goes_to_rodata os)
    rodata_is = inputs_same st goes_to_rodata rodata_same 1 os

    data_is : inputs goes_to_data us ≡ map (shrunk_input st) (inputs goes_to_data os)
    data_is = inputs_same st goes_to_data data_same 1 os

    bss_is : inputs goes_to_bss us ≡ map (shrunk_input st) (inputs goes_to_bss os)
    bss_is = inputs_same st goes_to_bss bss_same 1 os

    loaded_is : inputs is_loaded us ≡ map (shrunk_input st) (inputs is_loaded os)
    loaded_is = inputs_same st is_loaded (λ start s. refl) 1 os

    held_in : (goes : Section → Bool) (region : Region) (place : ℕ) → inputs goes us ≡ map (shrunk_input st) (inputs goes os)
        → Holds st region place (inputs goes os) → Holds st region place (inputs goes us)
    held_in goes region place is h = subst (λ xs. Holds st region place xs) (sym is) (holds_same st region place (inputs goes os) (tidy goes) h)

    filled_in : (goes : Section → Bool) (stop : ℕ) → inputs goes us ≡ map (shrunk_input st) (inputs goes os)
        → contents (linked_bytes outer st os) st stop (inputs goes os) ≡ contents (linked_bytes (outer_of us l) st us) st stop (inputs goes us)
    filled_in goes stop is =
        sym (contents_same st os outer blind stop (inputs goes os) (ok goes) (tidy goes)) ∙ ap (contents (linked_bytes outer st us) st stop) (sym is)
        ∙ ap (λ g. contents (linked_bytes g st us) st stop (inputs goes us)) outer_same

    linker_same : shown_linker_symbols os l.map ≡ shown_linker_symbols us l.map
    linker_same = λ i. filter (λ (g : Global). not (sym (some_same st os g.name) i)) (linker_symbols l.map)

    pub shrunk_link : IsLinkOf us bounds l
    shrunk_link = record {
      few = subst (λ n. n ≤ 1024) (sym (few_same st 1 os)) link.few;
      page = link.page;
      low = link.low;
      free = link.free;
      starts = st;
      text = held_in goes_to_text l.map.text bounds.text text_is link.text;
      gaps = link.gaps ∙ sym (gaps_same st bounds.text (inputs goes_to_text os) (tidy goes_to_text)) ∙ ap (gaps_of st bounds.text) (sym text_is);
      rodata = held_in goes_to_rodata l.map.rodata (aligned 4096 l.map.text.end) rodata_is link.rodata;
      «data» = held_in goes_to_data l.map.data (aligned 4096 l.map.rodata.end) data_is link.data;
      bss = subst (λ n. Holds st l.map.bss (aligned n l.map.data.end) (inputs goes_to_bss us))
          (sym (greatest_same st (inputs goes_to_bss os) (tidy goes_to_bss)) ∙ ap greatest (sym bss_is))
          (held_in goes_to_bss l.map.bss (aligned (greatest (inputs goes_to_bss os)) l.map.data.end) bss_is link.bss);
      below = link.below;
      memory = link.memory;
      room = subst (λ xs. AllByRecursion (λ i. IsTrue (list_all has_room (moves (start_of st i) i.section))) xs) (sym text_is) (room_same st (inputs goes_to_text os));
      once = subst AreDistinct (sym (names_same st os)) link.once;
      globals = link.globals ∙ ap (λ xs. xs ++ shown_linker_symbols os l.map) (sym (globals_same st os)) ∙ ap (λ xs. globals_of st us ++ xs) linker_same;
      entry = entry_same st os begins ∙ link.entry;
      even = link.even;
      rows = link.rows ∙ sym (rows_same st 1 os);
      readable = link.readable;
      relocated = subst (λ g. AllByRecursion (λ i. AllByRecursion (IsRelocated g st us i) i.section.relocations) (inputs is_loaded us)) outer_same
          (subst (λ xs. AllByRecursion (λ i. AllByRecursion (IsRelocated outer st us i) i.section.relocations) xs) (sym loaded_is)
          (relocated_same st os outer blind (inputs is_loaded os) (ok is_loaded) link.relocated));
      text_bytes = link.text_bytes ∙ filled_in goes_to_text l.map.text.start text_is;
      rodata_bytes = link.rodata_bytes ∙ filled_in goes_to_rodata l.map.rodata.start rodata_is;
      data_bytes = link.data_bytes ∙ filled_in goes_to_data l.map.data.start data_is;
      rvc = link.rvc ∙ sym (rvc_same st 1 os);
    }
