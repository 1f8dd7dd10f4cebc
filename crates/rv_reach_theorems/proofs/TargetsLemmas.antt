-- The place that a call's symbol names has, once the text is placed, the address that the symbol stands for.

use Rattle.std.proofs.Common.{◌≡◌, ℕ, zero, suc, ◌+◌, ◌-◌, ◌%◌, ◌^◌, ◌≤◌, Bool, true, false, ◌&&◌, List, [], ◌∷◌, ◌++◌, map, Option, Some, None, option_map, slice_index_or, refl, sym, ap, subst, ◌∙◌, arith}
use Rattle.std.specs.Prelude.{option_and_then, unwrap_or, bytes_eq, if◌then◌else◌}
use Rattle.std.specs.List.{find, slice_get}
use Rattle.std.specs.Option.{option_or}
use Rattle.std.proofs.lemmas.Bool.{and_parts}
use Rattle.std.proofs.lemmas.List.{map-append}
use Rattle.std.proofs.lemmas.Option.{slice_get-map, unwrap_or-slice_get}
use Rattle.rv_map_laws.specs.Map.{Map}
use Rattle.rv_object_laws.specs.declared.symbol.Binding.{Binding}
use Rattle.rv_object_laws.specs.declared.symbol.Definition.{Definition}
use Rattle.rv_object_laws.specs.declared.symbol.Definition.TheVariants as definitions
use Rattle.rv_object_laws.specs.Object.{Relocation, Section, Symbol, Object}
use Rattle.rv_link_laws.specs.Moves.{moves, new_offset}
use Rattle.rv_link_laws.specs.Inputs.{Starts, InputSection, goes_to_text, inputs_from, inputs_of, inputs}
use Rattle.rv_object_laws.specs.Bindings.{is_global, is_weak}
use Rattle.rv_link_laws.specs.Names.{offset_address, defined_address, is_defined, is_sure_by, is_sure, Export, is_export, exports_in, exports_from, exports_where, candidates, chosen, export_address, globals_of, shown_linker_symbols, unshown_address, Outer, outer_address, symbol_address, Place, place_in, shared_place, symbol_place, no_object, object_at, is_in_text}
use Rattle.rv_link_laws.specs.Values.{target}
use Rattle.rv_link_laws.specs.CallSites.{target_place, is_text_place}
use Rattle.rv_link_laws.specs.Shortened.{Sizes, sizes_by, cuts, cuts_at, cuts_in, shortened_text, shortened_section, shortened_sections, shortened_definition, shortened_symbol, shortened_object, shortened_from}
use Rattle.rv_link_laws.proofs.ChosenLemmas.{chosen_held}
use Rattle.rv_link_laws.proofs.ShownLemmas.{meaning, means}

-- ---- which section of the text a place is in

-- a section of the text, by where it stands among them
pub record IsAt (is : List InputSection) (file index : ℕ) (s : Section) : Type 0 where
  pub number : ℕ
  pub input : InputSection
  pub there : slice_get is number ≡ Some input
  pub in_file : input.file ≡ file
  pub at_index : input.index ≡ index
  pub section : input.section ≡ s

at_more : (is more : List InputSection) (file index : ℕ) (s : Section) → IsAt is file index s → IsAt (is ++ more) file index s
at_more is more file index s it = record { number = it.number; input = it.input; there = go is it.number it.there; in_file = it.in_file; at_index = it.at_index; section = it.section }
  where
    go : (xs : List InputSection) (k : ℕ) → slice_get xs k ≡ Some it.input → slice_get (xs ++ more) k ≡ Some it.input
    go [] k e = absurd (cc)
    go (x ∷ xs) zero e = e
    go (x ∷ xs) (suc k) e = go xs k e

at_behind : (front is : List InputSection) (file index : ℕ) (s : Section) → IsAt is file index s → IsAt (front ++ is) file index s
at_behind [] is file index s it = it
at_behind (x ∷ front) is file index s it =
    let rest = at_behind front is file index s it in
    record { number = suc rest.number; input = rest.input; there = rest.there; in_file = rest.in_file; at_index = rest.at_index; section = rest.section }

at_from : (file : ℕ) (o : Object) (index j : ℕ) (ss : List Section) (s : Section) → slice_get ss j ≡ Some s → goes_to_text s ≡ true → IsAt (inputs_from goes_to_text file o index ss) file (index + j) s
at_from file o index j [] s there text = absurd (cc)
at_from file o index zero (x ∷ ss) s there text =
    let same : x ≡ s = cc in
    subst (λ b. IsAt (if b then own ∷ rest else rest) file (index + 0) s) (sym (ap goes_to_text same ∙ text))
    (record { number = 0; input = own; there = refl; in_file = refl; at_index = (let e : index ≡ index + 0 = omega arith in e); section = same })
  where
    own : InputSection
    own = record { file = file; object = o; index = index; section = x }

    rest : List InputSection
    rest = inputs_from goes_to_text file o (suc index) ss
at_from file o index (suc j) (x ∷ ss) s there text =
    go (goes_to_text x) (subst (λ n. IsAt rest file n s) (let e : suc index + j ≡ index + suc j = omega arith in e) (at_from file o (suc index) j ss s there text))
  where
    own : InputSection
    own = record { file = file; object = o; index = index; section = x }

    rest : List InputSection
    rest = inputs_from goes_to_text file o (suc index) ss

    go : (b : Bool) → IsAt rest file (index + suc j) s → IsAt (if b then own ∷ rest else rest) file (index + suc j) s
    go true it = at_behind (own ∷ []) rest file (index + suc j) s it
    go false it = it

at_of : (file k index : ℕ) (os : List Object) (s : Section) → slice_get (slice_index_or os k no_object).sections index ≡ Some s → goes_to_text s ≡ true → IsAt (inputs_of goes_to_text file os) (file + k) index s
at_of file k index [] s there text = absurd (cc)
at_of file zero index (o ∷ os) s there text =
    at_more (inputs_from goes_to_text file o 0 o.sections) (inputs_of goes_to_text (suc file) os) (file + 0) index s
    (subst (λ n. IsAt (inputs_from goes_to_text file o 0 o.sections) n index s) (let e : file ≡ file + 0 = omega arith in e)
    (subst (λ n. IsAt (inputs_from goes_to_text file o 0 o.sections) file n s) (let e : 0 + index ≡ index = omega arith in e) (at_from file o 0 index o.sections s there text)))
at_of file (suc k) index (o ∷ os) s there text =
    at_behind (inputs_from goes_to_text file o 0 o.sections) (inputs_of goes_to_text (suc file) os) (file + suc k) index s
    (subst (λ n. IsAt (inputs_of goes_to_text (suc file) os) n index s) (let e : suc file + k ≡ file + suc k = omega arith in e) (at_of (suc file) k index os s there text))

-- a place in text, or past the end of a section of it
pub record IsInText (os : List Object) (p : Place) : Type 0 where
  pub section : Section
  pub there : slice_get (object_at os p.file).sections p.section ≡ Some section
  pub text : goes_to_text section ≡ true

pub in_text : (os : List Object) (p : Place) → is_text_place os (Some p) ≡ true → IsInText os p
in_text os p h = go (slice_get (object_at os p.file).sections p.section) refl h
  where
    go : (x : Option Section) → slice_get (object_at os p.file).sections p.section ≡ x → is_in_text x ≡ true → IsInText os p
    go None e h = absurd (cc)
    go (Some s) e h = record { section = s; there = e; text = h }

pub place_at : (os : List Object) (p : Place) (it : IsInText os p) → 1 ≤ p.file → IsAt (inputs goes_to_text os) p.file p.section it.section
place_at os p it counted =
    subst (λ n. IsAt (inputs goes_to_text os) n p.section it.section) (let e : 1 + (p.file - 1) ≡ p.file = omega (arith, counted) in e)
    (at_of 1 (p.file - 1) p.section os it.section it.there it.text)

-- ---- addresses

module _ (os : List Object) (kept : List ℕ) (starts : Starts) where
  abbrev its : ℕ → ℕ → Sizes
  its = sizes_by os kept

  -- the address of a place, where it is one
  abbrev pub stands : Place → Section → ℕ
  stands p s = starts p.file p.section + new_offset (moves (starts p.file p.section) (shortened_text (its p.file p.section) s)) (new_offset (cuts (its p.file p.section) s) p.offset)

  sections_at : (sizes : ℕ → Sizes) (index j : ℕ) (ss : List Section) → slice_get (shortened_sections sizes index ss) j ≡ option_map (shortened_section (sizes (index + j))) (slice_get ss j)
  sections_at sizes index j [] = refl
  sections_at sizes index zero (s ∷ ss) = ap (λ n. Some (shortened_section (sizes n) s)) (let e : index ≡ index + 0 = omega arith in e)
  sections_at sizes index (suc j) (s ∷ ss) = sections_at sizes (suc index) j ss ∙ ap (λ n. option_map (shortened_section (sizes n)) (slice_get ss j)) (let e : suc index + j ≡ index + suc j = omega arith in e)

  place : ℕ → ℕ → ℕ → Place
  place file section offset = record { file = file; section = section; offset = offset }

  pub defined_at : (file section offset : ℕ) (s : Section) → slice_get (object_at os file).sections section ≡ Some s → goes_to_text s ≡ true
      → offset_address (starts file section) (new_offset (cuts_in (its file) (object_at os file) section) offset) (slice_get (shortened_sections (its file) 0 (object_at os file).sections) section)
      ≡ Some (stands (record { file = file; section = section; offset = offset }) s % 2 ^ 64)
  defined_at file section offset s there text =
      let o = object_at os file in
      let left = shortened_text (its file section) s in
      let n = new_offset (cuts (its file section) s) offset in
      ap (λ x. offset_address (starts file section) (new_offset (cuts_at (its file section) x) offset) (slice_get (shortened_sections (its file) 0 o.sections) section)) there
      ∙ ap (offset_address (starts file section) n)
      (sections_at (its file) 0 section o.sections
      ∙ ap (λ k. option_map (shortened_section (its file k)) (slice_get o.sections section)) (let e : 0 + section ≡ section = omega arith in e)
      ∙ ap (option_map (shortened_section (its file section))) there
      ∙ ap (λ b. Some (if b then left else s)) text)
      ∙ ap (λ b. if b then Some ((starts file section + new_offset (moves (starts file section) left) n) % 2 ^ 64) else None) (and_parts s.loaded s.executable text).0

  -- of what an object of a file defines there
  defined : (file : ℕ) (d : Definition) (p : Place) (it : IsInText os p) → place_in file d ≡ Some p
      → defined_address (starts file) (shortened_object (its file) (object_at os file)) (shortened_definition (its file) (object_at os file) d) ≡ Some (stands p it.section % 2 ^ 64)
  defined file definitions.Undefined p it e = absurd (cc)
  defined file (definitions.Absolute n) p it e = absurd (cc)
  defined file (definitions.Skipped n) p it e = absurd (cc)
  defined file (definitions.InSection section offset) p it e =
      let here : Place = record { file = file; section = section; offset = offset } in
      let same : here ≡ p = (let t : ◌≡◌ {A = Option Place} (Some here) (Some p) = e in cc) in
      defined_at file section offset it.section (subst (λ (q : Place). slice_get (object_at os q.file).sections q.section ≡ Some it.section) (sym same) it.there) it.text
      ∙ ap (λ (q : Place). Some (stands q it.section % 2 ^ 64)) same

  -- ---- of what is left of objects

  defined_left : (sizes : ℕ → Sizes) (o : Object) (d : Definition) → is_defined (shortened_definition sizes o d) ≡ is_defined d
  defined_left sizes o definitions.Undefined = refl
  defined_left sizes o (definitions.Absolute n) = refl
  defined_left sizes o (definitions.InSection section offset) = refl
  defined_left sizes o (definitions.Skipped n) = refl

  sure_left : (sizes : ℕ → Sizes) (o : Object) (binding : Binding) (d : Definition) → is_sure_by binding (shortened_definition sizes o d) ≡ is_sure_by binding d
  sure_left sizes o binding definitions.Undefined = refl
  sure_left sizes o binding (definitions.Absolute n) = refl
  sure_left sizes o binding (definitions.InSection section offset) = refl
  sure_left sizes o binding (definitions.Skipped n) = refl

  abbrev left : Export → Export
  left e = record { file = e.file; object = shortened_object (its e.file) e.object; index = e.index; symbol = shortened_symbol (its e.file) e.object e.symbol }

  in_left : (test : Binding → Bool) (file : ℕ) (o : Object) (index : ℕ) (ss : List Symbol)
      → exports_in test file (shortened_object (its file) o) index (map (shortened_symbol (its file) o) ss) ≡ map left (exports_in test file o index ss)
  in_left test file o index [] = refl
  in_left test file o index (s ∷ ss) =
      ap (λ b. if test s.binding && b then left own ∷ rest else rest) (defined_left (its file) o s.definition) ∙ go (is_export test s) (in_left test file o (suc index) ss)
    where
      own : Export
      own = record { file = file; object = o; index = index; symbol = s }

      rest : List Export
      rest = exports_in test file (shortened_object (its file) o) (suc index) (map (shortened_symbol (its file) o) ss)

      more : List Export
      more = exports_in test file o (suc index) ss

      go : (b : Bool) → rest ≡ map left more → (if b then left own ∷ rest else rest) ≡ map left (if b then own ∷ more else more)
      go true ih = ap (λ l. left own ∷ l) ih
      go false ih = ih

  from_left : (test : Binding → Bool) (file : ℕ) (us : List Object) → exports_from test file (shortened_from its file us) ≡ map left (exports_from test file us)
  from_left test file [] = refl
  from_left test file (o ∷ us) =
      ap (λ l. l ++ exports_from test (suc file) (shortened_from its (suc file) us)) (in_left test file o 0 o.symbols)
      ∙ ap (λ l. map left (exports_in test file o 0 o.symbols) ++ l) (from_left test (suc file) us)
      ∙ sym (map-append left (exports_in test file o 0 o.symbols) (exports_from test (suc file) us))

  abbrev shorter : List Object
  shorter = shortened_from its 1 os

  candidates_left : candidates shorter ≡ map left (candidates os)
  candidates_left =
      ap (λ l. l ++ exports_where is_weak shorter) (from_left is_global 1 os) ∙ ap (λ l. map left (exports_where is_global os) ++ l) (from_left is_weak 1 os)
      ∙ sym (map-append left (exports_where is_global os) (exports_where is_weak os))

  found_left : (name : List ℕ) (es : List Export) → find (λ (e : Export). bytes_eq e.symbol.name name) (map left es) ≡ option_map left (find (λ (e : Export). bytes_eq e.symbol.name name) es)
  found_left name [] = refl
  found_left name (e ∷ es) = go (bytes_eq e.symbol.name name) (found_left name es)
    where
      go : (b : Bool) → find (λ (e : Export). bytes_eq e.symbol.name name) (map left es) ≡ option_map left (find (λ (e : Export). bytes_eq e.symbol.name name) es)
          → (if b then Some (left e) else find (λ (e : Export). bytes_eq e.symbol.name name) (map left es)) ≡ option_map left (if b then Some e else find (λ (e : Export). bytes_eq e.symbol.name name) es)
      go true ih = refl
      go false ih = ih

  -- a name means the same definition
  chosen_left : (name : List ℕ) → chosen shorter name ≡ option_map left (chosen os name)
  chosen_left name = ap (find (λ (e : Export). bytes_eq e.symbol.name name)) candidates_left ∙ found_left name (candidates os)

  object_of : (name : List ℕ) (e : Export) → chosen os name ≡ Some e → object_at os e.file ≡ e.object
  object_of name e is = sym (unwrap_or-slice_get os (e.file - 1) no_object) ∙ ap (λ o. unwrap_or o no_object) (chosen_held os name e is).object

  -- ---- the symbol of a call

  module _ (m : Map) where
    abbrev outer : Outer
    outer = outer_address shorter (globals_of starts shorter ++ shown_linker_symbols shorter m)

    -- a name has the address of the place that it means
    name_stands : (s : Symbol) (p : Place) (it : IsInText os p) → shared_place os s.name ≡ Some p → outer s ≡ Some (stands p it.section % 2 ^ 64)
    name_stands s p it e = by (chosen os s.name) refl e
      where
        address : (x : Export) → chosen os s.name ≡ Some x → place_in x.file x.symbol.definition ≡ Some p → export_address starts (left x) ≡ Some (stands p it.section % 2 ^ 64)
        address x is e =
            subst (λ (u : Object). defined_address (starts x.file) (shortened_object (its x.file) u) (shortened_definition (its x.file) u x.symbol.definition) ≡ Some (stands p it.section % 2 ^ 64))
            (object_of s.name x is) (defined x.file x.symbol.definition p it e)

        by : (f : Option Export) → chosen os s.name ≡ f → option_and_then (λ (x : Export). place_in x.file x.symbol.definition) f ≡ Some p → outer s ≡ Some (stands p it.section % 2 ^ 64)
        by None is e = absurd (cc)
        by (Some x) is e =
            ap (λ a. option_or a (unshown_address shorter s))
            (means starts shorter m s.name ∙ ap (meaning starts m s.name) (chosen_left s.name ∙ ap (option_map left) is) ∙ address x is e)

    symbol_stands : (file : ℕ) (s : Symbol) (p : Place) (it : IsInText os p) → symbol_place os file s ≡ Some p
        → symbol_address outer (starts file) (shortened_object (its file) (object_at os file)) (shortened_symbol (its file) (object_at os file) s) ≡ Some (stands p it.section % 2 ^ 64)
    symbol_stands file s p it e =
        ap (λ b. if b then own else outer (shortened_symbol (its file) (object_at os file) s)) (sure_left (its file) (object_at os file) s.binding s.definition) ∙ by (is_sure s) e
      where
        own : Option ℕ
        own = defined_address (starts file) (shortened_object (its file) (object_at os file)) (shortened_definition (its file) (object_at os file) s.definition)

        by : (b : Bool) → (if b then place_in file s.definition else shared_place os s.name) ≡ Some p
            → (if b then own else outer (shortened_symbol (its file) (object_at os file) s)) ≡ Some (stands p it.section % 2 ^ 64)
        by true e = defined file s.definition p it e
        by false e = name_stands (shortened_symbol (its file) (object_at os file) s) p it e

    pub target_stands : (i : InputSection) (q : Relocation) (p : Place) (it : IsInText os p) → object_at os i.file ≡ i.object → target_place os i q ≡ Some p
        → target outer (starts i.file) (shortened_object (its i.file) i.object) q.symbol ≡ Some (stands p it.section % 2 ^ 64)
    target_stands i q p it at e = by q.symbol e
      where
        of_symbol : (n : ℕ) (x : Option Symbol) → slice_get i.object.symbols n ≡ x → option_and_then (symbol_place os i.file) x ≡ Some p
            → option_and_then (symbol_address outer (starts i.file) (shortened_object (its i.file) i.object)) (option_map (shortened_symbol (its i.file) i.object) x) ≡ Some (stands p it.section % 2 ^ 64)
        of_symbol n None f e = absurd (cc)
        of_symbol n (Some s) f e =
            subst (λ (u : Object). symbol_address outer (starts i.file) (shortened_object (its i.file) u) (shortened_symbol (its i.file) u s) ≡ Some (stands p it.section % 2 ^ 64)) at
            (symbol_stands i.file s p it e)

        by : (o : Option ℕ) → option_and_then (λ n. option_and_then (symbol_place os i.file) (slice_get i.object.symbols n)) o ≡ Some p
            → target outer (starts i.file) (shortened_object (its i.file) i.object) o ≡ Some (stands p it.section % 2 ^ 64)
        by None e = absurd (cc)
        by (Some n) e =
            ap (option_and_then (symbol_address outer (starts i.file) (shortened_object (its i.file) i.object))) (slice_get-map (shortened_symbol (its i.file) i.object) i.object.symbols n)
            ∙ of_symbol n (slice_get i.object.symbols n) refl e
