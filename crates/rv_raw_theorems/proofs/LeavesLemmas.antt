-- Collection and relaxation leave a raw listing's object as it is: its one section is the entry's, and none of its relocations is a call.

use Rattle.std.proofs.Common.{◌≡◌, ℕ, zero, suc, ◌+◌, ◌-◌, ◌%◌, Bool, true, false, not, List, [], ◌∷◌, ◌++◌, map, Some, None, refl, sym, ◌∙◌, ap, subst, arith}
use Rattle.std.specs.Prelude.{◌&&◌, ◌==◌, nat_lt, if◌then◌else◌, filter, option_and_then}
use Rattle.std.specs.List.{AllByRecursion, slice_get}
use Rattle.std.proofs.lemmas.Bool.{eq-eqb}
use Rattle.rv_isa.specs.declared.kind.Kind.{Kind}
use Rattle.rv_isa.specs.declared.kind.Kind.TheVariants as kinds
use Rattle.rv_map_laws.specs.declared.map.SectionId.{SectionId}
use Rattle.rv_collect_laws.specs.Graph.{outside, is_one_of}
use Rattle.rv_object_laws.specs.declared.symbol.Definition.{Definition}
use Rattle.rv_object_laws.specs.declared.symbol.Definition.TheVariants as definitions
use Rattle.rv_object_laws.specs.declared.row.Row.{Row}
use Rattle.rv_object_laws.specs.Object.{Contents, Progbits, Note, Nobits, Relocation, Section, Symbol, Object}
use Rattle.rv_link_laws.specs.CallSites.{is_call, in_order}
use Rattle.rv_link_laws.specs.Collects.{Collects, entry_place, run_place, lies_in, loaded_sections, id_of}
use Rattle.rv_link_laws.specs.Inputs.{InputSection, goes_to_text, inputs_from, inputs}
use Rattle.rv_link_laws.specs.IsLinkOf.{is_loaded}
use Rattle.rv_link_laws.specs.IsProgramOf.{Leaves}
use Rattle.rv_link_laws.specs.Moves.{Move, new_offset, lost}
use Rattle.rv_link_laws.specs.Names.{is_in_text, begins_run}
use Rattle.rv_link_laws.specs.Shortened.{Sizes, sizes_by, is_shortened, cut, cuts, shortened_kind, shortened_relocation, shortened_contents, shortened_text, shortened_section, shortened_sections, cuts_at, cuts_in, shortened_definition, shortened_symbol, shortened_row, shortened_object, Relaxes}
use Rattle.rv_link_laws.specs.Without.{without}
use Rattle.rv_link_laws.proofs.WithoutLemmas.{without_none}
use Rattle.rv_raw_theorems.proofs.OperandRangesLemmas.{leads}
use Rattle.rv_raw_theorems.proofs.FieldsLemmas.{IsLeading}
use Rattle.rv_raw_theorems.proofs.SymbolsLemmas.{entry_at, IsEntered}

-- ---- one section

module _ (o : Object) (x : Section) (alone : o.sections ≡ x ∷ []) where
  abbrev pub input : InputSection
  input = record { file = 1; object = o; index = 0; section = x }

  pub inputs_one : (goes : Section → Bool) → goes x ≡ true → inputs goes (o ∷ []) ≡ input ∷ []
  inputs_one goes e = ap (λ ss. inputs_from goes 1 o 0 ss ++ []) alone ∙ ap (λ b. (if b then input ∷ [] else []) ++ []) e

  pub inputs_none : (goes : Section → Bool) → goes x ≡ false → inputs goes (o ∷ []) ≡ []
  inputs_none goes e = ap (λ ss. inputs_from goes 1 o 0 ss ++ []) alone ∙ ap (λ b. (if b then input ∷ [] else []) ++ []) e

  -- ---- collection

  abbrev first : SectionId
  first = record { file = 1; section = 1 }

  pub begins : goes_to_text x ≡ true → (e : IsEntered o) → begins_run (entry_at o e.index e.offset) ≡ true
  begins text e =
      ap (λ s. is_in_text s && (e.offset % 2 == 0)) (ap (λ ss. slice_get ss 0) alone) ∙ ap (λ b. b && (e.offset % 2 == 0)) text ∙ eq-eqb (e.offset % 2) 0 e.even

  entry_is : goes_to_text x ≡ true → (e : IsEntered o) → entry_place (o ∷ []) ≡ Some (record { file = 1; section = 0; offset = e.offset })
  entry_is text e =
      ap (option_and_then run_place) e.means
      ∙ ap (λ b. if b then Some (record { file = 1; section = 0; offset = e.offset }) else None) (begins text e)

  pub nothing_dropped : is_loaded x ≡ true → goes_to_text x ≡ true → IsEntered o → (gc : Bool) (drops : List SectionId) → Collects gc (o ∷ []) drops → drops ≡ []
  nothing_dropped loaded text e false drops h = h
  nothing_dropped loaded text e true drops (marks, least, is) =
      let sections : loaded_sections (o ∷ []) ≡ first ∷ [] = ap (map id_of) (inputs_one is_loaded loaded) in
      let has : is_one_of (loaded_sections (o ∷ [])) (first) ≡ true = ap (λ l. is_one_of l (first)) sections in
      let begin : lies_in (first) (entry_place (o ∷ [])) ≡ true = ap (lies_in (first)) (entry_is text e) in
      let marked : marks (first) ≡ true = least.closed.first (first) has begin in
      is ∙ ap (outside marks) sections ∙ ap (λ b. if not b then first ∷ [] else []) marked

  -- ---- relaxation

  no_call : (k : Kind) → leads k ≡ true → is_call k ≡ false
  no_call k h = grind arith

  module _ (lead : AllByRecursion (IsLeading o.symbols) x.relocations) where
    uncut : (sizes : Sizes) (r : Relocation) → IsLeading o.symbols r → is_shortened sizes r ≡ false
    uncut sizes r l = ap (λ b. b && nat_lt (sizes r.place) 8) (no_call r.kind l.leads_there)

    none_short : (sizes : Sizes) (rs : List Relocation) → AllByRecursion (IsLeading o.symbols) rs → filter (is_shortened sizes) rs ≡ []
    none_short sizes [] h = refl
    none_short sizes (r ∷ rs) (one, h) = ap (λ b. if b then r ∷ filter (is_shortened sizes) rs else filter (is_shortened sizes) rs) (uncut sizes r one) ∙ none_short sizes rs h

    no_cuts : (sizes : Sizes) → cuts sizes x ≡ []
    no_cuts sizes = by (goes_to_text x)
      where
        by : (b : Bool) → (if b then map (cut sizes x) (in_order (filter (is_shortened sizes) x.relocations)) else []) ≡ []
        by true = ap (λ rs. map (cut sizes x) (in_order rs)) (none_short sizes x.relocations lead)
        by false = refl

    stays : (n : ℕ) → new_offset [] n ≡ n
    stays n = omega arith

    same_contents : (c : Contents) → shortened_contents [] c ≡ c
    same_contents (Progbits bytes) = refl
    same_contents (Note bytes) = refl
    same_contents (Nobits size) = refl

    same_relocation : (sizes : Sizes) (r : Relocation) → IsLeading o.symbols r → shortened_relocation sizes [] r ≡ r
    same_relocation sizes r l =
        ap (λ n. record { place = n; kind = shortened_kind sizes r; symbol = r.symbol; addend = r.addend }) (stays r.place)
        ∙ ap (λ b. record { place = r.place; kind = if b then (if sizes r.place == 2 then kinds.RvcJump else kinds.Jal) else r.kind; symbol = r.symbol; addend = r.addend }) (uncut sizes r l)

    same_relocations : (sizes : Sizes) (rs : List Relocation) → AllByRecursion (IsLeading o.symbols) rs → map (shortened_relocation sizes []) rs ≡ rs
    same_relocations sizes [] h = refl
    same_relocations sizes (r ∷ rs) (one, h) = ap (λ q. q ∷ map (shortened_relocation sizes []) rs) (same_relocation sizes r one) ∙ ap (λ l. r ∷ l) (same_relocations sizes rs h)

    same_text : (sizes : Sizes) → shortened_text sizes x ≡ x
    same_text sizes =
        ap (λ ms. record x { contents = shortened_contents ms x.contents; relocations = map (shortened_relocation sizes ms) x.relocations }) (no_cuts sizes)
        ∙ ap (λ c. record x { contents = c; relocations = map (shortened_relocation sizes []) x.relocations }) (same_contents x.contents)
        ∙ ap (λ rs. record x { relocations = rs }) (same_relocations sizes x.relocations lead)

    same_section : (sizes : Sizes) → shortened_section sizes x ≡ x
    same_section sizes = by (goes_to_text x)
      where
        by : (b : Bool) → (if b then shortened_text sizes x else x) ≡ x
        by true = same_text sizes
        by false = refl

    no_cuts_at : (sizes : Sizes) (index : ℕ) → cuts_at sizes (slice_get (x ∷ []) index) ≡ []
    no_cuts_at sizes zero = no_cuts sizes
    no_cuts_at sizes (suc index) = refl

    no_cuts_in : (sizes : ℕ → Sizes) (index : ℕ) → cuts_in sizes o index ≡ []
    no_cuts_in sizes index = ap (λ ss. cuts_at (sizes index) (slice_get ss index)) alone ∙ no_cuts_at (sizes index) index

    same_definition : (sizes : ℕ → Sizes) (d : Definition) → shortened_definition sizes o d ≡ d
    same_definition sizes (definitions.InSection section offset) =
        ap (λ ms. definitions.InSection section (new_offset ms offset)) (no_cuts_in sizes section) ∙ ap (definitions.InSection section) (stays offset)
    same_definition sizes definitions.Undefined = refl
    same_definition sizes (definitions.Absolute n) = refl
    same_definition sizes (definitions.Skipped n) = refl

    same_symbols : (sizes : ℕ → Sizes) (ss : List Symbol) → map (shortened_symbol sizes o) ss ≡ ss
    same_symbols sizes [] = refl
    same_symbols sizes (s ∷ ss) = ap (λ d. record s { definition = d } ∷ map (shortened_symbol sizes o) ss) (same_definition sizes s.definition) ∙ ap (λ l. s ∷ l) (same_symbols sizes ss)

    abbrev row_by : List Move → Row → Row
    row_by ms r = record r { offset = new_offset ms r.offset; bytes = new_offset ms (r.offset + r.bytes) - new_offset ms r.offset; instructions = r.instructions - lost ms r.offset r.bytes }

    same_row : (r : Row) → row_by [] r ≡ r
    same_row r =
        ap (λ n. record r { offset = n; bytes = new_offset [] (r.offset + r.bytes) - new_offset [] r.offset; instructions = r.instructions - 0 }) (omega arith)
        ∙ ap (λ n. record r { bytes = n; instructions = r.instructions - 0 }) (omega arith)
        ∙ ap (λ n. record r { instructions = n }) (omega arith)

    same_rows : (sizes : ℕ → Sizes) (rs : List Row) → map (shortened_row sizes o) rs ≡ rs
    same_rows sizes [] = refl
    same_rows sizes (r ∷ rs) =
        ap (λ ms. row_by ms r ∷ map (shortened_row sizes o) rs) (no_cuts_in sizes r.section)
        ∙ ap (λ q. q ∷ map (shortened_row sizes o) rs) (same_row r)
        ∙ ap (λ l. r ∷ l) (same_rows sizes rs)

    same_object : (sizes : ℕ → Sizes) → shortened_object sizes o ≡ o
    same_object sizes =
        ap (λ l. record { sections = l; symbols = map (shortened_symbol sizes o) o.symbols; rows = map (shortened_row sizes o) o.rows; rvc = o.rvc })
        (ap (shortened_sections sizes 0) alone ∙ ap (λ s. s ∷ []) (same_section (sizes 0)) ∙ sym alone)
        ∙ ap (λ l. record o { symbols = l; rows = map (shortened_row sizes o) o.rows }) (same_symbols sizes o.symbols)
        ∙ ap (λ l. record o { rows = l }) (same_rows sizes o.rows)

    nothing_relaxed : (relax : Bool) (left : List Object) → Relaxes relax (o ∷ []) left → left ≡ o ∷ []
    nothing_relaxed false left h = h
    nothing_relaxed true left (sizes, greatest, is) = is ∙ ap (λ q. q ∷ []) (same_object (sizes_by (o ∷ []) sizes 1))

    -- ---- both

    pub left_is : is_loaded x ≡ true → goes_to_text x ≡ true → IsEntered o → (relax gc : Bool) (drops : List SectionId) (left : List Object) → Leaves (o ∷ []) relax gc drops left → left ≡ o ∷ []
    left_is loaded text e relax gc drops left h =
        let none = nothing_dropped loaded text e gc drops h.collected in
        nothing_relaxed relax left (subst (λ os. Relaxes relax os left) (ap (λ d. without d (o ∷ [])) none ∙ without_none (o ∷ [])) h.relaxed)
