-- The object that is made of a source's draft and symbols is that of its statements.

use Rattle.std.proofs.Common.{◌≡◌, ℕ, zero, suc, ◌+◌, ◌%◌, ◌≤◌, ◌==◌, nat_le, Bool, true, false, List, [], ◌∷◌, ◌++◌, length, map, Some, None, refl, sym, ap, ◌∙◌, subst, arith, add-one, add-zero}
use Rattle.std.proofs.lemmas.Bool.{and_parts, eq-eqb, le-leb}
use Rattle.std.proofs.lemmas.List.{length-map}
use Rattle.std.proofs.lemmas.List.Folds.{list_all-append}
use Rattle.std.specs.Global.{Vec}
use Rattle.std.specs.List.{AllByRecursion, list_all}
use Rattle.std.specs.Prelude.{⊤, ◌&&◌, if◌then◌else◌, flat_map, option_map, slice_get, slice_index, slice_index_or}
use Rattle.rv_list_laws.proofs.MapLemmas.{get_map, get_unmap}
use Rattle.rv_isa.specs.Kinds.{width_of}
use Rattle.rv_statement_laws.specs.Statement.{Statement}
use Rattle.rv_unit_laws.specs.declared.section_type.SectionType.{SectionType}
use Rattle.rv_unit_laws.specs.declared.section_type.SectionType.TheVariants as types
use Rattle.rv_unit_laws.specs.Sections.{Section as SourceSection, is_nobits_type}
use Rattle.rv_unit_laws.specs.Tables.{Tables, at_start, after, tables, opened_of, alignments_of}
use Rattle.rv_unit.specs.declared.section.Extent.{Extent}
use Rattle.rv_unit.specs.Sections.{extent_section}
use Rattle.rv_source_laws.specs.Located.{Located, located_now, located_from, has_row}
use Rattle.rv_object_types.specs.declared.relocation.Relocation.{Relocation as DeclaredRelocation}
use Rattle.rv_object_laws.specs.declared.row.Row.{Row}
use Rattle.rv_object_laws.specs.Object.{Contents, Relocation, Section, Symbol, size_of}
use Rattle.rv_object_laws.specs.Valid.{are_paddings, is_below, is_even, is_loaded_alone, fit_inside, are_indexed, are_defined, is_row_in, are_rows, is_section_alignment}
use Rattle.rv_assemble_laws.specs.Refusals.{statements_fault}
use Rattle.rv_assemble_laws.proofs.FaultlessLemmas.{no_first_fault}
use Rattle.rv_assemble_laws.specs.LaidStatements.{LaidStatement, expression_value, HasSize, part_bytes, parts, laid_in, end_of}
use Rattle.rv_assemble_laws.specs.Symbols.{references, symbols_of}
use Rattle.rv_assemble_laws.specs.IsObjectOf.{IsObjectOf, ArePartsNumbered, Numbering, relocations_from, contents_of, IsNumbered, IsSectionOf, AreSectionsOf, row_of, rows_at}
use Rattle.rv_assemble_laws.specs.Fields.{Field}
use Rattle.rv_assemble_laws.proofs.FilledLemmas.{filled}
use Rattle.rv_draft.specs.declared.draft.Draft.{Draft}
use Rattle.rv_draft.specs.Draft.{item_of, field_of, bytes_in, IsDrafted, IsDraft}
use Rattle.rv_assemble.specs.KeptNames.{OpenKept}
use Rattle.rv_assemble.specs.Making.{item_row, rows_from, field_relocation, relocations_in, list_of, section_by, IsMakeable, sections_by, AreEach}
use Rattle.rv_assemble.specs.Lists.{list_in}
use Rattle.rv_assemble.proofs.SettledLemmas.{IsSettled, settled, IsIn, all_in}
use Rattle.rv_assemble.proofs.FieldListsLemmas.{numbered, in_section, section_relocations, parts_numbered}
use Rattle.rv_assemble.proofs.AlignmentsLemmas.{aligned}
use Rattle.rv_assemble_laws.proofs.OpenedNamesLemmas.{sections_named}
use Rattle.rv_assemble_laws.proofs.IsObjectOfLemmas.{stored_size}
use Rattle.rv_symbols.proofs.NamingLemmas.{name_is_string}
use Rattle.rv_assemble.proofs.NamesKeptLemmas.{names_kept, kept_by}
use Rattle.rv_assemble.proofs.EvenCodeLemmas.{parts_even, end_even, ends_within}
use Rattle.rv_assemble.proofs.CodeFitsLemmas.{Holds, all_fit}
use Rattle.rv_assemble.proofs.FieldsInsideLemmas.{none_in_nobits, parts_within, paddings_lie}
use Rattle.rv_assemble.proofs.IndexedLemmas.{parts_indexed, symbols_stand}

-- ---- relocations

-- those of a section, where each field's number is that of its symbol
fields_numbered : (number : Numbering) (j : ℕ) (fs : List Field) → relocations_in j fs (map (λ f. option_map (number f.ordinal) f.symbol) fs) ≡ map (numbered number) (in_section j fs)
fields_numbered number j [] = refl
fields_numbered number j (f ∷ fs) = go (f.section == j) (fields_numbered number j fs)
  where
    go : (b : Bool) → relocations_in j fs (map (λ f. option_map (number f.ordinal) f.symbol) fs) ≡ map (numbered number) (in_section j fs)
        → (if b then field_relocation f (option_map (number f.ordinal) f.symbol) ∷ [] else []) ++ relocations_in j fs (map (λ f. option_map (number f.ordinal) f.symbol) fs)
        ≡ map (numbered number) (if b then f ∷ in_section j fs else in_section j fs)
    go true e = ap (λ l. numbered number f ∷ l) e
    go false e = e

-- ---- contents

contents_same : (kind : SectionType) (stop end : ℕ) (bytes full : List ℕ) → stop ≡ end → bytes ≡ (if is_nobits_type kind then [] else full) → contents_of kind stop bytes ≡ contents_of kind end full
contents_same types.Progbits stop end bytes full e f = ap (contents_of types.Progbits stop) f
contents_same types.Note stop end bytes full e f = ap (contents_of types.Note stop) f
contents_same types.Nobits stop end bytes full e f = ap (λ n. contents_of types.Nobits n []) e

-- ---- what every section keeps

even_by : (executable : Bool) (c : Contents) (end : ℕ) → size_of c ≡ end → (executable ≡ true → end % 2 ≡ 0) → is_even executable c ≡ true
even_by true c end e f = eq-eqb (size_of c % 2) 0 (ap (λ n. n % 2) e ∙ f refl)
even_by false c end e f = refl

alone_by : (loaded : Bool) (rs : List Relocation) → is_loaded_alone loaded (if loaded then rs else []) ≡ true
alone_by true rs = refl
alone_by false rs = refl

pub fit_none : (c : Contents) (rs : List Relocation) → rs ≡ [] → fit_inside c rs ≡ true
fit_none c rs e = ap (fit_inside c) e

pub inside_by : (kind : SectionType) (end : ℕ) (full : List ℕ) (rs : List Relocation) → (is_nobits_type kind ≡ true → rs ≡ [])
    → list_all (λ r. nat_le (r.place + width_of r.kind) (length full)) rs ≡ true → fit_inside (contents_of kind end full) rs ≡ true
inside_by types.Progbits end full rs none fits = fits
inside_by types.Note end full rs none fits = fits
inside_by types.Nobits end full rs none fits = fit_none (contents_of types.Nobits end full) rs (none refl)

-- ---- a list of sections, one by one

-- what holds of each section with its index and its extent
abbrev AllAt : (ℕ → Extent → Section → Type 0) → ℕ → List Extent → List Section → Type 0
AllAt Q k [] [] = ⊤
AllAt Q k [] (x ∷ xs) = ⊥
AllAt Q k (e ∷ es) [] = ⊥
AllAt Q k (e ∷ es) (x ∷ xs) = Q k e x × AllAt Q (suc k) es xs

-- the section of an index
abbrev section_at : List Extent → List ℕ → List (Vec ℕ) → List (Vec DeclaredRelocation) → ℕ → Extent → Section
section_at es ns bs rs k e = section_by (extent_section e) e.alignment (slice_index ns k) (bytes_in bs k) (list_in rs k)

all_at : (Q : ℕ → Extent → Section → Type 0) (k : ℕ) (es : List Extent) (ns : List ℕ) (bs : List (Vec ℕ)) (rs : List (Vec DeclaredRelocation)) → AreEach es ns bs rs
    → ((j : ℕ) (e : Extent) → slice_get es j ≡ Some e → Q (k + j) e (section_at es ns bs rs j e)) → AllAt Q k es (sections_by es ns bs rs)
all_at Q k [] ns bs rs each h = tt
all_at Q k (e ∷ es) [] bs rs (a, b, c) h = absurd (omega (arith, a))
all_at Q k (e ∷ es) (n ∷ ns) [] rs (a, b, c) h = absurd (omega (arith, b))
all_at Q k (e ∷ es) (n ∷ ns) (v ∷ vs) [] (a, b, c) h = absurd (omega (arith, c))
all_at Q k (e ∷ es) (n ∷ ns) (v ∷ vs) (r ∷ rs) (a, b, c) h = (
  subst (λ i. Q i e (section_by (extent_section e) e.alignment n v.items (list_of r))) (add-zero k) (h 0 e refl),
  all_at Q (suc k) es ns vs rs (omega (arith, a), omega (arith, b), omega (arith, c))
      (λ j x at. subst (λ i. Q i x (section_at es ns vs rs j x)) (let f : k + suc j ≡ suc k + j = omega arith in f) (h (suc j) x at)),
)

-- those of each extent, by its index
found_at : (es : List Extent) (ns : List ℕ) (bs : List (Vec ℕ)) (rs : List (Vec DeclaredRelocation)) → AreEach es ns bs rs → (j : ℕ) (e : Extent) → slice_get es j ≡ Some e
    → slice_get (sections_by es ns bs rs) j ≡ Some (section_at es ns bs rs j e)
found_at [] ns bs rs each j e at = absurd (cc)
found_at (x ∷ es) [] bs rs (a, b, c) j e at = absurd (omega (arith, a))
found_at (x ∷ es) (n ∷ ns) [] rs (a, b, c) j e at = absurd (omega (arith, b))
found_at (x ∷ es) (n ∷ ns) (v ∷ vs) [] (a, b, c) j e at = absurd (omega (arith, c))
found_at (x ∷ es) (n ∷ ns) (v ∷ vs) (r ∷ rs) each zero e at =
    let same : x ≡ e = cc in ap (λ (y : Extent). Some (section_by (extent_section y) y.alignment n v.items (list_of r))) same
found_at (x ∷ es) (n ∷ ns) (v ∷ vs) (r ∷ rs) (a, b, c) (suc j) e at = found_at es ns vs rs (omega (arith, a), omega (arith, b), omega (arith, c)) j e at

sections_count : (es : List Extent) (ns : List ℕ) (bs : List (Vec ℕ)) (rs : List (Vec DeclaredRelocation)) → AreEach es ns bs rs → length (sections_by es ns bs rs) ≡ length es
sections_count [] ns bs rs each = refl
sections_count (x ∷ es) [] bs rs (a, b, c) = absurd (omega (arith, a))
sections_count (x ∷ es) (n ∷ ns) [] rs (a, b, c) = absurd (omega (arith, b))
sections_count (x ∷ es) (n ∷ ns) (v ∷ vs) [] (a, b, c) = absurd (omega (arith, c))
sections_count (x ∷ es) (n ∷ ns) (v ∷ vs) (r ∷ rs) (a, b, c) = ap suc (sections_count es ns vs rs (omega (arith, a), omega (arith, b), omega (arith, c)))

read_map : (xs : List Extent) (j : ℕ) (x : Extent) → slice_get xs j ≡ Some x → slice_index_or (map (λ (e : Extent). e.alignment) xs) j 1 ≡ x.alignment
read_map [] j x e = absurd (cc)
read_map (y ∷ ys) zero x e = let same : y ≡ x = cc in ap (λ (z : Extent). z.alignment) same
read_map (y ∷ ys) (suc j) x e = read_map ys j x e

-- ---- lists of statements

-- what holds of the statements of each section holds of all
all_from : (P : ℕ → LaidStatement → Type 0) (laid : List LaidStatement) → ((j : ℕ) → AllByRecursion (P j) (laid_in j laid)) → AllByRecursion (λ s. P s.located.section s) laid
all_from P [] h = tt
all_from P (s ∷ ss) h = (own (s.located.section == s.located.section) (eq-eqb s.located.section s.located.section refl) (h s.located.section), all_from P ss (λ j. rest (s.located.section == j) j (h j)))
  where
    own : (b : Bool) → b ≡ true → AllByRecursion (P s.located.section) (if b then s ∷ laid_in s.located.section ss else laid_in s.located.section ss) → P s.located.section s
    own true e k = k.0
    own false e k = absurd (cc)

    rest : (b : Bool) (j : ℕ) → AllByRecursion (P j) (if b then s ∷ laid_in j ss else laid_in j ss) → AllByRecursion (P j) (laid_in j ss)
    rest true j k = k.1
    rest false j k = k

-- ---- rows

rows_are : (k : ℕ) (t : Tables) (ss : List Statement) (laid : List LaidStatement) → map (λ s. s.located) laid ≡ located_from 1 k t ss → rows_from k (map item_of laid) ≡ flat_map rows_at laid
rows_are k t [] [] e = refl
rows_are k t (x ∷ ss) [] e = absurd (cc)
rows_are k t [] (s ∷ laid) e = absurd (cc)
rows_are k t (x ∷ ss) (s ∷ laid) e =
    let own : s.located ≡ located_now 1 k t x = cc in
    let later : map (λ (s : LaidStatement). s.located) laid ≡ located_from 1 (suc k) (after t k x.kind) ss = cc in
    let number : s.located.ordinal ≡ k = ap (λ (l : Located). l.ordinal) own in
    ap (λ n. (if has_row s.located then item_row n (item_of s) ∷ [] else []) ++ rows_from (k + 1) (map item_of laid)) (sym number)
    ∙ ap (λ l. rows_at s ++ l) (ap (λ n. rows_from n (map item_of laid)) (add-one k) ∙ rows_are (suc k) (after t k x.kind) ss laid later)

all_given : (A : Extent → Type 0) (Q : LaidStatement → Type 0) (laid : List LaidStatement) → ((e : Extent) → A e → AllByRecursion Q laid) → AllByRecursion (λ s. (e : Extent) → A e → Q s) laid
all_given A Q [] f = tt
all_given A Q (s ∷ ss) f = (λ e a. (f e a).0, all_given A Q ss (λ e a. (f e a).1))

from_at : (P : Section → Type 0) (k : ℕ) (es : List Extent) (xs : List Section) → AllAt (λ k e x. P x) k es xs → AllByRecursion P xs
from_at P k [] [] h = tt
from_at P k [] (x ∷ xs) h = absurd h
from_at P k (e ∷ es) [] h = tt
from_at P k (e ∷ es) (x ∷ xs) (h, hs) = (h, from_at P (suc k) es xs hs)

tested : (q : Section → Bool) (xs : List Section) → AllByRecursion (λ x. q x ≡ true) xs → list_all q xs ≡ true
tested q [] h = refl
tested q (x ∷ xs) (h, hs) = ap (λ b. b && list_all q xs) h ∙ tested q xs hs

of_sections : (t : Tables) (all : List LaidStatement) (number : Numbering) (symbols : List Symbol) (k : ℕ) (es : List Extent) (xs : List Section)
    → AllAt (λ k e x. IsSectionOf t all number symbols k (extent_section e) (laid_in k all) x) k es xs → AreSectionsOf t all number symbols k (map extent_section es) xs
of_sections t all number symbols k [] [] h = tt
of_sections t all number symbols k [] (x ∷ xs) h = absurd h
of_sections t all number symbols k (e ∷ es) [] h = absurd h
of_sections t all number symbols k (e ∷ es) (x ∷ xs) (h, hs) = (h, of_sections t all number symbols (suc k) es xs hs)

module _ (ss : List Statement) (d : Draft) (extents : List Extent) (lists : List (Vec DeclaredRelocation)) (number : Numbering) (h : IsDraft ss d) (good : statements_fault ss ≡ None) (kept : OpenKept ss)
    (opened : map extent_section extents ≡ (opened_of (tables ss)).sections) (alignments : map (λ (e : Extent). e.alignment) extents ≡ alignments_of (tables ss)) (counted : length lists ≡ length extents)
    (listed : (j : ℕ) → list_in lists j ≡ relocations_in j (map field_of d.fields.items) (map (λ f. option_map (number f.ordinal) f.symbol) (map field_of d.fields.items)))
    (numbers : AllByRecursion (IsNumbered (tables ss) h.laid number (symbols_of (tables ss) h.laid)) (references (tables ss) h.laid)) where
  abbrev t : Tables
  t = tables ss

  abbrev symbols : List Symbol
  symbols = symbols_of t h.laid

  all_settled : AllByRecursion (IsSettled (opened_of t).sections) h.laid
  all_settled = settled ss h.laid (no_first_fault ss good) h.located

  pub are_each : AreEach extents d.ends.items d.sections.items lists
  are_each =
      let count : length (opened_of t).sections ≡ length extents = ap length (sym opened) ∙ length-map extents extent_section in
      (h.ended ∙ count, h.counted ∙ count, counted)

  -- one section
  module _ (j : ℕ) (e : Extent) (at : slice_get extents j ≡ Some e) where
    abbrev home : SourceSection
    home = extent_section e

    abbrev laid : List LaidStatement
    laid = laid_in j h.laid

    abbrev full : List ℕ
    full = flat_map part_bytes (parts t laid)

    abbrev stop : ℕ
    stop = end_of 0 laid

    abbrev made : Section
    made = section_at extents d.ends.items d.sections.items lists j e

    there : slice_get (opened_of t).sections j ≡ Some home
    there = ap (λ l. slice_get l j) (sym opened) ∙ get_map extent_section extents j e at

    drafted : IsDrafted t j home laid d
    drafted = h.each j home there

    inside : AllByRecursion (IsIn home) laid
    inside = all_in (opened_of t).sections j home there h.laid all_settled

    alignment : slice_index_or (alignments_of t) j 1 ≡ e.alignment
    alignment = ap (λ l. slice_index_or l j 1) (sym alignments) ∙ read_map extents j e at

    relocations : list_in lists j ≡ (if home.loaded then relocations_from number 0 (parts t laid) else [])
    relocations =
        listed j ∙ fields_numbered number j (map field_of d.fields.items) ∙ ap (λ l. map (numbered number) (in_section j l)) h.open_fields
        ∙ section_relocations t number (opened_of t).sections j home there 0 h.laid all_settled drafted.tile

    contents : made.contents ≡ contents_of home.section_type stop full
    contents = contents_same home.section_type (slice_index d.ends.items j) stop (bytes_in d.sections.items j) full drafted.stop drafted.bytes

    ends : stop ≡ length full
    ends = filled t 0 laid drafted.tile ∙ (let f : 0 + length full ≡ length full = omega arith in f)

    size : size_of made.contents ≡ stop
    size = ap size_of contents ∙ stored_size home.section_type stop full ends

    are_numbered : home.loaded ≡ true → ArePartsNumbered t h.laid number symbols (parts t laid)
    are_numbered loaded = parts_numbered t h.laid number symbols (opened_of t).sections j home there loaded h.laid all_settled numbers

    is_section : IsSectionOf t h.laid number symbols j home laid made
    is_section = record {
      name = refl;
      loaded = refl;
      executable = refl;
      writable = refl;
      alignment = sym alignment;
      some = subst (λ n. 1 ≤ n) alignment drafted.some;
      tile = drafted.tile;
      contents = contents;
      code = drafted.code;
      relocations = relocations;
      numbered = are_numbered;
      sizes = subst (λ n. AllByRecursion (λ s. s.located.placed ≡ true → HasSize (expression_value t s.located) s n s.located.kind) laid) alignment drafted.sizes;
      fields = drafted.templates;
      short = λ code. drafted.short;
    }

    held : AllByRecursion Holds (parts t laid)
    held = all_fit t home (slice_index_or (alignments_of t) j 1) laid inside drafted.sizes drafted.templates

    none : is_nobits_type home.section_type ≡ true → (if home.loaded then relocations_from number 0 (parts t laid) else []) ≡ []
    none e = go home.loaded refl
      where
        go : (b : Bool) → home.loaded ≡ b → ◌≡◌ {A = List Relocation} (if b then relocations_from number 0 (parts t laid) else []) []
        go true f = none_in_nobits t home number laid e inside drafted.tile (λ code. drafted.code (ap (λ b. b && home.executable) f ∙ code) e)
        go false f = refl

    fits : list_all (λ r. nat_le (r.place + width_of r.kind) (length full)) (if home.loaded then relocations_from number 0 (parts t laid) else []) ≡ true
    fits = go home.loaded
      where
        go : (b : Bool) → list_all (λ r. nat_le (r.place + width_of r.kind) (length full)) (if b then relocations_from number 0 (parts t laid) else []) ≡ true
        go true = parts_within number 0 (length full) (parts t laid) held (let f : 0 + length full ≤ length full = omega arith in f)
        go false = refl

    is_makeable : IsMakeable made
    is_makeable = record {
      named = name_is_string home.name (sections_named ss j home kept.1 there);
      kept = kept_by made.contents home.name (names_kept ss j home kept.0 there);
      aligned = subst (λ n. is_section_alignment n ≡ true) alignment (aligned ss j);
      even = even_by home.executable made.contents stop size (λ code. end_even t home (slice_index_or (alignments_of t) j 1) laid code inside drafted.sizes drafted.tile);
      alone = ap (is_loaded_alone home.loaded) relocations ∙ alone_by home.loaded (relocations_from number 0 (parts t laid));
      inside = ap (fit_inside made.contents) relocations ∙ ap (λ c. fit_inside c (if home.loaded then relocations_from number 0 (parts t laid) else [])) contents
          ∙ inside_by home.section_type stop full (if home.loaded then relocations_from number 0 (parts t laid) else []) none fits;
      paddings = ap (are_paddings home.executable made.contents) relocations
          ∙ paddings_lie number home.executable made.contents home.loaded (parts t laid) held
          (λ code. parts_even t home (slice_index_or (alignments_of t) j 1) laid code inside drafted.sizes)
          (let e = size in let f = ends in omega (arith, e, f));
    }

    is_indexed : list_all (λ (r : Relocation). is_below (length symbols) r.symbol) made.relocations ≡ true
    is_indexed = ap (list_all (λ (r : Relocation). is_below (length symbols) r.symbol)) relocations ∙ go home.loaded refl
      where
        go : (b : Bool) → home.loaded ≡ b → list_all (λ (r : Relocation). is_below (length symbols) r.symbol) (if b then relocations_from number 0 (parts t laid) else []) ≡ true
        go true e = parts_indexed t h.laid number symbols 0 (parts t laid) (are_numbered e)
        go false e = refl

  -- all of them
  every : (Q : ℕ → Extent → Section → Type 0) → ((j : ℕ) (e : Extent) → slice_get extents j ≡ Some e → Q j e (section_at extents d.ends.items d.sections.items lists j e))
      → AllAt Q 0 extents (sections_by extents d.ends.items d.sections.items lists)
  every Q f =
      all_at Q 0 extents d.ends.items d.sections.items lists are_each
      (λ j e at. subst (λ i. Q i e (section_at extents d.ends.items d.sections.items lists j e)) (let g : j ≡ 0 + j = omega arith in g) (f j e at))

  pub are_makeable : AllByRecursion IsMakeable (sections_by extents d.ends.items d.sections.items lists)
  are_makeable = from_at IsMakeable 0 extents (sections_by extents d.ends.items d.sections.items lists) (every (λ k e x. IsMakeable x) is_makeable)

  pub indexed : are_indexed symbols (sections_by extents d.ends.items d.sections.items lists) ≡ true
  indexed =
      tested (λ (s : Section). list_all (λ (r : Relocation). is_below (length symbols) r.symbol) s.relocations) (sections_by extents d.ends.items d.sections.items lists)
      (from_at (λ (s : Section). list_all (λ (r : Relocation). is_below (length symbols) r.symbol) s.relocations ≡ true) 0 extents (sections_by extents d.ends.items d.sections.items lists)
      (every (λ k e x. list_all (λ (r : Relocation). is_below (length symbols) r.symbol) x.relocations ≡ true) is_indexed))

  count : length (opened_of t).sections ≡ length (sections_by extents d.ends.items d.sections.items lists)
  count = ap length (sym opened) ∙ length-map extents extent_section ∙ sym (sections_count extents d.ends.items d.sections.items lists are_each)

  pub defined : are_defined (sections_by extents d.ends.items d.sections.items lists) symbols ≡ true
  defined = symbols_stand t (opened_of t).sections (length (sections_by extents d.ends.items d.sections.items lists)) count h.laid all_settled

  abbrev Ends : ℕ → LaidStatement → Type 0
  Ends j s = (e : Extent) → slice_get extents j ≡ Some e → s.offset + s.bytes ≤ end_of 0 (laid_in j h.laid)

  ends_inside : AllByRecursion (λ s. Ends s.located.section s) h.laid
  ends_inside =
      all_from Ends h.laid
      (λ j. all_given (λ e. slice_get extents j ≡ Some e) (λ s. s.offset + s.bytes ≤ end_of 0 (laid_in j h.laid)) (laid_in j h.laid)
      (λ e at. ends_within t 0 (laid_in j h.laid) (drafted j e at).tile (end_of 0 (laid_in j h.laid)) refl))

  abbrev Lies : Row → Bool
  Lies r = is_row_in r (slice_get (sections_by extents d.ends.items d.sections.items lists) r.section)

  row_lies : (s : LaidStatement) → IsSettled (opened_of t).sections s → Ends s.located.section s → list_all Lies (rows_at s) ≡ true
  row_lies s k l = go (has_row s.located) refl
    where
      shown : has_row s.located ≡ true → Lies (row_of s) ≡ true
      shown e =
          let j = s.located.section in
          let (x, at, is) = get_unmap extent_section extents j s.located.home (ap (λ l. slice_get l j) opened ∙ k.home) in
          let found = found_at extents d.ends.items d.sections.items lists are_each j x at in
          let loaded : (extent_section x).loaded ≡ true = ap (λ (q : SourceSection). q.loaded) is ∙ (and_parts s.located.placed s.located.home.loaded e).1 in
          let fit : nat_le (s.offset + s.bytes) (size_of (section_at extents d.ends.items d.sections.items lists j x).contents) ≡ true =
          ap (λ n. nat_le (s.offset + s.bytes) n) (size j x at) ∙ le-leb (s.offset + s.bytes) (end_of 0 (laid_in j h.laid)) (l x at) in
          ap (is_row_in (row_of s)) found ∙ ap (λ b. b && nat_le (s.offset + s.bytes) (size_of (section_at extents d.ends.items d.sections.items lists j x).contents)) loaded ∙ fit

      go : (b : Bool) → has_row s.located ≡ b → list_all Lies (if b then row_of s ∷ [] else []) ≡ true
      go true e = ap (λ b. b && true) (shown e)
      go false e = refl

  rows_lie : (laid : List LaidStatement) → AllByRecursion (IsSettled (opened_of t).sections) laid → AllByRecursion (λ s. Ends s.located.section s) laid → list_all Lies (flat_map rows_at laid) ≡ true
  rows_lie [] k l = refl
  rows_lie (s ∷ laid) (k, ks) (l, ls) =
      list_all-append Lies (rows_at s) (flat_map rows_at laid) ∙ ap (λ b. b && list_all Lies (flat_map rows_at laid)) (row_lies s k l) ∙ rows_lie laid ks ls

  rows : rows_from 1 d.items.items ≡ flat_map rows_at h.laid
  rows = ap (rows_from 1) (sym h.stand) ∙ rows_are 1 (at_start ss) ss h.laid h.located

  pub lie : are_rows (sections_by extents d.ends.items d.sections.items lists) (rows_from 1 d.items.items) ≡ true
  lie = ap (are_rows (sections_by extents d.ends.items d.sections.items lists)) rows ∙ rows_lie h.laid all_settled ends_inside

  pub is_object : IsObjectOf ss (record { sections = sections_by extents d.ends.items d.sections.items lists; symbols = symbols; rows = rows_from 1 d.items.items; rvc = d.rvc })
  is_object = record {
    good = good;
    laid = h.laid;
    located = h.located;
    places = h.places;
    least = h.least;
    number = number;
    sections = subst (λ l. AreSectionsOf t h.laid number symbols 0 l (sections_by extents d.ends.items d.sections.items lists)) opened
        (of_sections t h.laid number symbols 0 extents (sections_by extents d.ends.items d.sections.items lists)
        (every (λ k e x. IsSectionOf t h.laid number symbols k (extent_section e) (laid_in k h.laid) x) is_section));
    symbols = refl;
    rows = rows;
    rvc = h.compressed;
  }
