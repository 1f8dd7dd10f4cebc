-- The objects of sources with the linker's moves made are those of the sources, with the least paddings.

use Rattle.std.proofs.Common.{◌≡◌, ℕ, suc, ◌+◌, ◌%◌, Bool, true, false, List, [], ◌∷◌, ◌++◌, map, refl, sym, ap, ◌∙◌, subst, arith, Option, Some, None, option_map}
use Rattle.std.proofs.lemmas.Bool.{eqb-true, eq-eqb}
use Rattle.std.specs.Prelude.{◌&&◌, ◌==◌, if◌then◌else◌, filter, flat_map, bytes_eq}
use Rattle.std.specs.List.{AllByRecursion, slice_get}
use Rattle.rv_list_laws.proofs.FindLemmas.{each_find}
use Rattle.rv_list_laws.proofs.EachLemmas.{each_split, each_append, each_map}
use Rattle.rv_size_laws.specs.Alignment.{aligned}
use Rattle.rv_expression_laws.specs.Values.{Meaning, Known, InSection as InData, Open as OpenAddress, Refused, add}
use Rattle.rv_statement_laws.specs.Statement.{StatementKind, Label, Numbered, Instruction, Directs, Statement, Enters, Sets}
use Rattle.rv_unit_laws.specs.Bindings.{is_shared}
use Rattle.rv_unit_laws.specs.Sections.{Section as SourceSection, goes_to_text as source_text}
use Rattle.rv_unit_laws.specs.Tables.{Tables, Assignment, tables, is_location, assigned_ever}
use Rattle.rv_source_laws.specs.Located.{has_row}
use Rattle.rv_source_laws.specs.Exports.{names_where}
use Rattle.rv_object_laws.specs.declared.symbol.Definition.{Definition as Defined}
use Rattle.rv_object_laws.specs.declared.symbol.Definition.TheVariants.{InSection}
use Rattle.rv_object_laws.specs.declared.row.Row.{Row}
use Rattle.rv_object_laws.specs.Object.{Section, Object}
use Rattle.rv_link_laws.specs.Moves.{by_place, has_padding, new_offset, plan, moves}
use Rattle.rv_link_laws.specs.Inputs.{Starts, InputSection, goes_to_text, begins_at, inputs_from, inputs_of, start_of, size, Stand}
use Rattle.rv_link_laws.specs.Names.{is_in_text, can_begin}
use Rattle.rv_link_laws.specs.IsLinkOf.{moves_at}
use Rattle.rv_assemble_laws.specs.LaidStatements.{LaidStatement, LaidPart, laid_in}
use Rattle.rv_assemble_laws.specs.Symbols.{references_in, laid_at, after_found, assigned_definition, statement_definition, shared_symbol, exports_of}
use Rattle.rv_assemble_laws.specs.IsObjectOf.{IsNumbered, row_of, rows_at, IsInData, StandsInData}
use Rattle.rv_sources_link_theorems.proofs.sections.MaskedLemmas.{source_sections}
use Rattle.rv_sources_link_theorems.proofs.sections.AssembledLemmas.{IsSectionOf, AreSectionsOf, IsAssembled, AreAssembled}
use Rattle.rv_sources_link_theorems.proofs.statements.SettledLemmas.{IsSettled, laid_are_in, of_sections}
use Rattle.rv_sources_link_theorems.proofs.names.ExportedLemmas.{exported}
use Rattle.rv_sources_link_theorems.proofs.fields.WholesLemmas.{relocated_at}
use Rattle.rv_sources_link_theorems.proofs.sections.FiledLemmas as filed
use Rattle.rv_sources_link_theorems.proofs.statements.OrderedLemmas.{its_source}
use Rattle.rv_sources_link_theorems.proofs.moves.MovedLemmas as moved
use Rattle.rv_sources_link_theorems.proofs.moves.ShrunkLemmas as shrunk
use Rattle.rv_sources_link_theorems.proofs.moves.ShrinkingLemmas.{shrunk_section, sections_from, moves_in, shrunk_definition, shrunk_symbol, shrunk_row, shrunk_object, shrunk_objects, section_is, exported_same}
use Rattle.rv_sources_link_theorems.proofs.moves.ShrunkLinkLemmas.{IsTidy, BeginsSame, AllBegin}
use Rattle.rv_sources_link_theorems.proofs.statements.CountedLemmas.{IsCounted}
use Rattle.rv_sources_link_theorems.proofs.moves.ShrunkSectionsLemmas.{laid_with, IsLeft, left}

-- ---- a file

module _ (ss : List Statement) (o : Object) (is : IsAssembled ss o) (f : ℕ → ℕ)
    (begun : (j : ℕ) (x : Section) → slice_get o.sections j ≡ Some x → goes_to_text x ≡ true → (stop : ℕ) × (f j ≡ aligned (begins_at x) stop)) where
  abbrev t : Tables
  t = tables ss

  abbrev sections : List SourceSection
  sections = source_sections is.dropped ss

  abbrev o' : Object
  o' = shrunk_object f o

  abbrev mv : LaidStatement → LaidStatement
  mv z = laid_with (moves_in f o z.located.section) z

  abbrev laid' : List LaidStatement
  laid' = map mv is.laid

  abbrev all_settled : AllByRecursion (IsSettled sections) is.laid
  all_settled = filed.all_settled ss o is

  abbrev section_of : (j : ℕ) (s : SourceSection) → slice_get sections j ≡ Some s → (x : Section) × (slice_get o.sections j ≡ Some x) × IsSectionOf t is.laid is.number o.symbols j s (laid_in j is.laid) x
  section_of j s at = filed.section_of ss o is j s at

  -- ---- its statements

  abbrev AreEven : LaidStatement → Type 0
  AreEven z = source_text z.located.home ≡ true → (z.offset % 2 ≡ 0) × (new_offset (moves_in f o z.located.section) z.offset % 2 ≡ 0)

  -- in data nothing moves
  still_in : (j : ℕ) (s : SourceSection) → slice_get sections j ≡ Some s → s.executable ≡ false → moves_in f o j ≡ []
  still_in j s at aside =
      let (x, there, h) = section_of j s at in
      ap (moves_at (f j)) there ∙ ap (plan (f j) 0) (ap (λ b. if x.loaded && b then by_place (filter has_padding x.relocations) else []) (h.executable ∙ aside) ∙ go x.loaded)
    where
      go : (b : Bool) → (if b && false then by_place (filter has_padding (section_of j s at).0.relocations) else []) ≡ []
      go true = refl
      go false = refl

  text_in : (z : LaidStatement) → IsSettled sections z → is_in_text (slice_get o.sections z.located.section) ≡ source_text z.located.home
  text_in z k =
      let (x, there, h) = section_of z.located.section z.located.home k.home in
      ap is_in_text there ∙ ap (λ b. b && x.executable) h.loaded ∙ ap (λ b. z.located.home.loaded && b) h.executable

  text_same : (j : ℕ) → is_in_text (slice_get o'.sections j) ≡ is_in_text (slice_get o.sections j)
  text_same j = ap is_in_text (section_is f o j) ∙ go (slice_get o.sections j)
    where
      go : (x : Option Section) → is_in_text (option_map (shrunk_section (f j)) x) ≡ is_in_text x
      go None = refl
      go (Some x) = refl

  settled_at : (n : ℕ) (z : LaidStatement) → laid_at is.laid n ≡ Some z → IsSettled sections z
  settled_at n z e = each_find (IsSettled sections) (λ z. z.located.ordinal == n) is.laid all_settled z e

  -- ---- symbols

  still : AllByRecursion (λ z. z.located.home.executable ≡ false → moves_in f o z.located.section ≡ []) is.laid
  still = each_map (IsSettled sections) (λ z. z.located.home.executable ≡ false → moves_in f o z.located.section ≡ []) is.laid (λ z k aside. still_in z.located.section z.located.home k.home aside) all_settled

  uses_same : (p : LaidPart) → AllByRecursion (IsNumbered t is.laid is.number o.symbols) (references_in p) → AllByRecursion (IsNumbered t laid' is.number o'.symbols) (references_in p)
  uses_same p h =
      moved.uses_same t is.laid is.places (filed.bounds ss o is) (moves_in f o) still mv (λ z. refl) (λ z. refl) (shrunk_definition f o) refl (λ n. refl) (λ n. refl) (λ j n. refl)
      is.number o.symbols p h

  -- ---- sections

  in_section : (j : ℕ) (x : Section) → slice_get o.sections j ≡ Some x → (zs : List LaidStatement) → laid_in j (map mv zs) ≡ map (laid_with (moves (f j) x)) (laid_in j zs)
  in_section j x there [] = refl
  in_section j x there (z ∷ zs) = go (z.located.section == j) refl (in_section j x there zs)
    where
      go : (b : Bool) → (z.located.section == j) ≡ b → laid_in j (map mv zs) ≡ map (laid_with (moves (f j) x)) (laid_in j zs)
          → (if b then mv z ∷ laid_in j (map mv zs) else laid_in j (map mv zs)) ≡ map (laid_with (moves (f j) x)) (if b then z ∷ laid_in j zs else laid_in j zs)
      go true e ih =
          ap (λ k. laid_with (moves_in f o k) z ∷ laid_in j (map mv zs)) (eqb-true z.located.section j e)
          ∙ ap (λ y. laid_with (moves_at (f j) y) z ∷ laid_in j (map mv zs)) there ∙ ap (λ l. laid_with (moves (f j) x) z ∷ l) ih
      go false e ih = ih

  module _ (j : ℕ) (s : SourceSection) (x : Section) (at : slice_get sections j ≡ Some s) (there : slice_get o.sections j ≡ Some x)
      (h : IsSectionOf t is.laid is.number o.symbols j s (laid_in j is.laid) x) where
    abbrev Left : Type 0
    Left = IsLeft t is.laid laid' is.number o.symbols o'.symbols j (f j) s x h (laid_are_in sections j s is.laid at all_settled) (begun j x there) (in_section j x there is.laid) uses_same

    is_left : Left
    is_left = left t is.laid laid' is.number o.symbols o'.symbols j (f j) s x h (laid_are_in sections j s is.laid at all_settled) (begun j x there) (in_section j x there is.laid) uses_same

  evens : AllByRecursion AreEven is.laid
  evens = of_sections sections AreEven is.laid all_settled by
    where
      by : (j : ℕ) (s : SourceSection) → slice_get sections j ≡ Some s → AllByRecursion AreEven (laid_in j is.laid)
      by j s at =
          let (x, there, h) = section_of j s at in
          filed.with_home ss o is (λ z. source_text s ≡ true → (z.offset % 2 ≡ 0) × (new_offset (moves (f j) x) z.offset % 2 ≡ 0)) AreEven j s at
          (λ z stands home k text.
          subst (λ ms. (z.offset % 2 ≡ 0) × (new_offset ms z.offset % 2 ≡ 0)) (sym (ap (moves_in f o) stands ∙ ap (moves_at (f j)) there)) (k (ap source_text (sym home) ∙ text)))
          ((is_left j s x at there h).evens)

  -- what its statements count
  pub counted : AllByRecursion (λ z. IsCounted t (moves_in f o z.located.section) z) is.laid
  counted = of_sections sections (λ z. IsCounted t (moves_in f o z.located.section) z) is.laid all_settled by
    where
      by : (j : ℕ) (s : SourceSection) → slice_get sections j ≡ Some s → AllByRecursion (λ z. IsCounted t (moves_in f o z.located.section) z) (laid_in j is.laid)
      by j s at =
          let (x, there, h) = section_of j s at in
          filed.with_home ss o is (IsCounted t (moves (f j) x)) (λ z. IsCounted t (moves_in f o z.located.section) z) j s at
          (λ z stands home k. subst (λ ms. IsCounted t ms z) (sym (ap (moves_in f o) stands ∙ ap (moves_at (f j)) there)) k)
          ((is_left j s x at there h).counted)

  sections_left : (index : ℕ) (sss : List SourceSection) (xs : List Section) → AreSectionsOf t is.laid is.number o.symbols index sss xs
      → ((j : ℕ) → slice_get sections (index + j) ≡ slice_get sss j) → ((j : ℕ) → slice_get o.sections (index + j) ≡ slice_get xs j)
      → shrunk.AreSectionsOf t laid' is.number o'.symbols index sss (sections_from f index xs)
  sections_left index [] [] h at at' = tt
  sections_left index [] (x ∷ xs) h at at' = absurd h
  sections_left index (s ∷ sss) [] h at at' = absurd h
  sections_left index (s ∷ sss) (x ∷ xs) (h, hs) at at' =
      let here : slice_get sections index ≡ Some s = ap (slice_get sections) (let e : index ≡ index + 0 = omega arith in e) ∙ at 0 in
      let there : slice_get o.sections index ≡ Some x = ap (slice_get o.sections) (let e : index ≡ index + 0 = omega arith in e) ∙ at' 0 in
      let next : (j : ℕ) → suc index + j ≡ index + suc j = λ j. omega arith in (
        (is_left index s x here there h).section,
        sections_left (suc index) sss xs hs (λ j. ap (slice_get sections) (next j) ∙ at (suc j)) (λ j. ap (slice_get o.sections) (next j) ∙ at' (suc j)),
      )

  pub tidy_at : (j : ℕ) (x : Section) → slice_get o.sections j ≡ Some x → IsTidy (f j) x
  tidy_at j x there =
      let (s, at, h) = its_source (IsSectionOf t is.laid is.number o.symbols) is.laid j sections o.sections x is.sections there in
      (is_left j s x at there h).tidy

  -- ---- where a run begins

  never : (b : Bool) → (b && false) ≡ false
  never true = refl
  never false = refl

  -- in data none does
  aside_begins : (z : LaidStatement) (n m : ℕ) → IsSettled sections z → z.located.home.executable ≡ false
      → can_begin o' (InSection z.located.section n) ≡ can_begin o (InSection z.located.section m)
  aside_begins z n m k aside =
      let none : is_in_text (slice_get o.sections z.located.section) ≡ false = text_in z k ∙ ap (λ b. z.located.home.loaded && b) aside ∙ never z.located.home.loaded in
      ap (λ b. b && (n % 2 == 0)) (text_same z.located.section ∙ none) ∙ ap (λ b. b && (m % 2 == 0)) (sym none)

  place_begins : (z : LaidStatement) → IsSettled sections z → AreEven z
      → can_begin o' (InSection z.located.section (new_offset (moves_in f o z.located.section) z.offset)) ≡ can_begin o (InSection z.located.section z.offset)
  place_begins z k even =
      ap (λ b. b && (new_offset (moves_in f o z.located.section) z.offset % 2 == 0)) (text_same z.located.section ∙ text_in z k)
      ∙ go (source_text z.located.home) refl ∙ ap (λ b. b && (z.offset % 2 == 0)) (sym (text_in z k))
    where
      go : (b : Bool) → source_text z.located.home ≡ b → (b && (new_offset (moves_in f o z.located.section) z.offset % 2 == 0)) ≡ (b && (z.offset % 2 == 0))
      go true e =
          let both = even e in
          eq-eqb (new_offset (moves_in f o z.located.section) z.offset % 2) 0 both.1 ∙ sym (eq-eqb (z.offset % 2) 0 both.0)
      go false e = refl

  found_begins : (a : Assignment) → StandsInData is.laid a → is_location a ≡ true
      → can_begin o' (shrunk_definition f o (after_found (laid_at is.laid a.ordinal) a.plus)) ≡ can_begin o (after_found (laid_at is.laid a.ordinal) a.plus)
  found_begins a h l = go (laid_at is.laid a.ordinal) refl (h l)
    where
      go : (y : Option LaidStatement) → laid_at is.laid a.ordinal ≡ y → IsInData y → can_begin o' (shrunk_definition f o (after_found y a.plus)) ≡ can_begin o (after_found y a.plus)
      go None e k = refl
      go (Some z) e k = aside_begins z (new_offset (moves_in f o z.located.section) (add z.offset a.plus)) (add z.offset a.plus) (settled_at a.ordinal z e) k.0

  assigned_begins : (a : Option Assignment) → ((b : Assignment) → a ≡ Some b → StandsInData is.laid b)
      → can_begin o' (shrunk_definition f o (assigned_definition is.laid a)) ≡ can_begin o (assigned_definition is.laid a)
  assigned_begins None h = refl
  assigned_begins (Some a) h = go a.meaning (h a refl)
    where
      go : (m : Meaning) → StandsInData is.laid (record a { meaning = m })
          → can_begin o' (shrunk_definition f o (assigned_definition is.laid (Some (record a { meaning = m })))) ≡ can_begin o (assigned_definition is.laid (Some (record a { meaning = m })))
      go (Known n) k = refl
      go (InData section offset) k = found_begins (record a { meaning = InData section offset }) k refl
      go OpenAddress k = refl
      go (Refused code) k = refl

  definition_begins : (z : LaidStatement) (kind : StatementKind) → IsSettled sections z → AreEven z
      → can_begin o' (shrunk_definition f o (statement_definition t is.laid z kind)) ≡ can_begin o (statement_definition t is.laid z kind)
  definition_begins z (Label name) k even = place_begins z k even
  definition_begins z (Numbered number) k even = place_begins z k even
  definition_begins z (Instruction m os) k even = place_begins z k even
  definition_begins z (Directs (Sets name e)) k even =
      assigned_begins (assigned_ever t.assignments name) (λ a k. each_find (StandsInData is.laid) (λ s. bytes_eq s.name name) t.assignments is.places a k)
  definition_begins z (Directs (Enters section)) k even = place_begins z k even
  definition_begins z (Directs _) k even = place_begins z k even

  named_begins : (d : Defined) → can_begin o' (shrunk_definition f o d) ≡ can_begin o d → (names : List (List ℕ)) → AllByRecursion (BeginsSame f o) (map (λ name. shared_symbol t name d) names)
  named_begins d e [] = tt
  named_begins d e (name ∷ names) = (e, named_begins d e names)

  exports_begin : (zs : List LaidStatement) → AllByRecursion (IsSettled sections) zs → AllByRecursion AreEven zs → AllByRecursion (BeginsSame f o) (flat_map (exports_of t is.laid) zs)
  exports_begin [] h k = tt
  exports_begin (z ∷ zs) (h, hs) (k, ks) =
      each_append (BeginsSame f o) (exports_of t is.laid z) (flat_map (exports_of t is.laid) zs)
      (named_begins (statement_definition t is.laid z z.located.kind) (definition_begins z z.located.kind h k) (names_where is_shared t z.located)) (exports_begin zs hs ks)

  pub begins_same : AllByRecursion (BeginsSame f o) (exported o)
  begins_same = subst (λ l. AllByRecursion (BeginsSame f o) l) (sym is.exported_are) (exports_begin is.laid all_settled evens)

  -- ---- the whole

  rows_move : (zs : List LaidStatement) → map (shrunk_row f o) (flat_map rows_at zs) ≡ flat_map rows_at (map mv zs)
  rows_move [] = refl
  rows_move (z ∷ zs) = go (has_row z.located) (rows_move zs)
    where
      go : (b : Bool) → map (shrunk_row f o) (flat_map rows_at zs) ≡ flat_map rows_at (map mv zs)
          → map (shrunk_row f o) ((if b then row_of z ∷ [] else []) ++ flat_map rows_at zs) ≡ (if b then row_of (mv z) ∷ [] else []) ++ flat_map rows_at (map mv zs)
      go true ih = ap (λ (l : List Row). row_of (mv z) ∷ l) ih
      go false ih = ih

  pub shrunk_is : shrunk.IsObjectOf ss o'
  shrunk_is = record {
    dropped = is.dropped;
    good = is.good;
    laid = laid';
    located = moved.located_same t is.laid is.places (filed.bounds ss o is) (moves_in f o) still mv (λ z. refl) (λ z. refl) (shrunk_definition f o) refl (λ n. refl) (λ n. refl) (λ j n. refl) is.laid ∙ is.located;
    places = moved.places_same t is.laid is.places (filed.bounds ss o is) (moves_in f o) still mv (λ z. refl) (λ z. refl) (shrunk_definition f o) refl (λ n. refl) (λ n. refl) (λ j n. refl) t.assignments is.places;
    number = is.number;
    sections = sections_left 0 sections o.sections is.sections
        (λ j. ap (slice_get sections) (let e : 0 + j ≡ j = omega arith in e)) (λ j. ap (slice_get o.sections) (let e : 0 + j ≡ j = omega arith in e));
    exported_are = exported_same f o ∙ ap (map (shrunk_symbol f o)) is.exported_are ∙ moved.exports_move t is.laid is.places (filed.bounds ss o is) (moves_in f o) still mv (λ z. refl) (λ z. refl) (shrunk_definition f o) refl (λ n. refl) (λ n. refl) (λ j n. refl) is.laid;
    rows = ap (map (shrunk_row f o)) is.rows ∙ rows_move is.laid;
  }

  pub shrunk_laid : shrunk_is.laid ≡ map mv is.laid
  unfolding shrunk_is
  shrunk_laid = refl

  pub shrunk_dropped : shrunk_is.dropped ≡ is.dropped
  unfolding shrunk_is
  shrunk_dropped = refl

-- ---- all files

-- where a section of text starts
abbrev pub Begun : Starts → InputSection → Type 0
Begun starts i = (stop : ℕ) × (start_of starts i ≡ aligned (begins_at i.section) stop)

pub begun_all : (starts : Starts) (stop : ℕ) (ins : List InputSection) → Stand starts stop ins → AllByRecursion (Begun starts) ins
begun_all starts stop [] st = tt
begun_all starts stop (i ∷ ins) (at, st) = ((stop, at), begun_all starts (start_of starts i + size starts i) ins st)

pub begun_in : (starts : Starts) (file : ℕ) (o : Object) → AllByRecursion (Begun starts) (inputs_from goes_to_text file o 0 o.sections)
    → (j : ℕ) (x : Section) → slice_get o.sections j ≡ Some x → goes_to_text x ≡ true → (stop : ℕ) × (starts file j ≡ aligned (begins_at x) stop)
begun_in starts file o h j x at text =
    subst (λ n. Begun starts (record { file = file; object = o; index = n; section = x })) (let e : 0 + j ≡ j = omega arith in e)
    (relocated_at goes_to_text (Begun starts) file o 0 o.sections h j x at text)

module _ (starts : Starts) where
  unfoldable pub objects_shrink : (file : ℕ) (sources : List (List Statement)) (os : List Object) → AreAssembled sources os → AllByRecursion (Begun starts) (inputs_of goes_to_text file os)
      → shrunk.AreObjectsOf sources (shrunk_objects starts file os)
  objects_shrink file [] [] h b = tt
  objects_shrink file [] (o ∷ os) h b = absurd h
  objects_shrink file (ss ∷ sources) [] h b = absurd h
  objects_shrink file (ss ∷ sources) (o ∷ os) (is, h) b =
      let both = each_split (Begun starts) (inputs_from goes_to_text file o 0 o.sections) (inputs_of goes_to_text (suc file) os) b in
      (shrunk_is ss o is (starts file) (begun_in starts file o both.0), objects_shrink (suc file) sources os h both.1)

  pub all_begin : (file : ℕ) (sources : List (List Statement)) (os : List Object) → AreAssembled sources os → AllByRecursion (Begun starts) (inputs_of goes_to_text file os) → AllBegin starts file os
  all_begin file [] [] h b = tt
  all_begin file [] (o ∷ os) h b = absurd h
  all_begin file (ss ∷ sources) [] h b = absurd h
  all_begin file (ss ∷ sources) (o ∷ os) (is, h) b =
      let both = each_split (Begun starts) (inputs_from goes_to_text file o 0 o.sections) (inputs_of goes_to_text (suc file) os) b in
      (begins_same ss o is (starts file) (begun_in starts file o both.0), all_begin (suc file) sources os h both.1)

  abbrev Tidy : InputSection → Type 0
  Tidy i = IsTidy (start_of starts i) i.section

  tidy_from : (goes : Section → Bool) (file : ℕ) (o : Object) (index : ℕ) (xs : List Section) → ((j : ℕ) (x : Section) → slice_get xs j ≡ Some x → IsTidy (starts file (index + j)) x)
      → AllByRecursion Tidy (inputs_from goes file o index xs)
  tidy_from goes file o index [] h = tt
  tidy_from goes file o index (x ∷ xs) h =
      go (goes x) (tidy_from goes file o (suc index) xs (λ j y at. subst (λ n. IsTidy (starts file n) y) (let e : index + suc j ≡ suc index + j = omega arith in e) (h (suc j) y at)))
    where
      own : InputSection
      own = record { file = file; object = o; index = index; section = x }

      go : (b : Bool) → AllByRecursion Tidy (inputs_from goes file o (suc index) xs) → AllByRecursion Tidy (if b then own ∷ inputs_from goes file o (suc index) xs else inputs_from goes file o (suc index) xs)
      go true ih = (subst (λ n. IsTidy (starts file n) x) (let e : index + 0 ≡ index = omega arith in e) (h 0 x refl), ih)
      go false ih = ih

  pub all_tidy : (goes : Section → Bool) (file : ℕ) (sources : List (List Statement)) (os : List Object) → AreAssembled sources os → AllByRecursion (Begun starts) (inputs_of goes_to_text file os)
      → AllByRecursion Tidy (inputs_of goes file os)
  all_tidy goes file [] [] h b = tt
  all_tidy goes file [] (o ∷ os) h b = absurd h
  all_tidy goes file (ss ∷ sources) [] h b = absurd h
  all_tidy goes file (ss ∷ sources) (o ∷ os) (is, h) b =
      let both = each_split (Begun starts) (inputs_from goes_to_text file o 0 o.sections) (inputs_of goes_to_text (suc file) os) b in
      each_append Tidy (inputs_from goes file o 0 o.sections) (inputs_of goes (suc file) os)
      (tidy_from goes file o 0 o.sections
      (λ j x at. subst (λ n. IsTidy (starts file n) x) (let e : j ≡ 0 + j = omega arith in e) (tidy_at ss o is (starts file) (begun_in starts file o both.0) j x at)))
      (all_tidy goes (suc file) sources os h both.1)
