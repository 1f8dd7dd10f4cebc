-- The linked program of the objects is that of the sources.

use Rattle.std.proofs.Common.{◌≡◌, ℕ, suc, ◌+◌, Bool, true, false, List, [], ◌∷◌, ◌++◌, length, refl, sym, ap, ◌∙◌, subst, arith, map, None}
use Rattle.std.proofs.lemmas.Bool.{and_parts, not-true}
use Rattle.std.specs.Prelude.{ℤ, Some, ◌&&◌, not, IsTrue, if◌then◌else◌, filter, flat_map}
use Rattle.std.specs.List.{AllByRecursion}
use Rattle.std.proofs.Math.Nat.{le_trans}
use Rattle.rv_list_laws.proofs.EachLemmas.{each_map, each_split}
use Rattle.rv_list_laws.proofs.TruthLemmas.{and_first}
use Rattle.rv_size_laws.specs.Alignment.{aligned}
use Rattle.rv_isa_laws.specs.Bytes.{zeros}
use Rattle.rv_statement_laws.specs.Statement.{Statement}
use Rattle.rv_unit_laws.specs.declared.section_type.SectionType.{SectionType}
use Rattle.rv_unit_laws.specs.declared.section_type.SectionType.TheVariants as types
use Rattle.rv_unit_laws.specs.Sections.{Section as SourceSection, is_nobits_type, is_nobits, goes_to_text, goes_to_rodata, goes_to_data, goes_to_bss}
use Rattle.rv_unit_laws.specs.Tables.{Tables, tables, at_start, opened_of}
use Rattle.rv_unit_laws.specs.Faults.{first_unit_fault}
use Rattle.rv_map_laws.specs.declared.map.Row.{Row as MapRow}
use Rattle.rv_map_laws.specs.declared.map.SectionId.{SectionId}
use Rattle.rv_map_laws.specs.Limits.{IsRow}
use Rattle.rv_collect_laws.specs.Graph.{AreDrops}
use Rattle.rv_source_laws.specs.Collected.{graph_of}
use Rattle.rv_source_laws.specs.Located.{Located, has_row, left_of, located_of}
use Rattle.rv_source_laws.specs.Program.{Mapped, Program, program}
use Rattle.rv_source_laws.specs.Fits as source
use Rattle.rv_source_laws.specs.Fits.{SizeFits}
use Rattle.rv_source_laws.specs.Resolves.{Resolves}
use Rattle.rv_source_laws.specs.Sized.{Sized}
use Rattle.rv_source_laws.specs.Shortened.{Shortened}
use Rattle.rv_source_laws.specs.Start.{spelled}
use Rattle.rv_image_laws.specs.Linked.{Linked}
use Rattle.rv_chain_laws.specs.Contents.{IsWritten, IsLinked, contents as source_contents}
use Rattle.rv_runs_theorems.proofs.HomesLemmas.{IsAtHome, homes, from_blocks, sections_in}
use Rattle.rv_object_laws.specs.Object.{Section, Object}
use Rattle.rv_link_laws.specs.declared.bounds.Ground.{Ground}
use Rattle.rv_link_laws.specs.Inputs as objects
use Rattle.rv_link_laws.specs.Inputs.{Starts, InputSection, inputs_from, inputs_of, inputs, contents, Holds}
use Rattle.rv_link_laws.specs.Values.{initial_bytes, linked_bytes, IsRelocated}
use Rattle.rv_link_laws.specs.IsLinkOf.{IsLinkOf, is_loaded, outer_of}
use Rattle.rv_assemble_laws.proofs.FaultlessLemmas.{no_first_fault}
use Rattle.rv_assemble_laws.specs.Templates.{Open}
use Rattle.rv_assemble_laws.specs.LaidStatements.{LaidStatement, part_bytes, laid_in, end_of as laid_end}
use Rattle.rv_assemble_laws.specs.Symbols.{laid_at}
use Rattle.rv_assemble_laws.specs.IsObjectOf.{Numbering, contents_of}
use Rattle.rv_sources_link_theorems.proofs.sections.MaskedLemmas.{masked_sections, source_sections}
use Rattle.rv_sources_link_theorems.proofs.statements.OrderedLemmas.{filled}
use Rattle.rv_sources_link_theorems.proofs.fields.WholesLemmas.{numbers_by, worths_of, AreObjectsAt, objects_at, worths_are, IsSound, sound, StandsAlone, labels, IsWhole, relocated_at}
use Rattle.rv_sources_link_theorems.proofs.names.GlobalsLemmas.{low_rows}
use Rattle.rv_sources_link_theorems.proofs.names.PairLemmas.{AreGiven}
use Rattle.rv_sources_link_theorems.proofs.statements.StatementsLemmas.{AreObjectsOf, AreMasked, renumbered, left_file, row_in, rows_from, mapped_at, all_rows}
use Rattle.rv_sources_link_theorems.proofs.statements.SettledLemmas.{settled_left}
use Rattle.rv_sources_link_theorems.proofs.sections.SectionsLemmas.{said}
use Rattle.rv_sources_link_theorems.proofs.statements.CodeOfLemmas.{IsFound, found_left, AreCodesOf, code_of, codes}
use Rattle.rv_sources_link_theorems.proofs.sections.PlacedLemmas.{IsFit}
use Rattle.rv_sources_link_theorems.proofs.sections.RegionsLemmas.{AreGood, IsRegion, region, greatest_same, good_join, good_file}
use Rattle.rv_sources_link_theorems.proofs.sections.FilesLemmas.{plain_of, AreFiles, files, rows_ours}
use Rattle.rv_sources_link_theorems.proofs.moves.ShrunkLemmas.{parts, IsSectionOf, AreSectionsOf, parts_of}

-- ---- sections go where the source's go

nobits_same : (b : SectionType) (count : ℕ) (bytes : List ℕ) → objects.has_no_bytes (contents_of b count bytes) ≡ is_nobits_type b
nobits_same types.Progbits count bytes = refl
nobits_same types.Note count bytes = refl
nobits_same types.Nobits count bytes = refl

initial_same : (b : SectionType) (count : ℕ) (bytes : List ℕ) → is_nobits_type b ≡ false → initial_bytes (contents_of b count bytes) ≡ bytes
initial_same types.Progbits count bytes e = refl
initial_same types.Note count bytes e = refl
initial_same types.Nobits count bytes e = absurd (cc)

initial_none : (b : SectionType) (count : ℕ) (bytes : List ℕ) → is_nobits_type b ≡ true → count ≡ 0 → initial_bytes (contents_of b count bytes) ≡ []
initial_none types.Progbits count bytes e none = absurd (cc)
initial_none types.Note count bytes e none = absurd (cc)
initial_none types.Nobits count bytes e none = ap zeros none

module _ (t : Tables) (laid : List LaidStatement) (number : Numbering) (o : Object) (index : ℕ) (s : SourceSection) (x : Section)
    (is : IsSectionOf t laid number o.symbols index s (laid_in index laid) x) where
  nobits : objects.has_no_bytes x.contents ≡ is_nobits s
  nobits = ap objects.has_no_bytes is.contents ∙ nobits_same s.section_type _ _

  text_same : objects.goes_to_text x ≡ goes_to_text s
  text_same = ap (λ b. b && x.executable) is.loaded ∙ ap (λ b. s.loaded && b) is.executable

  front_same : (x.loaded && not x.executable) ≡ (s.loaded && not s.executable)
  front_same = ap (λ b. b && not x.executable) is.loaded ∙ ap (λ b. s.loaded && not b) is.executable

  bss_same : objects.goes_to_bss x ≡ goes_to_bss s
  bss_same = ap (λ b. b && objects.has_no_bytes x.contents) front_same ∙ ap (λ b. (s.loaded && not s.executable) && b) nobits

  data_same : objects.goes_to_data x ≡ goes_to_data s
  data_same =
      ap (λ b. (b && not (objects.has_no_bytes x.contents)) && x.writable) front_same ∙ ap (λ b. ((s.loaded && not s.executable) && not b) && x.writable) nobits
      ∙ ap (λ b. ((s.loaded && not s.executable) && not (is_nobits s)) && b) is.writable

  rodata_same : objects.goes_to_rodata x ≡ goes_to_rodata s
  rodata_same =
      ap (λ b. (b && not (objects.has_no_bytes x.contents)) && not x.writable) front_same ∙ ap (λ b. ((s.loaded && not s.executable) && not b) && not x.writable) nobits
      ∙ ap (λ b. ((s.loaded && not s.executable) && not (is_nobits s)) && not b) is.writable

  -- bytes in the file
  plain_holds : is_nobits s ≡ false → initial_bytes x.contents ≡ flat_map part_bytes (parts t (laid_in index laid))
  plain_holds e = ap initial_bytes is.contents ∙ initial_same s.section_type _ _ e

  text_holds : goes_to_text s ≡ true → initial_bytes x.contents ≡ flat_map part_bytes (parts t (laid_in index laid))
  text_holds e = go (is_nobits s) refl
    where
      go : (b : Bool) → is_nobits s ≡ b → initial_bytes x.contents ≡ flat_map part_bytes (parts t (laid_in index laid))
      go false f = plain_holds f
      go true f =
          let none : flat_map part_bytes (parts t (laid_in index laid)) ≡ [] = is.code e f in
          let count : laid_end 0 (laid_in index laid) ≡ 0 + length (flat_map part_bytes (parts t (laid_in index laid))) = filled (parts_of t) 0 (laid_in index laid) is.tile in
          let nothing : laid_end 0 (laid_in index laid) ≡ 0 = omega (arith, count, ap length none) in
          ap initial_bytes is.contents ∙ initial_none s.section_type (laid_end 0 (laid_in index laid)) _ f nothing ∙ sym none

-- ---- flags

bss_front : (s : SourceSection) → goes_to_bss s ≡ true → (s.loaded ≡ true) × (s.executable ≡ false)
bss_front s e =
    let front = and_parts s.loaded (not s.executable) (and_parts (s.loaded && not s.executable) (is_nobits s) e).0 in (front.0, not-true s.executable front.1)

data_front : (s : SourceSection) → goes_to_data s ≡ true → (s.loaded ≡ true) × (s.executable ≡ false) × (is_nobits s ≡ false)
data_front s e =
    let three = and_parts (s.loaded && not s.executable) (not (is_nobits s)) (and_parts ((s.loaded && not s.executable) && not (is_nobits s)) s.writable e).0 in
    let front = and_parts s.loaded (not s.executable) three.0 in
    (front.0, not-true s.executable front.1, not-true (is_nobits s) three.1)

rodata_front : (s : SourceSection) → goes_to_rodata s ≡ true → (s.loaded ≡ true) × (s.executable ≡ false) × (is_nobits s ≡ false)
rodata_front s e =
    let three = and_parts (s.loaded && not s.executable) (not (is_nobits s)) (and_parts ((s.loaded && not s.executable) && not (is_nobits s)) (not s.writable) e).0 in
    let front = and_parts s.loaded (not s.executable) three.0 in
    (front.0, not-true s.executable front.1, not-true (is_nobits s) three.1)

-- ---- identities of rows

mark_own : (starts : Starts) (file : ℕ) (laid : List LaidStatement) (more : List MapRow) (others : List Located)
    → map source.identity_of_row more ≡ map source.identity_of (filter has_row others)
    → map source.identity_of_row (rows_from starts file laid ++ more) ≡ map source.identity_of (filter has_row (map (renumbered file) (map (λ s. s.located) laid) ++ others))
mark_own starts file [] more others e = e
mark_own starts file (s ∷ ss) more others e = go (has_row s.located) (mark_own starts file ss more others e)
  where
    rest : List Located
    rest = map (renumbered file) (map (λ s. s.located) ss) ++ others

    go : (b : Bool) → map source.identity_of_row (rows_from starts file ss ++ more) ≡ map source.identity_of (filter has_row rest)
        → map source.identity_of_row ((if b then row_in starts file s ∷ rows_from starts file ss else rows_from starts file ss) ++ more)
        ≡ map source.identity_of (if b then renumbered file s.located ∷ filter has_row rest else filter has_row rest)
    go true ih = ap (λ (l : List source.Identity). source.identity_of (renumbered file s.located) ∷ l) ih
    go false ih = ih

marks : (starts : Starts) (drops : List SectionId) (file : ℕ) (sources : List (List Statement)) (os : List Object) (h : AreObjectsOf sources os) → AreMasked drops file sources os h
    → map source.identity_of_row (all_rows starts file sources os h) ≡ map source.identity_of (filter has_row (map (left_of drops) (located_of file sources)))
marks starts drops file [] [] h masks = refl
marks starts drops file [] (o ∷ os) h masks = absurd h
marks starts drops file (ss ∷ sources) [] h masks = absurd h
marks starts drops file (ss ∷ sources) (o ∷ os) (is, h) (own, masks) =
    mark_own starts file is.laid (all_rows starts (suc file) sources os h) (map (left_of drops) (located_of (suc file) sources)) (marks starts drops (suc file) sources os h masks)
    ∙ ap (λ l. map source.identity_of (filter has_row l)) (sym (left_file drops file ss sources is.dropped own is.laid is.located))

good_all : (sources : List (List Statement)) (os : List Object) → AreObjectsOf sources os → AllByRecursion (λ ss. first_unit_fault ss ≡ None) sources
good_all [] [] h = tt
good_all [] (o ∷ os) h = absurd h
good_all (ss ∷ sources) [] h = absurd h
good_all (ss ∷ sources) (o ∷ os) (is, h) = (no_first_fault ss is.good, good_all sources os h)

-- ---- all regions

module _ (sources : List (List Statement)) (os : List Object) (bounds : Ground) (l : Linked) (h : AreObjectsOf sources os) (masks : AreMasked l.map.drops 1 sources os h) (link : IsLinkOf os bounds l)
    (given : AreGiven (program sources l.map) os) where
  abbrev p : Program
  p = program sources l.map

  abbrev starts : Starts
  starts = link.starts

  abbrev numbers : ℕ → Numbering
  numbers = numbers_by sources os h

  -- what the fields of code take
  abbrev worths : ℕ → ℕ → ℕ → Open → ℤ
  worths = worths_of (outer_of os l) starts os numbers

  abbrev says : ℕ → LaidStatement → List ℕ
  says file z = said p file (worths file) z

  abbrev bytes_of : Mapped → List ℕ
  bytes_of m = code_of starts says sources os h m

  abbrev Q : InputSection → Type 0
  Q i = AllByRecursion (IsRelocated (outer_of os l) starts os i) i.section.relocations

  module _ (spells : Mapped → List ℕ) (stores : Bool) (P : Mapped → Type 0) (goes : Section → Bool) (goes_source : SourceSection → Bool)
      (loads : (s : SourceSection) → goes_source s ≡ true → s.loaded ≡ true)
      (same_by : (t : Tables) (laid : List LaidStatement) (number : Numbering) (o : Object) (index : ℕ) (s : SourceSection) (x : Section)
      → IsSectionOf t laid number o.symbols index s (laid_in index laid) x → goes x ≡ goes_source s)
      (holds : (t : Tables) (laid : List LaidStatement) (number : Numbering) (o : Object) (index : ℕ) (s : SourceSection) (x : Section)
      → IsSectionOf t laid number o.symbols index s (laid_in index laid) x → goes_source s ≡ true → stores ≡ true → initial_bytes x.contents ≡ flat_map part_bytes (parts t (laid_in index laid)))
      (spell : (file : ℕ) (s : SourceSection) (z : LaidStatement) → goes_source s ≡ true → z.located.home ≡ s → IsFit p starts bytes_of worths file z
      → spells (mapped_at starts file z) ≡ said p file (worths file) z)
      (fitted : (file : ℕ) (s : SourceSection) (z : LaidStatement) → goes_source s ≡ true → z.located.home ≡ s → IsFit p starts bytes_of worths file z → P (mapped_at starts file z)) where
    good_files : (file : ℕ) (srcs : List (List Statement)) (us : List Object) (k : AreObjectsOf srcs us) → AreMasked l.map.drops file srcs us k → AreFiles p starts file srcs us k → AreObjectsAt os numbers file srcs us k → AllByRecursion IsRow (all_rows starts file srcs us k)
        → AreCodesOf starts says bytes_of file srcs us k → AllByRecursion Q (inputs_of is_loaded file us)
        → AreGood p os starts spells stores P (inputs_of goes file us) (source.input_sections_of goes_source l.map.drops p.mapped file srcs)
    good_files file [] [] k m f g rows c r = tt
    good_files file [] (o ∷ us) k m f g rows c r = absurd k
    good_files file (ss ∷ srcs) [] k m f g rows c r = absurd k
    good_files file (ss ∷ srcs) (o ∷ us) (is, k) (m, ms) (f, fs) (g, gs) rows (c, cs) r =
        let opened = (opened_of (tables ss)).sections in
        let sections = source_sections is.dropped ss in
        let both = each_split Q (inputs_from is_loaded file o 0 o.sections) (inputs_of is_loaded (suc file) us) r in
        let are = subst (λ t. AreSectionsOf t is.laid is.number o.symbols 0 sections o.sections) (sym f.tables) is.sections in
        let two = each_split IsRow (rows_from starts file is.laid) (all_rows starts (suc file) srcs us k) rows in
        let whole : IsWhole p os starts file is.laid is.number o (worths file) = record {
          object = g.object;
          mapped = f.mapped;
          low = low_rows starts file is.laid two.0;
          sound = subst (λ t. AllByRecursion (λ z. IsSound t z.located) is.laid) (sym f.tables) (sound ss is.laid is.dropped is.good is.located);
          labels = subst StandsAlone (sym f.tables) (labels ss);
          given = given;
          worth = worths_are p os starts numbers file o is.number g;
          stands = f.stands;
          itself = each_map (IsFound 1 is.laid) (λ z. laid_at is.laid z.located.ordinal ≡ Some z) is.laid (λ z k. k.1) (found_left 1 (at_start ss) ss is.dropped is.laid is.located);
          relocated = λ j x at loaded.
              subst (λ n. Q (record { file = file; object = o; index = n; section = x })) (let e : 0 + j ≡ j = omega arith in e)
              (relocated_at is_loaded Q file o 0 o.sections both.0 j x at loaded);
        } in
        let own = good_file p os starts spells stores P bytes_of worths goes goes_source loads same_by holds spell fitted l.map.drops file is.laid is.number o opened sections
        (ap (λ (d : ℕ → Bool). masked_sections d 0 opened) m) link.readable.globals are (settled_left ss is.laid is.dropped is.good is.located) whole c (plain_of ss o is) f.address both.0 in
        good_join p os starts spells stores P (inputs_from goes file o 0 o.sections) (inputs_of goes (suc file) us)
        (source.input_sections_of_file goes_source l.map.drops (tables ss) p.mapped file 0 opened) (source.input_sections_of goes_source l.map.drops p.mapped (suc file) srcs)
        (subst (λ t. AreGood p os starts spells stores P (inputs_from goes file o 0 o.sections) (source.input_sections_of_file goes_source l.map.drops t p.mapped file 0 opened)) f.tables own)
        (good_files (suc file) srcs us k ms fs gs two.1 cs both.1)

    pub good_region : AreGood p os starts spells stores P (inputs goes os) (source.input_sections goes_source sources l.map)
    good_region = good_files 1 sources os h masks (files sources os l.map starts h masks link.rows) (objects_at sources os h)
        (subst (λ rows. AllByRecursion IsRow rows) (rows_ours sources os l.map starts h masks link.rows) link.readable.rows) (codes starts says sources os h) link.relocated

  -- ---- each of them

  abbrev Fit : Mapped → Type 0
  Fit m = SizeFits p m

  abbrev Written : Mapped → Type 0
  Written m = SizeFits p m × IsWritten p m (bytes_of m)

  text_good : AreGood p os starts bytes_of true Written (inputs objects.goes_to_text os) (source.input_sections goes_to_text sources l.map)
  text_good = good_region bytes_of true Written objects.goes_to_text goes_to_text (λ s e. and_first s.loaded s.executable e)
      text_same (λ t laid number o index s x is e f. text_holds t laid number o index s x is e)
      (λ file s z e home fit. fit.code (ap (λ y. y.executable) home ∙ (and_parts s.loaded s.executable e).1))
      (λ file s z e home fit. (fit.sized, fit.coded (ap (λ y. y.executable) home ∙ (and_parts s.loaded s.executable e).1)))

  rodata_good : AreGood p os starts (spelled p) true Fit (inputs objects.goes_to_rodata os) (source.input_sections goes_to_rodata sources l.map)
  rodata_good = good_region (spelled p) true Fit objects.goes_to_rodata goes_to_rodata (λ s e. (rodata_front s e).0)
      rodata_same (λ t laid number o index s x is e f. plain_holds t laid number o index s x is (rodata_front s e).2)
      (λ file s z e home fit. fit.figures (ap (λ y. y.executable) home ∙ (rodata_front s e).1))
      (λ file s z e home fit. fit.sized)

  data_good : AreGood p os starts (spelled p) true Fit (inputs objects.goes_to_data os) (source.input_sections goes_to_data sources l.map)
  data_good = good_region (spelled p) true Fit objects.goes_to_data goes_to_data (λ s e. (data_front s e).0)
      data_same (λ t laid number o index s x is e f. plain_holds t laid number o index s x is (data_front s e).2)
      (λ file s z e home fit. fit.figures (ap (λ y. y.executable) home ∙ (data_front s e).1))
      (λ file s z e home fit. fit.sized)

  bss_good : AreGood p os starts (spelled p) false Fit (inputs objects.goes_to_bss os) (source.input_sections goes_to_bss sources l.map)
  bss_good = good_region (spelled p) false Fit objects.goes_to_bss goes_to_bss (λ s e. (bss_front s e).0)
      bss_same (λ t laid number o index s x is e f. absurd (cc))
      (λ file s z e home fit. fit.figures (ap (λ y. y.executable) home ∙ (bss_front s e).1))
      (λ file s z e home fit. fit.sized)

  text_region : IsRegion p os starts bytes_of true Written bounds.text (inputs objects.goes_to_text os) (source.input_sections goes_to_text sources l.map)
  text_region = region p os starts bytes_of true Written bounds.text (inputs objects.goes_to_text os) (source.input_sections goes_to_text sources l.map) text_good link.text.1

  rodata_region : IsRegion p os starts (spelled p) true Fit (aligned 4096 l.map.text.end) (inputs objects.goes_to_rodata os) (source.input_sections goes_to_rodata sources l.map)
  rodata_region = region p os starts (spelled p) true Fit (aligned 4096 l.map.text.end) (inputs objects.goes_to_rodata os) (source.input_sections goes_to_rodata sources l.map) rodata_good link.rodata.1

  data_region : IsRegion p os starts (spelled p) true Fit (aligned 4096 l.map.rodata.end) (inputs objects.goes_to_data os) (source.input_sections goes_to_data sources l.map)
  data_region = region p os starts (spelled p) true Fit (aligned 4096 l.map.rodata.end) (inputs objects.goes_to_data os) (source.input_sections goes_to_data sources l.map) data_good link.data.1

  abbrev bss_start : ℕ
  bss_start = aligned (objects.greatest (inputs objects.goes_to_bss os)) l.map.data.end

  bss_region : IsRegion p os starts (spelled p) false Fit bss_start (inputs objects.goes_to_bss os) (source.input_sections goes_to_bss sources l.map)
  bss_region = region p os starts (spelled p) false Fit bss_start (inputs objects.goes_to_bss os) (source.input_sections goes_to_bss sources l.map) bss_good link.bss.1

  -- ---- sizes, by the regions

  at_home : AllByRecursion (IsAtHome l.map.drops (sections_in sources)) p.mapped
  at_home = homes l.map.drops sources l.map.rows

  abbrev In : (SourceSection → Bool) → (Mapped → Type 0) → Mapped → Type 0
  In goes P s = goes s.located.home ≡ true → P s

  one_of_four : (s : SourceSection) → s.loaded ≡ true → (X : Type 0) → (goes_to_text s ≡ true → X) → (goes_to_rodata s ≡ true → X) → (goes_to_data s ≡ true → X) → (goes_to_bss s ≡ true → X) → X
  one_of_four s loaded X f g d b = go s.executable (is_nobits s) s.writable refl refl refl
    where
      whole : (e n w : Bool) → s.executable ≡ e → is_nobits s ≡ n → s.writable ≡ w → (r : Bool → Bool → Bool → Bool → Bool) → r s.loaded s.executable (is_nobits s) s.writable ≡ r true e n w
      whole e n w x y z r =
          ap (λ a. r a s.executable (is_nobits s) s.writable) loaded ∙ ap (λ a. r true a (is_nobits s) s.writable) x ∙ ap (λ a. r true e a s.writable) y ∙ ap (λ a. r true e n a) z

      go : (e n w : Bool) → s.executable ≡ e → is_nobits s ≡ n → s.writable ≡ w → X
      go true n w x y z = f (whole true n w x y z (λ a b c d. a && b))
      go false true w x y z = b (whole false true w x y z (λ a b c d. a && not b && c))
      go false false true x y z = d (whole false false true x y z (λ a b c d. a && not b && not c && d))
      go false false false x y z = g (whole false false false x y z (λ a b c d. a && not b && not c && not d))

  sizes_by : (ms : List Mapped) → AllByRecursion (IsAtHome l.map.drops (sections_in sources)) ms → AllByRecursion (In goes_to_text Written) ms → AllByRecursion (In goes_to_rodata Fit) ms
      → AllByRecursion (In goes_to_data Fit) ms → AllByRecursion (In goes_to_bss Fit) ms → AllByRecursion (SizeFits p) ms
  sizes_by [] h f g d b = tt
  sizes_by (m ∷ ms) (h, hs) (f, fs) (g, gs) (d, ds) (b, bs) =
      (one_of_four m.located.home h.1 (SizeFits p m) (λ e. (f e).0) g d b, sizes_by ms hs fs gs ds bs)

  in_text : AllByRecursion (In goes_to_text Written) p.mapped
  in_text = from_blocks l.map.drops p.mapped sources goes_to_text Written at_home text_region.each

  sizes : AllByRecursion (SizeFits p) p.mapped
  sizes = sizes_by p.mapped at_home in_text (from_blocks l.map.drops p.mapped sources goes_to_rodata Fit at_home rodata_region.each)
      (from_blocks l.map.drops p.mapped sources goes_to_data Fit at_home data_region.each) (from_blocks l.map.drops p.mapped sources goes_to_bss Fit at_home bss_region.each)

  written_by : (ms : List Mapped) → AllByRecursion (IsAtHome l.map.drops (sections_in sources)) ms → AllByRecursion (In goes_to_text Written) ms
      → AllByRecursion (λ s. IsTrue s.located.home.executable → IsWritten p s (bytes_of s)) ms
  written_by [] h f = tt
  written_by (m ∷ ms) (h, hs) (f, fs) =
      ((λ e. (f (ap (λ b. b && m.located.home.executable) h.1 ∙ e)).1), written_by ms hs fs)

  bss_at : bss_start ≡ aligned (source.greatest (source.input_sections goes_to_bss sources l.map)) l.map.data.end
  bss_at = ap (λ n. aligned n l.map.data.end) (greatest_same p os starts (spelled p) false Fit (inputs objects.goes_to_bss os) (source.input_sections goes_to_bss sources l.map) bss_good)

  fits : source.Fits sources l.map bounds.text
  fits = record {
    good = good_all sources os h;
    rows = ap (map source.identity_of_row) (rows_ours sources os l.map starts h masks link.rows) ∙ marks starts l.map.drops 1 sources os h masks;
    sizes = sizes;
    text = (link.text.0, text_region.stand, link.text.2 ∙ text_region.end);
    gaps = link.gaps ∙ text_region.gaps;
    rodata = (link.rodata.0, rodata_region.stand, link.rodata.2 ∙ rodata_region.end);
    «data» = (link.data.0, data_region.stand, link.data.2 ∙ data_region.end);
    bss = subst (λ n. source.Holds l.map.bss n (source.input_sections goes_to_bss sources l.map)) bss_at (link.bss.0, bss_region.stand, link.bss.2 ∙ bss_region.end);
  }

  -- where the names resolve
  pub linked : (relax gc : Bool) → AreDrops gc (graph_of sources) l.map.drops → Sized sources l.map → Shortened relax sources l.map → Resolves sources l.map → IsLinked sources bounds.text relax gc l
  linked relax gc collected sized shortened resolves = record {
    collected = collected;
    fits = fits;
    sized = sized;
    shortened = shortened;
    resolves = resolves;
    code = bytes_of;
    written = written_by p.mapped at_home in_text;
    below = le_trans link.below link.free;
    text = link.text_bytes ∙ ap (λ n. contents (linked_bytes (outer_of os l) starts os) starts n (inputs objects.goes_to_text os)) link.text.0
        ∙ text_region.bytes refl ∙ ap (λ n. source_contents bytes_of n (source.input_sections goes_to_text sources l.map)) (sym link.text.0);
    rodata = link.rodata_bytes ∙ ap (λ n. contents (linked_bytes (outer_of os l) starts os) starts n (inputs objects.goes_to_rodata os)) link.rodata.0
        ∙ rodata_region.bytes refl ∙ ap (λ n. source_contents (spelled p) n (source.input_sections goes_to_rodata sources l.map)) (sym link.rodata.0);
    «data» = link.data_bytes ∙ ap (λ n. contents (linked_bytes (outer_of os l) starts os) starts n (inputs objects.goes_to_data os)) link.data.0
        ∙ data_region.bytes refl ∙ ap (λ n. source_contents (spelled p) n (source.input_sections goes_to_data sources l.map)) (sym link.data.0);
  }
