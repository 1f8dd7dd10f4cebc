-- The sections of text of the objects of sources are those of the sources.

use Rattle.std.proofs.Common.{◌≡◌, ℕ, zero, suc, ◌+◌, ◌≤◌, Bool, true, false, List, [], ◌∷◌, ◌++◌, length, map, refl, sym, ap, ◌∙◌, subst, arith, max, Option, Some, None}
use Rattle.std.proofs.lemmas.Bool.{and_parts, ne_eqb}
use Rattle.std.specs.Prelude.{◌&&◌, ◌==◌, if◌then◌else◌, flat_map}
use Rattle.std.specs.List.{AllByRecursion, slice_get}
use Rattle.rv_list_laws.proofs.FilterLemmas.{each_filter}
use Rattle.rv_list_laws.proofs.EachLemmas.{each_append}
use Rattle.rv_size_laws.specs.Alignment.{aligned}
use Rattle.rv_statement_laws.specs.Statement.{Statement}
use Rattle.rv_unit_laws.specs.Sections.{Section as SourceSection, goes_to_text as source_text}
use Rattle.rv_unit_laws.specs.Tables.{Tables, tables, opened_of}
use Rattle.rv_source_laws.specs.Located.{Located, without_address}
use Rattle.rv_source_laws.specs.Program.{Program}
use Rattle.rv_source_laws.specs.Fits as source
use Rattle.rv_map_laws.specs.declared.map.SectionId.{SectionId}
use Rattle.rv_collect_laws.specs.Graph.{is_dropped}
use Rattle.rv_object_laws.specs.Object.{Section, Object, size_of}
use Rattle.rv_link_laws.specs.Inputs.{Starts, InputSection, goes_to_text, inputs_from, inputs_of, begins_at}
use Rattle.rv_link_laws.specs.Shortened.{Sizes}
use Rattle.rv_assemble_laws.specs.LaidStatements.{LaidStatement, part_bytes, laid_in, end_of}
use Rattle.rv_assemble_laws.specs.IsObjectOf.{Numbering}
use Rattle.rv_assemble_laws.proofs.IsObjectOfLemmas.{stored_size}
use Rattle.rv_sources_link_theorems.proofs.sections.MaskedLemmas.{masked_sections, source_sections, stays}
use Rattle.rv_sources_link_theorems.proofs.statements.OrderedLemmas.{filled}
use Rattle.rv_sources_link_theorems.proofs.sections.KeptLemmas.{IsKept, AreKept, AreMasked}
use Rattle.rv_sources_link_theorems.proofs.sections.AssembledLemmas.{Tile, parts, IsSectionOf, AreSectionsOf, parts_of}
use Rattle.rv_sources_link_theorems.proofs.sections.FilesLemmas.{IsFile, AreFiles}
use Rattle.rv_sources_link_theorems.proofs.calls.FinalsLemmas.{IsFinal, IsFinalFile, AreFinal}
use Rattle.rv_sources_link_theorems.proofs.moves.PiecesLemmas.{IsPiece, ArePieces, pieces_join, is_same, Apart}
use Rattle.rv_sources_link_theorems.proofs.statements.SettledLemmas.{settled_left, IsLaidIn, laid_are_in}
use Rattle.rv_sources_link_theorems.proofs.moves.ShrinksLemmas.{tidy_at}
use Rattle.rv_sources_link_theorems.proofs.moves.ShrunkLemmas as shrunk
use Rattle.rv_sources_link_theorems.proofs.statements.StatementsLemmas.{mapped_from}
use Rattle.rv_sources_link_theorems.proofs.calls.UncutLemmas.{all_uncut, sections_same, assembled}

-- ---- the statements of a file

-- of the file after so many others
abbrev pub laid_by : (sources : List (List Statement)) (os : List Object) → AreKept sources os → ℕ → List LaidStatement
laid_by [] [] h i = []
laid_by [] (o ∷ os) h i = absurd h
laid_by (ss ∷ sources) [] h i = absurd h
laid_by (ss ∷ sources) (o ∷ os) (is, h) zero = is.laid
laid_by (ss ∷ sources) (o ∷ os) (is, h) (suc i) = laid_by sources os h i

-- ---- a section

pub size_is : (t : Tables) (laid : List LaidStatement) (number : Numbering) (o : Object) (index : ℕ) (s : SourceSection) (zs : List LaidStatement) (x : Section) → IsSectionOf t laid number o.symbols index s zs x → size_of x.contents ≡ end_of 0 zs
size_is t laid number o index s zs x h =
    ap size_of h.contents
    ∙ stored_size s.section_type (end_of 0 zs) (flat_map part_bytes (parts t zs))
    (filled (parts_of t) 0 zs h.tile ∙ (let n = length (flat_map part_bytes (parts t zs)) in let e : 0 + n ≡ n = omega arith in e))

-- a place to begin at
abbrev begin_of : Option Section → ℕ
begin_of None = 0
begin_of (Some x) = aligned (begins_at x) 0

-- the multiple at which a section of a source begins
pub begins_as : (ss : List Statement) (o : Object) (is : IsKept ss o) (j : ℕ) (x : Section) → slice_get o.sections j ≡ Some x → begins_at x ≡ max (if goes_to_text x then 2 else 1) x.alignment
begins_as ss o is j x there = (tidy_at ss o (assembled ss o is) (λ j. begin_of (slice_get o.sections j)) (λ j y at text. (0, ap begin_of at)) j x there).begins

final_in : (final : LaidStatement → LaidStatement) → ((z : LaidStatement) → (final z).located ≡ z.located) → (j : ℕ) (zs : List LaidStatement) → laid_in j (map final zs) ≡ map final (laid_in j zs)
final_in final stays j [] = refl
final_in final stays j (z ∷ zs) =
    ap (λ (l : Located). if l.section == j then final z ∷ laid_in j (map final zs) else laid_in j (map final zs)) (stays z) ∙ go (z.located.section == j) (final_in final stays j zs)
  where
    go : (b : Bool) → laid_in j (map final zs) ≡ map final (laid_in j zs) → (if b then final z ∷ laid_in j (map final zs) else laid_in j (map final zs)) ≡ map final (if b then z ∷ laid_in j zs else laid_in j zs)
    go true ih = ap (λ l. final z ∷ l) ih
    go false ih = ih

module _ (p : Program) (starts : Starts) (at : ℕ → List LaidStatement) (sizes : ℕ → ℕ → Sizes) (drops : List SectionId) where
  -- ---- a file

  module _ (file : ℕ) (ss : List Statement) (o : Object) (is : IsKept ss o) (mask : is.dropped ≡ is_dropped drops file) (here : at file ≡ is.laid) (ys : List LaidStatement) (c : IsFinalFile (sizes file) ss o is ys) (f : IsFile p starts file ss ys) where
    abbrev t : Tables
    t = tables ss

    abbrev sections : List SourceSection
    sections = source_sections is.dropped ss

    abbrev input : ℕ → Section → InputSection
    input index x = record { file = file; object = o; index = index; section = x }

    piece_one : (index : ℕ) (s : SourceSection) (x : Section) → IsSectionOf t is.laid is.number o.symbols index s (laid_in index is.laid) x → slice_get sections index ≡ Some s → slice_get o.sections index ≡ Some x
        → source_text s ≡ true → IsPiece p starts at sizes (input index x) (source.input_section t s p.mapped file index)
    piece_one index s x h at_s there text =
        let flags : goes_to_text x ≡ source_text s = ap (λ b. b && x.executable) h.loaded ∙ ap (λ b. s.loaded && b) h.executable in
        record {
          t = t;
          tables = f.tables;
          s = s;
          text = text;
          final = c.final;
          stays = c.stays;
          alignment = begins_as ss o is index x there ∙ ap (λ b. max (if b then 2 else 1) x.alignment) flags ∙ ap (λ n. max (if source_text s then 2 else 1) n) h.alignment;
          mapped = f.mapped index ∙ ap (λ l. mapped_from starts file (laid_in index l)) c.laid ∙ ap (mapped_from starts file) (final_in c.final c.stays index is.laid)
              ∙ ap (λ S. mapped_from starts file (map c.final (laid_in index S))) (sym here);
          tile = subst (λ S. Tile t 0 (laid_in index S)) (sym here) h.tile;
          size = size_is t is.laid is.number o index s (laid_in index is.laid) x h ∙ ap (λ S. end_of 0 (laid_in index S)) (sym here);
          inside = subst (λ S. AllByRecursion (λ z. IsLaidIn index s z) (laid_in index S)) (sym here) (laid_are_in sections index s is.laid at_s (settled_left ss is.laid is.dropped is.good is.located));
          finals = subst (λ S. AllByRecursion (λ z. IsFinal t (sizes file) z (c.final z)) (laid_in index S)) (sym here)
              (each_filter (λ z. IsFinal t (sizes file) z (c.final z)) (λ z. z.located.section == index) is.laid c.finals);
        }

    pieces_from : (index : ℕ) (sss : List SourceSection) (xs : List Section) → AreSectionsOf t is.laid is.number o.symbols index (masked_sections is.dropped index sss) xs
        → ((j : ℕ) → slice_get sections (index + j) ≡ slice_get (masked_sections is.dropped index sss) j) → ((j : ℕ) → slice_get o.sections (index + j) ≡ slice_get xs j)
        → ArePieces p starts at sizes (inputs_from goes_to_text file o index xs) (source.input_sections_of_file source_text drops t p.mapped file index sss)
    pieces_from index [] [] h at_s at_x = tt
    pieces_from index [] (x ∷ xs) h at_s at_x = absurd h
    pieces_from index (s ∷ sss) [] h at_s at_x = absurd h
    pieces_from index (s ∷ sss) (x ∷ xs) (h, hs) at_s at_x =
        let here_s : slice_get sections index ≡ Some kept = ap (slice_get sections) (let e : index ≡ index + 0 = omega arith in e) ∙ at_s 0 in
        let there : slice_get o.sections index ≡ Some x = ap (slice_get o.sections) (let e : index ≡ index + 0 = omega arith in e) ∙ at_x 0 in
        let next : (j : ℕ) → suc index + j ≡ index + suc j = λ j. omega arith in
        go (goes_to_text x) (source_text (without_address (is_dropped drops file index) s)) (ap (λ b. b && x.executable) h.loaded ∙ ap (λ b. kept.loaded && b) h.executable ∙ ap source_text same)
        (λ text. piece_left (is_dropped drops file index) same text here_s there)
        (pieces_from (suc index) sss xs hs (λ j. ap (slice_get sections) (next j) ∙ at_s (suc j)) (λ j. ap (slice_get o.sections) (next j) ∙ at_x (suc j)))
      where
        b : source.InputSection
        b = source.input_section t s p.mapped file index

        -- the source's section as the object has it
        kept : SourceSection
        kept = without_address (is.dropped index) s

        same : kept ≡ without_address (is_dropped drops file index) s
        same = ap (λ (d : ℕ → Bool). without_address (d index) s) mask

        -- one that is text has its address
        piece_left : (d : Bool) → kept ≡ without_address d s → source_text (without_address d s) ≡ true → slice_get sections index ≡ Some kept → slice_get o.sections index ≡ Some x
            → IsPiece p starts at sizes (input index x) b
        piece_left d e text at_s there =
            let left : kept ≡ s = e ∙ stays d s (and_parts (without_address d s).loaded (without_address d s).executable text).0 in
            subst (λ y. IsPiece p starts at sizes (input index x) (source.input_section t y p.mapped file index)) left (piece_one index kept x h at_s there (ap source_text e ∙ text))

        go : (a c : Bool) → a ≡ c → (c ≡ true → IsPiece p starts at sizes (input index x) b)
            → ArePieces p starts at sizes (inputs_from goes_to_text file o (suc index) xs) (source.input_sections_of_file source_text drops t p.mapped file (suc index) sss)
            → ArePieces p starts at sizes (if a then input index x ∷ inputs_from goes_to_text file o (suc index) xs else inputs_from goes_to_text file o (suc index) xs)
            (if c then b ∷ source.input_sections_of_file source_text drops t p.mapped file (suc index) sss else source.input_sections_of_file source_text drops t p.mapped file (suc index) sss)
        go true true same one ih = (one refl, ih)
        go false false same one ih = ih
        go true false same one ih = absurd (cc)
        go false true same one ih = absurd (cc)

    pub file_pieces : ArePieces p starts at sizes (inputs_from goes_to_text file o 0 o.sections) (source.input_sections_of_file source_text drops (tables ss) p.mapped file 0 (opened_of (tables ss)).sections)
    file_pieces =
        pieces_from 0 (opened_of (tables ss)).sections o.sections (sections_same (tables ss) is.laid (all_uncut ss o is) is.number o.symbols 0 sections o.sections is.sections)
        (λ j. ap (slice_get sections) (let e : 0 + j ≡ j = omega arith in e)) (λ j. ap (slice_get o.sections) (let e : 0 + j ≡ j = omega arith in e))

  -- ---- all files

  pub pieces : (file : ℕ) (sources : List (List Statement)) (os : List Object) (h : AreKept sources os) → AreMasked drops file sources os h → (ws : List Object) (k : shrunk.AreObjectsOf sources ws)
      → AreFinal sizes file sources os h ws k → AreFiles p starts file sources ws k → ((i : ℕ) → at (file + i) ≡ laid_by sources os h i)
      → ArePieces p starts at sizes (inputs_of goes_to_text file os) (source.input_sections_of source_text drops p.mapped file sources)
  pieces file [] [] h masks ws k c f g = tt
  pieces file [] (o ∷ os) h masks ws k c f g = absurd h
  pieces file (ss ∷ sources) [] h masks ws k c f g = absurd h
  pieces file (ss ∷ sources) (o ∷ os) (is, h) masks [] k c f g = absurd k
  pieces file (ss ∷ sources) (o ∷ os) (is, h) (mask, masks) (w ∷ ws) (js, k) (c, cs) (f, fs) g =
      pieces_join p starts at sizes (inputs_from goes_to_text file o 0 o.sections) (inputs_of goes_to_text (suc file) os)
      (source.input_sections_of_file source_text drops (tables ss) p.mapped file 0 (opened_of (tables ss)).sections) (source.input_sections_of source_text drops p.mapped (suc file) sources)
      (file_pieces file ss o is mask (ap at (let e : file ≡ file + 0 = omega arith in e) ∙ g 0) js.laid c f)
      (pieces (suc file) sources os h masks ws k cs fs (λ i. ap at (let e : suc file + i ≡ file + suc i = omega arith in e) ∙ g (suc i)))

-- ---- they are apart

module _ (p : Program) (starts : Starts) (at : ℕ → List LaidStatement) (sizes : ℕ → ℕ → Sizes) where
  abbrev From : ℕ → List InputSection → Type 0
  From file is = AllByRecursion (λ (j : InputSection). file ≤ j.file) is

  abbrev Own : ℕ → ℕ → List InputSection → Type 0
  Own file index is = AllByRecursion (λ (j : InputSection). (j.file ≡ file) × (index ≤ j.index)) is

  own_from : (file : ℕ) (o : Object) (index low : ℕ) (xs : List Section) → low ≤ index → Own file low (inputs_from goes_to_text file o index xs)
  own_from file o index low [] l = tt
  own_from file o index low (x ∷ xs) l = go (goes_to_text x) (own_from file o (suc index) low xs (omega (arith, l)))
    where
      go : (b : Bool) → Own file low (inputs_from goes_to_text file o (suc index) xs)
          → Own file low (if b then record { file = file; object = o; index = index; section = x } ∷ inputs_from goes_to_text file o (suc index) xs else inputs_from goes_to_text file o (suc index) xs)
      go true ih = ((refl, l), ih)
      go false ih = ih

  all_from : (file low : ℕ) (os : List Object) → low ≤ file → From low (inputs_of goes_to_text file os)
  all_from file low [] l = tt
  all_from file low (o ∷ os) l =
      each_append (λ (j : InputSection). low ≤ j.file) (inputs_from goes_to_text file o 0 o.sections) (inputs_of goes_to_text (suc file) os)
      (weaker (inputs_from goes_to_text file o 0 o.sections) (own_from file o 0 0 o.sections (omega arith))) (all_from (suc file) low os (omega (arith, l)))
    where
      weaker : (is : List InputSection) → Own file 0 is → From low is
      weaker [] h = tt
      weaker (i ∷ is) ((e, q), h) = (omega (arith, e, l), weaker is h)

  -- one is apart from those of higher files and those of higher indices
  apart_file : (i : InputSection) (is : List InputSection) → From (suc i.file) is → AllByRecursion (λ j. is_same p starts at sizes i j ≡ false) is
  apart_file i [] h = tt
  apart_file i (j ∷ is) (h, hs) = (ap (λ b. b && (i.index == j.index)) (ne_eqb i.file j.file (λ e. omega (arith, e, h))), apart_file i is hs)

  apart_index : (i : InputSection) (is : List InputSection) → Own i.file (suc i.index) is → AllByRecursion (λ j. is_same p starts at sizes i j ≡ false) is
  apart_index i [] h = tt
  apart_index i (j ∷ is) ((e, h), hs) = (never (i.file == j.file) (ne_eqb i.index j.index (λ q. omega (arith, q, h))), apart_index i is hs)
    where
      never : (b : Bool) → (i.index == j.index) ≡ false → (b && (i.index == j.index)) ≡ false
      never true g = g
      never false g = refl

  apart_join : (file : ℕ) (o : Object) (index : ℕ) (xs : List Section) (rest : List InputSection) → From (suc file) rest → Apart p starts at sizes rest → Apart p starts at sizes (inputs_from goes_to_text file o index xs ++ rest)
  apart_join file o index [] rest h k = k
  apart_join file o index (x ∷ xs) rest h k = go (goes_to_text x) (apart_join file o (suc index) xs rest h k)
    where
      own : InputSection
      own = record { file = file; object = o; index = index; section = x }

      go : (b : Bool) → Apart p starts at sizes (inputs_from goes_to_text file o (suc index) xs ++ rest)
          → Apart p starts at sizes ((if b then own ∷ inputs_from goes_to_text file o (suc index) xs else inputs_from goes_to_text file o (suc index) xs) ++ rest)
      go true ih = (
        each_append (λ j. is_same p starts at sizes own j ≡ false) (inputs_from goes_to_text file o (suc index) xs) rest
            (apart_index own (inputs_from goes_to_text file o (suc index) xs) (own_from file o (suc index) (suc index) xs (omega arith))) (apart_file own rest h),
        ih,
      )
      go false ih = ih

  pub apart : (file : ℕ) (os : List Object) → Apart p starts at sizes (inputs_of goes_to_text file os)
  apart file [] = tt
  apart file (o ∷ os) = apart_join file o 0 o.sections (inputs_of goes_to_text (suc file) os) (all_from (suc file) (suc file) os (omega arith)) (apart (suc file) os)
