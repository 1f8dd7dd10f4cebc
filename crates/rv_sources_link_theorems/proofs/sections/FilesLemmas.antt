-- What linking the objects of sources makes of each file.

use Rattle.std.proofs.Common.{◌≡◌, ℕ, zero, suc, ◌+◌, ◌-◌, ◌≤◌, Bool, true, false, List, [], ◌∷◌, ◌++◌, refl, ap, ◌∙◌, subst, arith, map, Option, Some, None}
use Rattle.std.specs.Prelude.{⊤, if◌then◌else◌, flat_map, option_and_then, slice_index_or}
use Rattle.std.specs.List.{find, slice_get}
use Rattle.rv_statement_laws.specs.Statement.{Statement}
use Rattle.rv_unit_laws.specs.Sections.{Section as SourceSection}
use Rattle.rv_unit_laws.specs.Tables.{Tables, tables, at_start, after}
use Rattle.rv_map_laws.specs.Map.{Map}
use Rattle.rv_map_laws.specs.declared.map.Row.{Row as MapRow}
use Rattle.rv_source_laws.specs.Located.{has_row, left, masked, located_now, located_from}
use Rattle.rv_source_laws.specs.Program.{Program, program, tables_in, address_at, mapped_of, mapped_statements}
use Rattle.rv_source_laws.specs.Lines.{statement_section}
use Rattle.rv_source_laws.specs.Fits.{mapped_in}
use Rattle.rv_object_laws.specs.Object.{Section, Symbol, Object}
use Rattle.rv_link_laws.specs.Moves.{alignments_of, plan}
use Rattle.rv_link_laws.specs.Inputs.{Starts}
use Rattle.rv_link_laws.specs.Rising.{Rise}
use Rattle.rv_link_laws.proofs.OrdinalsLemmas.{rows_stay}
use Rattle.rv_link_laws.specs.IsLinkOf.{by_ordinal, moves_at, map_row, row_in as linked_row, rows_of as linked_rows}
use Rattle.rv_assemble_laws.specs.LaidStatements.{LaidStatement, laid_in}
use Rattle.rv_assemble_laws.specs.Symbols.{laid_at}
use Rattle.rv_assemble_laws.specs.IsObjectOf.{Numbering, row_of, rows_at}
use Rattle.rv_sources_link_theorems.proofs.statements.StatementsLemmas.{AreObjectsOf, AreMasked, row_in, rows_from, mapped_from, row_address, all_statements, all_rows, statements_all, laid_by, mapped_by, address_by, Test, section_in, laid_section, section_by}
use Rattle.rv_sources_link_theorems.proofs.sections.MaskedLemmas.{source_sections}
use Rattle.rv_sources_link_theorems.proofs.moves.ShrunkLemmas.{AreSectionsOf, IsObjectOf}

-- ---- nothing moves

plain_from : (t : Tables) (all : List LaidStatement) (number : Numbering) (symbols : List Symbol) (index : ℕ) (ss : List SourceSection) (xs : List Section)
    → AreSectionsOf t all number symbols index ss xs → (j : ℕ) (x : Section) → slice_get xs j ≡ Some x → alignments_of x ≡ []
plain_from t all number symbols index [] [] h j x e = absurd (cc)
plain_from t all number symbols index [] (y ∷ ys) h j x e = absurd h
plain_from t all number symbols index (s ∷ ss) [] h j x e = absurd h
plain_from t all number symbols index (s ∷ ss) (y ∷ ys) (h, hs) zero x e =
    let same : y ≡ x = cc in subst (λ z. alignments_of z ≡ []) same h.plain
plain_from t all number symbols index (s ∷ ss) (y ∷ ys) (h, hs) (suc j) x e = plain_from t all number symbols (suc index) ss ys hs j x e

pub plain_of : (ss : List Statement) (o : Object) (is : IsObjectOf ss o) → (j : ℕ) (x : Section) → slice_get o.sections j ≡ Some x → alignments_of x ≡ []
plain_of ss o is = plain_from (tables ss) is.laid is.number o.symbols 0 (source_sections is.dropped ss) o.sections is.sections

-- ---- rows

module _ (starts : Starts) where
  no_moves : (o : Object) → ((j : ℕ) (x : Section) → slice_get o.sections j ≡ Some x → alignments_of x ≡ []) → (start j : ℕ) → moves_at start (slice_get o.sections j) ≡ []
  no_moves o plain start j = go (slice_get o.sections j) refl
    where
      go : (x : Option Section) → slice_get o.sections j ≡ x → moves_at start x ≡ []
      go None e = refl
      go (Some x) e = ap (plan start 0) (plain j x e)

  row_is : (file start : ℕ) (s : LaidStatement) → map_row file start [] (row_of s) ≡ record {
    file = file;
    line = s.located.line;
    ordinal = s.located.ordinal;
    address = start + s.offset;
    bytes = s.bytes;
    instructions = s.instructions;
  }
  row_is file start s =
      let mk : ℕ → ℕ → ℕ → MapRow = λ a b c. record { file = file; line = s.located.line; ordinal = s.located.ordinal; address = a; bytes = b; instructions = c } in
      let e : start + (s.offset - 0) ≡ start + s.offset = omega arith in
      let f : (s.offset + s.bytes - 0) - (s.offset - 0) ≡ s.bytes = omega arith in
      let g : s.instructions - 0 ≡ s.instructions = omega arith in
      ap (λ a. mk a ((s.offset + s.bytes - 0) - (s.offset - 0)) (s.instructions - 0)) e ∙ ap (λ b. mk (start + s.offset) b (s.instructions - 0)) f ∙ ap (mk (start + s.offset) s.bytes) g

  rows_are : (file : ℕ) (o : Object) (laid : List LaidStatement) → ((j : ℕ) (x : Section) → slice_get o.sections j ≡ Some x → alignments_of x ≡ [])
      → map (linked_row starts file o) (flat_map rows_at laid) ≡ rows_from starts file laid
  rows_are file o [] plain = refl
  rows_are file o (s ∷ ss) plain = go (has_row s.located) (rows_are file o ss plain)
    where
      own : linked_row starts file o (row_of s) ≡ row_in starts file s
      own = ap (λ ms. map_row file (starts file s.located.section) ms (row_of s)) (no_moves o plain (starts file s.located.section) s.located.section) ∙ row_is file (starts file s.located.section) s

      go : (b : Bool) → map (linked_row starts file o) (flat_map rows_at ss) ≡ rows_from starts file ss
          → map (linked_row starts file o) ((if b then row_of s ∷ [] else []) ++ flat_map rows_at ss) ≡ (if b then row_in starts file s ∷ rows_from starts file ss else rows_from starts file ss)
      go true ih = ap (λ (r : MapRow). r ∷ map (linked_row starts file o) (flat_map rows_at ss)) own ∙ ap (λ (l : List MapRow). row_in starts file s ∷ l) ih
      go false ih = ih

  -- the rows of a source stand by their ordinals
  pub rise_from : (k : ℕ) (t : Tables) (ss : List Statement) (dropped : ℕ → Bool) (laid : List LaidStatement) → map (λ s. s.located) laid ≡ map (masked dropped) (located_from 1 k t ss) → (low : ℕ) → low ≤ k → Rise low (flat_map rows_at laid)
  rise_from k t ss dropped [] e low h = tt
  rise_from k t [] dropped (s ∷ laid) e low h = absurd (cc)
  rise_from k t (x ∷ ss) dropped (s ∷ laid) e low h =
      go (has_row s.located) (rise_from (suc k) (after t k x.kind) ss dropped laid (let rest : map (λ s. s.located) laid ≡ map (masked dropped) (located_from 1 (suc k) (after t k x.kind) ss) = cc in rest))
    where
      own : s.located.ordinal ≡ k
      own = let now : s.located ≡ masked dropped (located_now 1 k t x) = cc in ap (λ l. l.ordinal) now

      go : (b : Bool) → ((low : ℕ) → low ≤ suc k → Rise low (flat_map rows_at laid)) → Rise low ((if b then row_of s ∷ [] else []) ++ flat_map rows_at laid)
      go true more = (omega (arith, own, h), more s.located.ordinal (omega (arith, own)))
      go false more = more low (omega (arith, h))

  by_ordinals : (ss : List Statement) (o : Object) (is : IsObjectOf ss o) → by_ordinal o.rows ≡ flat_map rows_at is.laid
  by_ordinals ss o is = ap by_ordinal is.rows ∙ rows_stay 0 (flat_map rows_at is.laid) (rise_from 1 (at_start ss) ss is.dropped is.laid is.located 0 (omega arith))

  pub rows_all : (file : ℕ) (sources : List (List Statement)) (os : List Object) (h : AreObjectsOf sources os) → linked_rows starts file os ≡ all_rows starts file sources os h
  rows_all file [] [] h = refl
  rows_all file [] (o ∷ os) h = absurd h
  rows_all file (ss ∷ sources) [] h = absurd h
  rows_all file (ss ∷ sources) (o ∷ os) (is, h) =
      ap (λ l. map (linked_row starts file o) l ++ linked_rows starts (suc file) os) (by_ordinals ss o is)
      ∙ ap (λ l. l ++ linked_rows starts (suc file) os) (rows_are file o is.laid (plain_of ss o is))
      ∙ ap (λ l. rows_from starts file is.laid ++ l) (rows_all (suc file) sources os h)

-- ---- the files

pub record IsFile (p : Program) (starts : Starts) (file : ℕ) (ss : List Statement) (laid : List LaidStatement) : Type 0 where
  pub tables : tables_in p file ≡ tables ss
  pub mapped : (j : ℕ) → mapped_in p.mapped file j ≡ mapped_from starts file (laid_in j laid)
  pub address : (n : ℕ) → address_at p.statements file n ≡ option_and_then (row_address starts file) (laid_at laid n)
  pub stands : (n : ℕ) → statement_section p file n ≡ laid_section starts (laid_at laid n)

abbrev pub AreFiles : Program → Starts → ℕ → (sources : List (List Statement)) (os : List Object) → AreObjectsOf sources os → Type 0
AreFiles p starts file [] [] h = ⊤
AreFiles p starts file [] (o ∷ os) h = absurd h
AreFiles p starts file (ss ∷ sources) [] h = absurd h
AreFiles p starts file (ss ∷ sources) (o ∷ os) (is, h) = IsFile p starts file ss is.laid × AreFiles p starts (suc file) sources os h

files_from : (p : Program) (starts : Starts) (file : ℕ) (sources : List (List Statement)) (os : List Object) (h : AreObjectsOf sources os)
    → ((i : ℕ) → IsFile p starts (file + i) (slice_index_or sources i []) (laid_by starts sources os h i)) → AreFiles p starts file sources os h
files_from p starts file [] [] h f = tt
files_from p starts file [] (o ∷ os) h f = absurd h
files_from p starts file (ss ∷ sources) [] h f = absurd h
files_from p starts file (ss ∷ sources) (o ∷ os) (is, h) f = (
  subst (λ n. IsFile p starts n ss is.laid) (let e : file + 0 ≡ file = omega arith in e) (f 0),
  files_from p starts (suc file) sources os h (λ i. subst (λ n. IsFile p starts n (slice_index_or sources i []) (laid_by starts sources os h i)) (let e : file + suc i ≡ suc file + i = omega arith in e) (f (suc i))),
)

pub tables_by : (sources : List (List Statement)) (i : ℕ) → slice_index_or (map tables sources) i (at_start []) ≡ tables (slice_index_or sources i [])
tables_by [] i = refl
tables_by (ss ∷ sources) zero = refl
tables_by (ss ∷ sources) (suc i) = tables_by sources i

module _ (sources : List (List Statement)) (os : List Object) (m : Map) (starts : Starts) (h : AreObjectsOf sources os) (masks : AreMasked m.drops 1 sources os h)
    (rows : m.rows ≡ linked_rows starts 1 os) where
  abbrev p : Program
  p = program sources m

  pub rows_ours : m.rows ≡ all_rows starts 1 sources os h
  rows_ours = rows ∙ rows_all starts 1 sources os h

  pub statements_ours : p.statements ≡ all_statements starts 1 sources os h
  statements_ours = ap (mapped_statements (left m.drops sources)) rows_ours ∙ statements_all starts m.drops 1 sources os h masks

  pub files : AreFiles p starts 1 sources os h
  files = files_from p starts 1 sources os h (λ i. record {
    tables = ap (λ n. slice_index_or (map tables sources) n (at_start [])) (let e : 1 + i - 1 ≡ i = omega arith in e) ∙ tables_by sources i;
    mapped = λ j. ap (λ s. mapped_in (mapped_of s) (1 + i) j) statements_ours ∙ mapped_by starts 1 i j sources os h;
    address = λ n. ap (λ s. address_at s (1 + i) n) statements_ours ∙ address_by starts 1 i n sources os h;
    stands = λ n. ap (λ s. section_in starts (find (Test starts (1 + i) n) s)) statements_ours ∙ section_by starts 1 i n sources os h;
  })
