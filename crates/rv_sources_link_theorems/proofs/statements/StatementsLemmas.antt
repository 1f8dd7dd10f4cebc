-- The statements of the sources with the rows that linking their objects gives.

use Rattle.std.proofs.Common.{◌≡◌, ℕ, zero, suc, ◌+◌, ◌<◌, Bool, true, false, List, [], ◌∷◌, ◌++◌, refl, sym, ap, ◌∙◌, subst, arith, map, Option, Some, None, drop, ◌⊎◌, inl, inr}
use Rattle.std.proofs.lemmas.List.{append-nil, map-append}
use Rattle.std.proofs.lemmas.Bool.{eq-eqb, ne_eqb}
use Rattle.std.specs.Prelude.{◌&&◌, ◌==◌, if◌then◌else◌, option_map, option_and_then}
use Rattle.std.specs.List.{find}
use Rattle.rv_statement_laws.specs.Statement.{Statement}
use Rattle.rv_map_laws.specs.declared.map.Row.{Row as MapRow}
use Rattle.rv_map_laws.specs.declared.map.SectionId.{SectionId}
use Rattle.rv_collect_laws.specs.Graph.{is_dropped}
use Rattle.rv_unit_laws.specs.Tables.{Tables, at_start, after}
use Rattle.rv_source_laws.specs.Located.{Located, located_now, located_from, located_of, masked, left_of, has_row}
use Rattle.rv_source_laws.specs.Program.{MaybeMapped, Mapped, first_of, mapped_statements, mapped_of, address_of, address_at}
use Rattle.rv_source_laws.specs.Fits.{mapped_in}
use Rattle.rv_object_laws.specs.Object.{Object}
use Rattle.rv_link_laws.specs.Inputs.{Starts}
pub use Rattle.rv_sources_link_theorems.proofs.moves.ShrunkLemmas.{AreObjectsOf, AreMasked}
use Rattle.rv_assemble_laws.specs.LaidStatements.{LaidStatement, laid_in}
use Rattle.rv_assemble_laws.specs.Symbols.{laid_at}

-- a statement in a file of this number
abbrev pub renumbered : ℕ → Located → Located
renumbered file s = record {
  file = file;
  ordinal = s.ordinal;
  section = s.section;
  offset = s.offset;
  home = s.home;
  options = s.options;
  line = s.line;
  kind = s.kind;
  placed = s.placed;
}

pub renumbers : (file k : ℕ) (t : Tables) (ss : List Statement) → located_from file k t ss ≡ map (renumbered file) (located_from 1 k t ss)
renumbers file k t [] = refl
renumbers file k t (s ∷ ss) = ap (λ l. located_now file k t s ∷ l) (renumbers file (suc k) (after t k s.kind) ss)

-- so where collection dropped some of its sections
pub left_renumbers : (drops : List SectionId) (file k : ℕ) (t : Tables) (ss : List Statement)
    → map (left_of drops) (located_from file k t ss) ≡ map (renumbered file) (map (masked (is_dropped drops file)) (located_from 1 k t ss))
left_renumbers drops file k t [] = refl
left_renumbers drops file k t (s ∷ ss) = ap (λ l. left_of drops (located_now file k t s) ∷ l) (left_renumbers drops file (suc k) (after t k s.kind) ss)

-- the statements of a file and of those after it
pub left_file : (drops : List SectionId) (file : ℕ) (ss : List Statement) (sources : List (List Statement)) (dropped : ℕ → Bool) → dropped ≡ is_dropped drops file
    → (laid : List LaidStatement) → map (λ s. s.located) laid ≡ map (masked dropped) (located_from 1 1 (at_start ss) ss)
    → map (left_of drops) (located_of file (ss ∷ sources)) ≡ map (renumbered file) (map (λ s. s.located) laid) ++ map (left_of drops) (located_of (suc file) sources)
left_file drops file ss sources dropped same laid is =
    let own = located_from 1 1 (at_start ss) ss in
    map-append (left_of drops) (located_from file 1 (at_start ss) ss) (located_of (suc file) sources)
    ∙ ap (λ l. l ++ map (left_of drops) (located_of (suc file) sources))
    (left_renumbers drops file 1 (at_start ss) ss ∙ ap (λ d. map (renumbered file) (map (masked d) own)) (sym same) ∙ ap (map (renumbered file)) (sym is))

module _ (starts : Starts) where
  -- ---- a file's statements

  abbrev pub row_in : ℕ → LaidStatement → MapRow
  row_in file s = record {
    file = file;
    line = s.located.line;
    ordinal = s.located.ordinal;
    address = starts file s.located.section + s.offset;
    bytes = s.bytes;
    instructions = s.instructions;
  }

  abbrev pub mapped_at : ℕ → LaidStatement → Mapped
  mapped_at file s = record { located = renumbered file s.located; row = row_in file s }

  abbrev pub statement_at : ℕ → LaidStatement → MaybeMapped
  statement_at file s = record { located = renumbered file s.located; row = (if has_row s.located then Some (row_in file s) else None) }

  abbrev pub rows_from : ℕ → List LaidStatement → List MapRow
  rows_from file [] = []
  rows_from file (s ∷ ss) = if has_row s.located then row_in file s ∷ rows_from file ss else rows_from file ss

  abbrev pub mapped_from : ℕ → List LaidStatement → List Mapped
  mapped_from file [] = []
  mapped_from file (s ∷ ss) = if has_row s.located then mapped_at file s ∷ mapped_from file ss else mapped_from file ss

  -- rows go to the statements of a file and leave the others
  pub statements_are : (file : ℕ) (laid : List LaidStatement) (more : List Located) (rows : List MapRow)
      → mapped_statements (map (renumbered file) (map (λ s. s.located) laid) ++ more) (rows_from file laid ++ rows)
      ≡ map (statement_at file) laid ++ mapped_statements more rows
  statements_are file [] more rows = refl
  statements_are file (s ∷ ss) more rows = go (has_row s.located) (statements_are file ss more rows)
    where
      l : Located
      l = renumbered file s.located

      others : List Located
      others = map (renumbered file) (map (λ s. s.located) ss) ++ more

      rest : List MaybeMapped
      rest = map (statement_at file) ss ++ mapped_statements more rows

      go : (b : Bool) → mapped_statements others (rows_from file ss ++ rows) ≡ rest
          → (if b then record { located = l; row = first_of ((if b then row_in file s ∷ rows_from file ss else rows_from file ss) ++ rows) }
          ∷ mapped_statements others (drop 1 ((if b then row_in file s ∷ rows_from file ss else rows_from file ss) ++ rows))
          else record { located = l; row = None } ∷ mapped_statements others ((if b then row_in file s ∷ rows_from file ss else rows_from file ss) ++ rows))
          ≡ record { located = l; row = (if b then Some (row_in file s) else None) } ∷ rest
      go true ih = ap (λ (e : List MaybeMapped). record { located = l; row = Some (row_in file s) } ∷ e) ih
      go false ih = ap (λ (e : List MaybeMapped). record { located = l; row = None } ∷ e) ih

  mapped_are : (file : ℕ) (laid : List LaidStatement) (more : List MaybeMapped) → mapped_of (map (statement_at file) laid ++ more) ≡ mapped_from file laid ++ mapped_of more
  mapped_are file [] more = refl
  mapped_are file (s ∷ ss) more = go (has_row s.located) (mapped_are file ss more)
    where
      go : (b : Bool) → mapped_of (map (statement_at file) ss ++ more) ≡ mapped_from file ss ++ mapped_of more
          → mapped_of (record { located = renumbered file s.located; row = (if b then Some (row_in file s) else None) } ∷ (map (statement_at file) ss ++ more))
          ≡ (if b then mapped_at file s ∷ mapped_from file ss else mapped_from file ss) ++ mapped_of more
      go true ih = ap (λ (l : List Mapped). mapped_at file s ∷ l) ih
      go false ih = ih

  -- ---- all statements

  abbrev pub all_statements : ℕ → (sources : List (List Statement)) (os : List Object) → AreObjectsOf sources os → List MaybeMapped
  all_statements file [] [] h = []
  all_statements file [] (o ∷ os) h = absurd h
  all_statements file (ss ∷ sources) [] h = absurd h
  all_statements file (ss ∷ sources) (o ∷ os) (is, h) = map (statement_at file) is.laid ++ all_statements (suc file) sources os h

  abbrev pub all_rows : ℕ → (sources : List (List Statement)) (os : List Object) → AreObjectsOf sources os → List MapRow
  all_rows file [] [] h = []
  all_rows file [] (o ∷ os) h = absurd h
  all_rows file (ss ∷ sources) [] h = absurd h
  all_rows file (ss ∷ sources) (o ∷ os) (is, h) = rows_from file is.laid ++ all_rows (suc file) sources os h

  pub statements_all : (drops : List SectionId) (file : ℕ) (sources : List (List Statement)) (os : List Object) (h : AreObjectsOf sources os) → AreMasked drops file sources os h
      → mapped_statements (map (left_of drops) (located_of file sources)) (all_rows file sources os h) ≡ all_statements file sources os h
  statements_all drops file [] [] h masks = refl
  statements_all drops file [] (o ∷ os) h masks = absurd h
  statements_all drops file (ss ∷ sources) [] h masks = absurd h
  statements_all drops file (ss ∷ sources) (o ∷ os) (is, h) (own, masks) =
      ap (λ l. mapped_statements l (rows_from file is.laid ++ all_rows (suc file) sources os h)) (left_file drops file ss sources is.dropped own is.laid is.located)
      ∙ statements_are file is.laid (map (left_of drops) (located_of (suc file) sources)) (all_rows (suc file) sources os h)
      ∙ ap (λ l. map (statement_at file) is.laid ++ l) (statements_all drops (suc file) sources os h masks)

  -- the statements of the file after so many others
  abbrev pub laid_by : (sources : List (List Statement)) (os : List Object) → AreObjectsOf sources os → ℕ → List LaidStatement
  laid_by [] [] h i = []
  laid_by [] (o ∷ os) h i = absurd h
  laid_by (ss ∷ sources) [] h i = absurd h
  laid_by (ss ∷ sources) (o ∷ os) (is, h) zero = is.laid
  laid_by (ss ∷ sources) (o ∷ os) (is, h) (suc i) = laid_by sources os h i

  -- ---- those of one section

  other_file : (a b : ℕ) → (a < b) ⊎ (b < a) → (a == b) ≡ false
  other_file a b h = ne_eqb a b (λ e. go h e)
    where
      go : (a < b) ⊎ (b < a) → a ≡ b → ⊥
      go (inl l) e = omega (arith, l, e)
      go (inr l) e = omega (arith, l, e)

  same_section : (b c d : Bool) → b ≡ true → (b && c) ≡ c
  same_section true c d e = refl
  same_section false c d e = absurd (cc)

  in_own : (file j : ℕ) (laid : List LaidStatement) (more : List Mapped) → mapped_in (mapped_from file laid ++ more) file j ≡ mapped_from file (laid_in j laid) ++ mapped_in more file j
  in_own file j [] more = refl
  in_own file j (s ∷ ss) more = go (has_row s.located) refl (s.located.section == j) refl (in_own file j ss more)
    where
      test : ((file == file) && (s.located.section == j)) ≡ (s.located.section == j)
      test = same_section (file == file) (s.located.section == j) true (eq-eqb file file refl)

      go : (b : Bool) → has_row s.located ≡ b → (c : Bool) → (s.located.section == j) ≡ c → mapped_in (mapped_from file ss ++ more) file j ≡ mapped_from file (laid_in j ss) ++ mapped_in more file j
          → mapped_in ((if b then mapped_at file s ∷ mapped_from file ss else mapped_from file ss) ++ more) file j
          ≡ mapped_from file (if c then s ∷ laid_in j ss else laid_in j ss) ++ mapped_in more file j
      go true e true f ih =
          ap (λ b. if b then mapped_at file s ∷ mapped_in (mapped_from file ss ++ more) file j else mapped_in (mapped_from file ss ++ more) file j) (test ∙ f)
          ∙ ap (λ (l : List Mapped). mapped_at file s ∷ l) ih
          ∙ ap (λ b. (if b then mapped_at file s ∷ mapped_from file (laid_in j ss) else mapped_from file (laid_in j ss)) ++ mapped_in more file j) (sym e)
      go true e false f ih =
          ap (λ b. if b then mapped_at file s ∷ mapped_in (mapped_from file ss ++ more) file j else mapped_in (mapped_from file ss ++ more) file j) (test ∙ f) ∙ ih
      go false e true f ih =
          ih ∙ ap (λ b. (if b then mapped_at file s ∷ mapped_from file (laid_in j ss) else mapped_from file (laid_in j ss)) ++ mapped_in more file j) (sym e)
      go false e false f ih = ih

  in_other : (file f j : ℕ) → (file == f) ≡ false → (laid : List LaidStatement) (more : List Mapped) → mapped_in (mapped_from file laid ++ more) f j ≡ mapped_in more f j
  in_other file f j e [] more = refl
  in_other file f j e (s ∷ ss) more = go (has_row s.located) (in_other file f j e ss more)
    where
      go : (b : Bool) → mapped_in (mapped_from file ss ++ more) f j ≡ mapped_in more f j
          → mapped_in ((if b then mapped_at file s ∷ mapped_from file ss else mapped_from file ss) ++ more) f j ≡ mapped_in more f j
      go true ih = ap (λ b. if b && (s.located.section == j) then mapped_at file s ∷ mapped_in (mapped_from file ss ++ more) f j else mapped_in (mapped_from file ss ++ more) f j) e ∙ ih
      go false ih = ih

  none_before : (file f j : ℕ) → f < file → (sources : List (List Statement)) (os : List Object) (h : AreObjectsOf sources os)
      → mapped_in (mapped_of (all_statements file sources os h)) f j ≡ []
  none_before file f j less [] [] h = refl
  none_before file f j less [] (o ∷ os) h = absurd h
  none_before file f j less (ss ∷ sources) [] h = absurd h
  none_before file f j less (ss ∷ sources) (o ∷ os) (is, h) =
      ap (λ l. mapped_in l f j) (mapped_are file is.laid (all_statements (suc file) sources os h))
      ∙ in_other file f j (other_file file f (inr less)) is.laid (mapped_of (all_statements (suc file) sources os h))
      ∙ none_before (suc file) f j (omega (arith, less)) sources os h

  -- the statements of a section of a file that have rows
  pub mapped_by : (file i j : ℕ) (sources : List (List Statement)) (os : List Object) (h : AreObjectsOf sources os)
      → mapped_in (mapped_of (all_statements file sources os h)) (file + i) j ≡ mapped_from (file + i) (laid_in j (laid_by sources os h i))
  mapped_by file i j [] [] h = refl
  mapped_by file i j [] (o ∷ os) h = absurd h
  mapped_by file i j (ss ∷ sources) [] h = absurd h
  mapped_by file zero j (ss ∷ sources) (o ∷ os) (is, h) =
      let rest = mapped_of (all_statements (suc file) sources os h) in
      let here : file + 0 ≡ file = omega arith in
      let none : mapped_in rest file j ≡ [] = none_before (suc file) file j (omega arith) sources os h in
      ap (λ l. mapped_in l (file + 0) j) (mapped_are file is.laid (all_statements (suc file) sources os h))
      ∙ subst (λ f. mapped_in (mapped_from file is.laid ++ rest) f j ≡ mapped_from f (laid_in j is.laid)) (sym here)
      (in_own file j is.laid rest ∙ ap (λ l. mapped_from file (laid_in j is.laid) ++ l) none ∙ append-nil (mapped_from file (laid_in j is.laid)))
  mapped_by file (suc i) j (ss ∷ sources) (o ∷ os) (is, h) =
      let rest = mapped_of (all_statements (suc file) sources os h) in
      let there : suc file + i ≡ file + suc i = omega arith in
      ap (λ l. mapped_in l (file + suc i) j) (mapped_are file is.laid (all_statements (suc file) sources os h))
      ∙ in_other file (file + suc i) j (other_file file (file + suc i) (inl (omega arith))) is.laid rest
      ∙ subst (λ f. mapped_in rest f j ≡ mapped_from f (laid_in j (laid_by sources os h i))) there (mapped_by (suc file) i j sources os h)

  -- ---- the address of a statement

  abbrev pub Test : ℕ → ℕ → MaybeMapped → Bool
  Test file n e = (e.located.file == file) && (e.located.ordinal == n)

  abbrev pub row_address : ℕ → LaidStatement → Option ℕ
  row_address file s = if has_row s.located then Some (starts file s.located.section + s.offset) else None

  address_here : (file : ℕ) (s : LaidStatement) → address_of (statement_at file s) ≡ row_address file s
  address_here file s = go (has_row s.located)
    where
      go : (b : Bool) → option_map (λ r. r.address) (if b then Some (row_in file s) else None) ≡ (if b then Some (starts file s.located.section + s.offset) else None)
      go true = refl
      go false = refl

  found_own : (file n : ℕ) (laid : List LaidStatement) (more : List MaybeMapped) → find (Test file n) more ≡ None
      → option_and_then address_of (find (Test file n) (map (statement_at file) laid ++ more)) ≡ option_and_then (row_address file) (laid_at laid n)
  found_own file n [] more none = ap (option_and_then address_of) none
  found_own file n (s ∷ ss) more none = go (s.located.ordinal == n) refl (found_own file n ss more none)
    where
      test : ((file == file) && (s.located.ordinal == n)) ≡ (s.located.ordinal == n)
      test = same_section (file == file) (s.located.ordinal == n) true (eq-eqb file file refl)

      rest : Option MaybeMapped
      rest = find (Test file n) (map (statement_at file) ss ++ more)

      go : (b : Bool) → (s.located.ordinal == n) ≡ b → option_and_then address_of rest ≡ option_and_then (row_address file) (laid_at ss n)
          → option_and_then address_of (if (file == file) && (s.located.ordinal == n) then Some (statement_at file s) else rest)
          ≡ option_and_then (row_address file) (if b then Some s else laid_at ss n)
      go true e ih = ap (λ b. option_and_then address_of (if b then Some (statement_at file s) else rest)) (test ∙ e) ∙ address_here file s
      go false e ih = ap (λ b. option_and_then address_of (if b then Some (statement_at file s) else rest)) (test ∙ e) ∙ ih

  found_other : (file f n : ℕ) → (file == f) ≡ false → (laid : List LaidStatement) (more : List MaybeMapped) → find (Test f n) (map (statement_at file) laid ++ more) ≡ find (Test f n) more
  found_other file f n e [] more = refl
  found_other file f n e (s ∷ ss) more =
      ap (λ b. if b && (s.located.ordinal == n) then Some (statement_at file s) else find (Test f n) (map (statement_at file) ss ++ more)) e ∙ found_other file f n e ss more

  not_found : (file f n : ℕ) → f < file → (sources : List (List Statement)) (os : List Object) (h : AreObjectsOf sources os) → find (Test f n) (all_statements file sources os h) ≡ None
  not_found file f n less [] [] h = refl
  not_found file f n less [] (o ∷ os) h = absurd h
  not_found file f n less (ss ∷ sources) [] h = absurd h
  not_found file f n less (ss ∷ sources) (o ∷ os) (is, h) =
      found_other file f n (other_file file f (inr less)) is.laid (all_statements (suc file) sources os h) ∙ not_found (suc file) f n (omega (arith, less)) sources os h

  pub address_by : (file i n : ℕ) (sources : List (List Statement)) (os : List Object) (h : AreObjectsOf sources os)
      → address_at (all_statements file sources os h) (file + i) n ≡ option_and_then (row_address (file + i)) (laid_at (laid_by sources os h i) n)
  address_by file i n [] [] h = refl
  address_by file i n [] (o ∷ os) h = absurd h
  address_by file i n (ss ∷ sources) [] h = absurd h
  address_by file zero n (ss ∷ sources) (o ∷ os) (is, h) =
      let rest = all_statements (suc file) sources os h in
      let here : file + 0 ≡ file = omega arith in
      subst (λ f. option_and_then address_of (find (Test f n) (map (statement_at file) is.laid ++ rest)) ≡ option_and_then (row_address f) (laid_at is.laid n)) (sym here)
      (found_own file n is.laid rest (not_found (suc file) file n (omega arith) sources os h))
  address_by file (suc i) n (ss ∷ sources) (o ∷ os) (is, h) =
      let rest = all_statements (suc file) sources os h in
      let there : suc file + i ≡ file + suc i = omega arith in
      ap (option_and_then address_of) (found_other file (file + suc i) n (other_file file (file + suc i) (inl (omega arith))) is.laid rest)
      ∙ subst (λ f. address_at rest f n ≡ option_and_then (row_address f) (laid_at (laid_by sources os h i) n)) there (address_by (suc file) i n sources os h)

  -- ---- the section of a statement

  abbrev pub section_in : Option MaybeMapped → Option ℕ
  section_in e = option_map (λ e. e.located.section) e

  abbrev pub laid_section : Option LaidStatement → Option ℕ
  laid_section s = option_map (λ s. s.located.section) s

  stood_own : (file n : ℕ) (laid : List LaidStatement) (more : List MaybeMapped) → find (Test file n) more ≡ None
      → section_in (find (Test file n) (map (statement_at file) laid ++ more)) ≡ laid_section (laid_at laid n)
  stood_own file n [] more none = ap section_in none
  stood_own file n (s ∷ ss) more none = go (s.located.ordinal == n) refl (stood_own file n ss more none)
    where
      test : ((file == file) && (s.located.ordinal == n)) ≡ (s.located.ordinal == n)
      test = same_section (file == file) (s.located.ordinal == n) true (eq-eqb file file refl)

      rest : Option MaybeMapped
      rest = find (Test file n) (map (statement_at file) ss ++ more)

      go : (b : Bool) → (s.located.ordinal == n) ≡ b → section_in rest ≡ laid_section (laid_at ss n)
          → section_in (if (file == file) && (s.located.ordinal == n) then Some (statement_at file s) else rest)
          ≡ laid_section (if b then Some s else laid_at ss n)
      go true e ih = ap (λ b. section_in (if b then Some (statement_at file s) else rest)) (test ∙ e)
      go false e ih = ap (λ b. section_in (if b then Some (statement_at file s) else rest)) (test ∙ e) ∙ ih

  pub section_by : (file i n : ℕ) (sources : List (List Statement)) (os : List Object) (h : AreObjectsOf sources os)
      → section_in (find (Test (file + i) n) (all_statements file sources os h)) ≡ laid_section (laid_at (laid_by sources os h i) n)
  section_by file i n [] [] h = refl
  section_by file i n [] (o ∷ os) h = absurd h
  section_by file i n (ss ∷ sources) [] h = absurd h
  section_by file zero n (ss ∷ sources) (o ∷ os) (is, h) =
      let rest = all_statements (suc file) sources os h in
      let here : file + 0 ≡ file = omega arith in
      subst (λ f. section_in (find (Test f n) (map (statement_at file) is.laid ++ rest)) ≡ laid_section (laid_at is.laid n)) (sym here)
      (stood_own file n is.laid rest (not_found (suc file) file n (omega arith) sources os h))
  section_by file (suc i) n (ss ∷ sources) (o ∷ os) (is, h) =
      let rest = all_statements (suc file) sources os h in
      let there : suc file + i ≡ file + suc i = omega arith in
      ap section_in (found_other file (file + suc i) n (other_file file (file + suc i) (inl (omega arith))) is.laid rest)
      ∙ subst (λ f. section_in (find (Test f n) rest) ≡ laid_section (laid_at (laid_by sources os h i) n)) there (section_by (suc file) i n sources os h)
