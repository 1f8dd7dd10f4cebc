-- Each statement that has a row stands in one of its file's sections, so what holds in every section holds of all.

use Rattle.std.proofs.Common.{◌≡◌, ℕ, zero, suc, ◌+◌, Bool, true, false, List, [], ◌∷◌, ◌++◌, refl, sym, ap, ◌∙◌, subst, arith, Option, Some, None, drop}
use Rattle.std.proofs.lemmas.Bool.{and_parts, eqb-true, eq-eqb}
use Rattle.std.specs.Prelude.{◌&&◌, ◌==◌, if◌then◌else◌, slice_get}
use Rattle.std.specs.List.{AllByRecursion}
use Rattle.rv_list_laws.proofs.EachLemmas.{each_append}
use Rattle.rv_statement_laws.specs.Statement.{Statement}
use Rattle.rv_unit_laws.specs.Sections.{Section, text_section}
use Rattle.rv_unit_laws.specs.Tables.{Tables, at_start, tables, opened_of}
use Rattle.rv_map_laws.specs.declared.map.Row.{Row}
use Rattle.rv_map_laws.specs.declared.map.SectionId.{SectionId}
use Rattle.rv_collect_laws.specs.Graph.{is_dropped}
use Rattle.rv_source_laws.specs.Located.{Located, located_from, located_of, located, left, has_row, without_address}
use Rattle.rv_source_laws.specs.Program.{Mapped, first_of, mapped_statements, seated, mapped_of}
use Rattle.rv_source_laws.specs.Fits.{input_section, input_sections_of_file, input_sections_of, mapped_in}
use Rattle.rv_source_laws.proofs.HomesLemmas.{IsHomeIn, homes_from}
use Rattle.rv_source_laws.proofs.LeftLemmas.{IsLeftIn, home_left, all_left}
use Rattle.rv_runs_theorems.proofs.RegionsLemmas.{AllIn}

-- ---- the sections of statements

abbrev pub sections_of : List Statement → List Section
sections_of ss = (opened_of (tables ss)).sections

-- the sections of the files, which are numbered from 1
abbrev pub sections_by : List (List Statement) → ℕ → List Section
sections_by [] i = []
sections_by (ss ∷ files) zero = sections_of ss
sections_by (ss ∷ files) (suc i) = sections_by files i

abbrev pub sections_in : List (List Statement) → ℕ → List Section
sections_in sources zero = []
sections_in sources (suc i) = sections_by sources i

-- these are the sections of files that are numbered from here on
abbrev AreOf : (ℕ → List Section) → ℕ → List (List Statement) → Type 0
AreOf sections file sources = (i : ℕ) → sections (file + i) ≡ sections_by sources i

first_of_these : (sections : ℕ → List Section) (file : ℕ) (ss : List Statement) (files : List (List Statement)) → AreOf sections file (ss ∷ files) → sections file ≡ sections_of ss
first_of_these sections file ss files same = ap sections (let e : file ≡ file + 0 = omega arith in e) ∙ same 0

rest_of_these : (sections : ℕ → List Section) (file : ℕ) (ss : List Statement) (files : List (List Statement)) → AreOf sections file (ss ∷ files) → AreOf sections (suc file) files
rest_of_these sections file ss files same i = ap sections (let e : suc file + i ≡ file + suc i = omega arith in e) ∙ same (suc i)

homes_of : (sections : ℕ → List Section) (file : ℕ) (sources : List (List Statement)) → AreOf sections file sources → AllByRecursion (IsHomeIn sections) (located_of file sources)
homes_of sections file [] same = tt
homes_of sections file (ss ∷ files) same =
    each_append (IsHomeIn sections) (located_from file 1 (at_start ss) ss) (located_of (suc file) files)
    (homes_from sections file 1 (at_start ss) ss (first_of_these sections file ss files same) (text_section, refl))
    (homes_of sections (suc file) files (rest_of_these sections file ss files same))

-- a statement that has a row stands in a section that is loaded; P is what holds of all statements
abbrev pub IsSeated : (Located → Type 0) → Mapped → Type 0
IsSeated P s = P s.located × (s.located.home.loaded ≡ true)

abbrev pub IsAtHome : List SectionId → (ℕ → List Section) → Mapped → Type 0
IsAtHome drops sections s = IsSeated (IsLeftIn drops sections) s

pub seats : (P : Located → Type 0) (ts : List Located) (rows : List Row) → AllByRecursion P ts → AllByRecursion (IsSeated P) (mapped_of (mapped_statements ts rows))
seats P [] rows h = tt
seats P (t ∷ ts) rows (q, qs) = go (has_row t) refl (seats P ts (drop 1 rows) qs) (seats P ts rows qs)
  where
    seat : (o : Option Row) (rest : List Mapped) → has_row t ≡ true → AllByRecursion (IsSeated P) rest → AllByRecursion (IsSeated P) (seated t o ++ rest)
    seat None rest e h = h
    seat (Some row) rest e h = ((q, (and_parts _ t.home.loaded e).1), h)

    go : (b : Bool) → has_row t ≡ b → AllByRecursion (IsSeated P) (mapped_of (mapped_statements ts (drop 1 rows))) → AllByRecursion (IsSeated P) (mapped_of (mapped_statements ts rows)) → AllByRecursion (IsSeated P) (mapped_of (if b then record { located = t; row = first_of rows } ∷ mapped_statements ts (drop 1 rows) else record { located = t; row = None } ∷ mapped_statements ts rows))
    go true e taken left = seat (first_of rows) (mapped_of (mapped_statements ts (drop 1 rows))) e taken
    go false e taken left = left

are_in : (sources : List (List Statement)) → AreOf (sections_in sources) 1 sources
are_in sources i = ap (sections_in sources) (let e : 1 + i ≡ suc i = omega arith in e)

pub homes : (drops : List SectionId) (sources : List (List Statement)) (rows : List Row) → AllByRecursion (IsAtHome drops (sections_in sources)) (mapped_of (mapped_statements (left drops sources) rows))
homes drops sources rows =
    seats (IsLeftIn drops (sections_in sources)) (left drops sources) rows
    (all_left (IsHomeIn (sections_in sources)) (IsLeftIn drops (sections_in sources)) drops (located sources) (home_left drops (sections_in sources)) (homes_of (sections_in sources) 1 sources (are_in sources)))

-- ---- from the statements to the sections, and back

module _ (drops : List SectionId) (all : List Mapped) (sources : List (List Statement)) (goes : Section → Bool) (P : Mapped → Type 0) where
  abbrev sections : ℕ → List Section
  sections = sections_in sources

  abbrev Where : Mapped → Type 0
  Where s = goes s.located.home ≡ true → P s

  -- what is left of a section goes to the region
  abbrev passes : ℕ → ℕ → Section → Bool
  passes f j section = goes (without_address (is_dropped drops f j) section)

  abbrev test : ℕ → ℕ → Mapped → Bool
  test f j s = (s.located.file == f) && (s.located.section == j)

  in_section : (f j : ℕ) (section : Section) → slice_get (sections f) j ≡ Some section → passes f j section ≡ true → (xs : List Mapped) → AllByRecursion (IsAtHome drops sections) xs → AllByRecursion Where xs → AllByRecursion P (mapped_in xs f j)
  in_section f j section at good [] hs ws = tt
  in_section f j section at good (x ∷ xs) (h, hs) (w, ws) = go (test f j x) refl (in_section f j section at good xs hs ws)
    where
      go : (b : Bool) → test f j x ≡ b → AllByRecursion P (mapped_in xs f j) → AllByRecursion P (if b then x ∷ mapped_in xs f j else mapped_in xs f j)
      go true e rest =
          let parts = and_parts (x.located.file == f) (x.located.section == j) e in
          let file : x.located.file ≡ f = eqb-true x.located.file f parts.0 in
          let same : x.located.section ≡ j = eqb-true x.located.section j parts.1 in
          let both : Some h.0.0 ≡ Some section = sym h.0.1 ∙ ap (λ i. slice_get (sections i) x.located.section) file ∙ ap (λ i. slice_get (sections f) i) same ∙ at in
          let found : h.0.0 ≡ section = cc in
          let home : x.located.home ≡ without_address (is_dropped drops f j) section =
          h.0.2 ∙ ap (λ s. without_address (is_dropped drops x.located.file x.located.section) s) found
          ∙ ap (λ i. without_address (is_dropped drops i x.located.section) section) file ∙ ap (λ i. without_address (is_dropped drops f i) section) same in
          (w (ap goes home ∙ good), rest)
      go false e rest = rest

  to_file : AllByRecursion (IsAtHome drops sections) all → AllByRecursion Where all → (t : Tables) (file index : ℕ) (rest : List Section) → ((j : ℕ) → slice_get (sections file) (index + j) ≡ slice_get rest j) → AllIn P (input_sections_of_file goes drops t all file index rest)
  to_file hs ws t file index [] same = tt
  to_file hs ws t file index (section ∷ rest) same =
      go (passes file index section) refl (to_file hs ws t file (suc index) rest (λ j. ap (λ i. slice_get (sections file) i) (let e : suc index + j ≡ index + suc j = omega arith in e) ∙ same (suc j)))
    where
      go : (b : Bool) → passes file index section ≡ b → AllIn P (input_sections_of_file goes drops t all file (suc index) rest) → AllIn P (if b then input_section t section all file index ∷ input_sections_of_file goes drops t all file (suc index) rest else input_sections_of_file goes drops t all file (suc index) rest)
      go true e next =
          let here : slice_get (sections file) index ≡ Some section = ap (λ i. slice_get (sections file) i) (let e : index ≡ index + 0 = omega arith in e) ∙ same 0 in
          (in_section file index section here e all hs ws, next)
      go false e next = next

  to_files : AllByRecursion (IsAtHome drops sections) all → AllByRecursion Where all → (file : ℕ) (files : List (List Statement)) → AreOf sections file files → AllIn P (input_sections_of goes drops all file files)
  to_files hs ws file [] same = tt
  to_files hs ws file (ss ∷ files) same =
      let own : sections file ≡ sections_of ss = first_of_these sections file ss files same in
      each_append (λ b. AllByRecursion P b.mapped) (input_sections_of_file goes drops (tables ss) all file 0 (sections_of ss)) (input_sections_of goes drops all (suc file) files)
      (to_file hs ws (tables ss) file 0 (sections_of ss) (λ j. ap (λ i. slice_get (sections file) i) (let e : 0 + j ≡ j = omega arith in e) ∙ ap (λ xs. slice_get xs j) own))
      (to_files hs ws (suc file) files (rest_of_these sections file ss files same))

  pub to_blocks : AllByRecursion (IsAtHome drops sections) all → AllByRecursion Where all → AllIn P (input_sections_of goes drops all 1 sources)
  to_blocks hs ws = to_files hs ws 1 sources (are_in sources)

  at_file : (t : Tables) (file index : ℕ) (rest : List Section) (j : ℕ) (section : Section) → AllIn P (input_sections_of_file goes drops t all file index rest) → slice_get rest j ≡ Some section → passes file (index + j) section ≡ true → AllByRecursion P (mapped_in all file (index + j))
  at_file t file index [] j section held at good = absurd (cc)
  at_file t file index (first ∷ rest) zero section held at good =
      let same : first ≡ section = cc in
      let e : index ≡ index + 0 = omega arith in
      subst (λ i. AllByRecursion P (mapped_in all file i)) e
      (here (passes file index first) (ap (passes file index) same ∙ ap (λ i. passes file i section) e ∙ good) held)
    where
      here : (b : Bool) → b ≡ true → AllIn P (if b then input_section t first all file index ∷ input_sections_of_file goes drops t all file (suc index) rest else input_sections_of_file goes drops t all file (suc index) rest) → AllByRecursion P (mapped_in all file index)
      here true e (h, hs) = h
      here false e hs = absurd (cc)
  at_file t file index (first ∷ rest) (suc j) section held at good =
      let e : suc index + j ≡ index + suc j = omega arith in
      subst (λ i. AllByRecursion P (mapped_in all file i)) e
      (at_file t file (suc index) rest j section (later (passes file index first) held) at (ap (λ i. passes file i section) e ∙ good))
    where
      later : (b : Bool) → AllIn P (if b then input_section t first all file index ∷ input_sections_of_file goes drops t all file (suc index) rest else input_sections_of_file goes drops t all file (suc index) rest) → AllIn P (input_sections_of_file goes drops t all file (suc index) rest)
      later true (h, hs) = hs
      later false hs = hs

  halves : {X : Type 0} (Q : X → Type 0) (xs ys : List X) → AllByRecursion Q (xs ++ ys) → AllByRecursion Q xs × AllByRecursion Q ys
  halves Q [] ys h = (tt, h)
  halves Q (x ∷ xs) ys (q, qs) = let more = halves Q xs ys qs in ((q, more.0), more.1)

  at_files : (file : ℕ) (files : List (List Statement)) (i j : ℕ) (section : Section) → AllIn P (input_sections_of goes drops all file files) → slice_get (sections_by files i) j ≡ Some section → passes (file + i) j section ≡ true → AllByRecursion P (mapped_in all (file + i) j)
  at_files file [] i j section held at good = absurd (cc)
  at_files file (ss ∷ files) zero j section held at good =
      let parts = halves (λ b. AllByRecursion P b.mapped) (input_sections_of_file goes drops (tables ss) all file 0 (sections_of ss)) (input_sections_of goes drops all (suc file) files) held in
      let e : file ≡ file + 0 = omega arith in
      let i : 0 + j ≡ j = omega arith in
      subst (λ f. AllByRecursion P (mapped_in all f j)) e
      (subst (λ i. AllByRecursion P (mapped_in all file i)) i
      (at_file (tables ss) file 0 (sections_of ss) j section parts.0 at (ap (λ n. passes file n section) i ∙ ap (λ f. passes f j section) e ∙ good)))
  at_files file (ss ∷ files) (suc i) j section held at good =
      let parts = halves (λ b. AllByRecursion P b.mapped) (input_sections_of_file goes drops (tables ss) all file 0 (sections_of ss)) (input_sections_of goes drops all (suc file) files) held in
      let e : suc file + i ≡ file + suc i = omega arith in
      subst (λ f. AllByRecursion P (mapped_in all f j)) e (at_files (suc file) files i j section parts.1 at (ap (λ f. passes f j section) e ∙ good))

  in_any : AllIn P (input_sections_of goes drops all 1 sources) → (f j : ℕ) (section : Section) → slice_get (sections f) j ≡ Some section → passes f j section ≡ true → AllByRecursion P (mapped_in all f j)
  in_any held zero j section at good = absurd (cc)
  in_any held (suc i) j section at good =
      let e : 1 + i ≡ suc i = omega arith in
      subst (λ f. AllByRecursion P (mapped_in all f j)) e (at_files 1 sources i j section held at (ap (λ f. passes f j section) e ∙ good))

  each_where : (xs : List Mapped) → AllByRecursion (IsAtHome drops sections) xs → ((f j : ℕ) (section : Section) → slice_get (sections f) j ≡ Some section → passes f j section ≡ true → AllByRecursion P (mapped_in xs f j)) → AllByRecursion Where xs
  each_where [] hs f = tt
  each_where (x ∷ xs) (h, hs) f = (
    λ good. first (test x.located.file x.located.section x) own (f x.located.file x.located.section h.0.0 h.0.1 (ap goes (sym h.0.2) ∙ good)),
    each_where xs hs (λ i j section at good. rest (test i j x) i j (f i j section at good)),
  )
    where
      own : test x.located.file x.located.section x ≡ true
      own = ap (λ b. b && (x.located.section == x.located.section)) (eq-eqb x.located.file x.located.file refl) ∙ eq-eqb x.located.section x.located.section refl

      first : (b : Bool) → b ≡ true → AllByRecursion P (if b then x ∷ mapped_in xs x.located.file x.located.section else mapped_in xs x.located.file x.located.section) → P x
      first true e (q, qs) = q
      first false e qs = absurd (cc)

      rest : (b : Bool) (i j : ℕ) → AllByRecursion P (if b then x ∷ mapped_in xs i j else mapped_in xs i j) → AllByRecursion P (mapped_in xs i j)
      rest true i j (q, qs) = qs
      rest false i j qs = qs

  pub from_blocks : AllByRecursion (IsAtHome drops sections) all → AllIn P (input_sections_of goes drops all 1 sources) → AllByRecursion Where all
  from_blocks hs held = each_where all hs (in_any held)
