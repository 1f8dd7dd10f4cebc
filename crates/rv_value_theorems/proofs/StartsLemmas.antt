-- Where the sections of a region begin: each at a multiple of its alignment, and its rows follow from there.

use Rattle.std.proofs.Common.{◌≡◌, ℕ, zero, suc, ◌+◌, ◌-◌, ◌*◌, ◌/◌, ◌%◌, Bool, true, false, List, [], ◌∷◌, refl, sym, ap, ◌∙◌, subst, arith, Option, Some, None}
use Rattle.std.specs.Prelude.{if◌then◌else◌, slice_get}
use Rattle.std.specs.List.{AllByRecursion}
use Rattle.std.proofs.Math.Nat.{mul-mod_left}
use Rattle.rv_list_laws.proofs.EachLemmas.{each_split}
use Rattle.rv_size_laws.specs.Alignment.{aligned}
use Rattle.rv_statement_laws.specs.Statement.{Statement}
use Rattle.rv_map_laws.specs.declared.map.SectionId.{SectionId}
use Rattle.rv_collect_laws.specs.Graph.{is_dropped}
use Rattle.rv_unit_laws.specs.Sections.{Section}
use Rattle.rv_unit_laws.specs.Tables.{Tables, tables, opened_of}
use Rattle.rv_source_laws.specs.Located.{without_address}
use Rattle.rv_source_laws.specs.Program.{Mapped}
use Rattle.rv_source_laws.specs.Fits.{InputSection, rows_of, input_section, input_sections_of_file, input_sections_of, Follow, Stand, size}

-- a section begins somewhere, at a multiple of its alignment
abbrev pub Begins : InputSection → Type 0
Begins b = (a : ℕ) × (a % b.alignment ≡ 0) × Follow a (rows_of b)

pub all_begin : (bs : List InputSection) (stop : ℕ) → Stand stop bs → AllByRecursion Begins bs
all_begin [] stop stand = tt
all_begin (b ∷ bs) stop (follow, stand) =
    let start = aligned b.alignment stop in
    ((start, mul-mod_left ((stop + (b.alignment - 1)) / b.alignment) b.alignment, follow), all_begin bs (start + size (rows_of b)) stand)

-- what holds of all sections of a region holds of each that goes there
module _ (P : InputSection → Type 0) (goes : Section → Bool) (drops : List SectionId) (mapped : List Mapped) where
  abbrev passes : ℕ → ℕ → Section → Bool
  passes file index section = goes (without_address (is_dropped drops file index) section)

  in_file : (t : Tables) (file index : ℕ) (rest : List Section) (j : ℕ) (section : Section) → AllByRecursion P (input_sections_of_file goes drops t mapped file index rest)
      → slice_get rest j ≡ Some section → passes file (index + j) section ≡ true → P (input_section t section mapped file (index + j))
  in_file t file index [] j section all at good = absurd (cc)
  in_file t file index (x ∷ rest) zero section all at good =
      let same : x ≡ section = cc in
      let e : index + 0 ≡ index = omega arith in
      subst (λ i. P (input_section t section mapped file i)) (sym e)
      (subst (λ y. P (input_section t y mapped file index)) same
      (first (passes file index x) (ap (passes file index) same ∙ ap (λ i. passes file i section) (sym e) ∙ good) all))
    where
      first : (b : Bool) → b ≡ true → AllByRecursion P (if b then input_section t x mapped file index ∷ input_sections_of_file goes drops t mapped file (suc index) rest else input_sections_of_file goes drops t mapped file (suc index) rest)
          → P (input_section t x mapped file index)
      first true e (h, hs) = h
      first false e hs = absurd (cc)
  in_file t file index (x ∷ rest) (suc j) section all at good =
      let e : suc index + j ≡ index + suc j = omega arith in
      subst (λ i. P (input_section t section mapped file i)) e
      (in_file t file (suc index) rest j section (later (passes file index x) all) at (ap (λ i. passes file i section) e ∙ good))
    where
      later : (b : Bool) → AllByRecursion P (if b then input_section t x mapped file index ∷ input_sections_of_file goes drops t mapped file (suc index) rest else input_sections_of_file goes drops t mapped file (suc index) rest)
          → AllByRecursion P (input_sections_of_file goes drops t mapped file (suc index) rest)
      later true (h, hs) = hs
      later false hs = hs

  pub in_region : (file : ℕ) (files : List (List Statement)) (i j : ℕ) (ss : List Statement) (section : Section) → AllByRecursion P (input_sections_of goes drops mapped file files) → slice_get files i ≡ Some ss
      → slice_get (opened_of (tables ss)).sections j ≡ Some section → passes (file + i) j section ≡ true → P (input_section (tables ss) section mapped (file + i) j)
  in_region file [] i j ss section all here at good = absurd (cc)
  in_region file (xs ∷ files) zero j ss section all here at good =
      let same : xs ≡ ss = cc in
      let e : file + 0 ≡ file = omega arith in
      let parts = each_split P (input_sections_of_file goes drops (tables xs) mapped file 0 (opened_of (tables xs)).sections) (input_sections_of goes drops mapped (suc file) files) all in
      let i : 0 + j ≡ j = omega arith in
      subst (λ f. P (input_section (tables ss) section mapped f j)) (sym e)
      (subst (λ ys. P (input_section (tables ys) section mapped file j)) same
      (subst (λ n. P (input_section (tables xs) section mapped file n)) i
      (in_file (tables xs) file 0 (opened_of (tables xs)).sections j section parts.0
      (ap (λ ys. slice_get (opened_of (tables ys)).sections j) same ∙ at)
      (ap (λ n. passes file n section) i ∙ ap (λ f. passes f j section) (sym e) ∙ good))))
  in_region file (xs ∷ files) (suc i) j ss section all here at good =
      let e : suc file + i ≡ file + suc i = omega arith in
      let parts = each_split P (input_sections_of_file goes drops (tables xs) mapped file 0 (opened_of (tables xs)).sections) (input_sections_of goes drops mapped (suc file) files) all in
      subst (λ f. P (input_section (tables ss) section mapped f j)) e
      (in_region (suc file) files i j ss section parts.1 here at (ap (λ f. passes f j section) e ∙ good))
