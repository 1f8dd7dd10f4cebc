-- The object of statements keeps what every object of the code keeps.

use Rattle.std.proofs.Common.{◌≡◌, ℕ, zero, suc, ◌+◌, ◌≤◌, nat_le, Bool, true, false, List, [], ◌∷◌, length, Some, refl, sym, ap, ◌∙◌, subst, arith}
use Rattle.std.proofs.lemmas.Bool.{and_parts, eq-eqb, le-leb}
use Rattle.std.proofs.lemmas.List.Folds.{list_all-append}
use Rattle.std.specs.List.{AllByRecursion, list_all}
use Rattle.std.specs.Prelude.{◌&&◌, ◌==◌, if◌then◌else◌, IsTrue, flat_map, slice_get}
use Rattle.rv_isa.specs.Kinds.{width_of}
use Rattle.rv_statement_laws.specs.Statement.{Statement}
use Rattle.rv_unit_laws.specs.declared.section_type.SectionType.TheVariants as types
use Rattle.rv_unit_laws.specs.Sections.{Section as SourceSection, is_nobits_type}
use Rattle.rv_unit_laws.specs.Tables.{Tables, tables, opened_of}
use Rattle.rv_source_laws.specs.Located.{has_row}
use Rattle.rv_object_laws.specs.declared.row.Row.{Row}
use Rattle.rv_object_laws.specs.Object.{Relocation, Section, Symbol, Object, size_of}
use Rattle.rv_object_laws.specs.Valid.{is_section_alignment, fit_inside, are_paddings, is_row_in, are_rows}
use Rattle.rv_assemble_laws.specs.LaidStatements.{LaidStatement, part_bytes, parts, laid_in, end_of}
use Rattle.rv_assemble_laws.specs.IsObjectOf.{Numbering, relocations_from, IsSectionOf, AreSectionsOf, row_of, rows_at, IsObjectOf}
use Rattle.rv_assemble_laws.proofs.FaultlessLemmas.{no_first_fault}
use Rattle.rv_assemble_laws.proofs.FilledLemmas.{filled}
use Rattle.rv_assemble_laws.proofs.IsObjectOfLemmas.{stored_size}
use Rattle.rv_assemble.proofs.SettledLemmas.{IsSettled, settled, IsIn, all_in}
use Rattle.rv_assemble.proofs.AlignmentsLemmas.{aligned}
use Rattle.rv_assemble.proofs.EvenCodeLemmas.{parts_even, ends_within}
use Rattle.rv_assemble.proofs.CodeFitsLemmas.{Holds, all_fit}
use Rattle.rv_assemble.proofs.FieldsInsideLemmas.{none_in_nobits, parts_within, paddings_lie}
use Rattle.rv_unique_theorems.specs.Asked.{IsSound}
use Rattle.rv_assemble.proofs.ComposedLemmas.{inside_by}

-- ---- sections, one by one

module _ (t : Tables) (all : List LaidStatement) (number : Numbering) (symbols : List Symbol) where
  abbrev IsAt : ℕ → SourceSection → Section → Type 0
  IsAt j home x = IsSectionOf t all number symbols j home (laid_in j all) x

  -- what holds of each section with its index holds of all
  all_of : (whole : List SourceSection) (P : Section → Type 0) → ((j : ℕ) (home : SourceSection) (x : Section) → slice_get whole j ≡ Some home → IsAt j home x → P x)
      → (k : ℕ) (homes : List SourceSection) (xs : List Section) → ((i : ℕ) → slice_get whole (k + i) ≡ slice_get homes i) → AreSectionsOf t all number symbols k homes xs → AllByRecursion P xs
  all_of whole P f k [] [] at h = tt
  all_of whole P f k [] (x ∷ xs) at h = absurd h
  all_of whole P f k (home ∷ homes) [] at h = absurd h
  all_of whole P f k (home ∷ homes) (x ∷ xs) at (h, hs) = (
    f k home x (ap (λ n. slice_get whole n) (let e : k ≡ k + 0 = omega arith in e) ∙ at 0) h,
    all_of whole P f (suc k) homes xs (λ i. ap (λ n. slice_get whole n) (let e : suc k + i ≡ k + suc i = omega arith in e) ∙ at (suc i)) hs,
  )

  -- the section of an index
  found : (k : ℕ) (homes : List SourceSection) (xs : List Section) → AreSectionsOf t all number symbols k homes xs → (j n : ℕ) (home : SourceSection) → n ≡ k + j → slice_get homes j ≡ Some home
      → (x : Section) × (slice_get xs j ≡ Some x) × IsAt n home x
  found k [] xs h zero n home e at = absurd (cc)
  found k [] xs h (suc j) n home e at = absurd (cc)
  found k (s ∷ homes) [] h j n home e at = absurd h
  found k (s ∷ homes) (x ∷ xs) (h, hs) zero n home e at =
      let same : s ≡ home = cc in
      let here : k ≡ n = omega (arith, e) in
      (x, refl, subst (λ i. IsAt i home x) here (subst (λ z. IsAt k z x) same h))
  found k (s ∷ homes) (x ∷ xs) (h, hs) (suc j) n home e at = found (suc k) homes xs hs j n home (omega (arith, e)) at

-- ---- lists of statements

-- what holds of the statements of each section holds of all
all_from : (P : ℕ → LaidStatement → Type 0) (homes : List SourceSection) (laid : List LaidStatement) → AllByRecursion (IsSettled homes) laid
    → ((j : ℕ) (home : SourceSection) → slice_get homes j ≡ Some home → AllByRecursion (P j) (laid_in j laid)) → AllByRecursion (λ s. P s.located.section s) laid
all_from P homes [] h f = tt
all_from P homes (s ∷ ss) (h, hs) f = (
  own (s.located.section == s.located.section) (eq-eqb s.located.section s.located.section refl) (f s.located.section s.located.home h.home),
  all_from P homes ss hs (λ j home at. rest (s.located.section == j) j (f j home at)),
)
  where
    own : (b : Bool) → b ≡ true → AllByRecursion (P s.located.section) (if b then s ∷ laid_in s.located.section ss else laid_in s.located.section ss) → P s.located.section s
    own true e k = k.0
    own false e k = absurd (cc)

    rest : (b : Bool) (j : ℕ) → AllByRecursion (P j) (if b then s ∷ laid_in j ss else laid_in j ss) → AllByRecursion (P j) (laid_in j ss)
    rest true j k = k.1
    rest false j k = k

-- ---- an object

module _ (ss : List Statement) (o : Object) (h : IsObjectOf ss o) where
  abbrev t : Tables
  t = tables ss

  abbrev homes : List SourceSection
  homes = (opened_of t).sections

  abbrev IsHere : ℕ → SourceSection → Section → Type 0
  IsHere j home x = IsSectionOf t h.laid h.number o.symbols j home (laid_in j h.laid) x

  all_settled : AllByRecursion (IsSettled homes) h.laid
  all_settled = settled ss h.laid (no_first_fault ss h.good) h.located

  -- one section
  module _ (j : ℕ) (home : SourceSection) (x : Section) (there : slice_get homes j ≡ Some home) (is : IsHere j home x) where
    abbrev laid : List LaidStatement
    laid = laid_in j h.laid

    abbrev full : List ℕ
    full = flat_map part_bytes (parts t laid)

    abbrev relocated : List Relocation
    relocated = if home.loaded then relocations_from h.number 0 (parts t laid) else []

    inside : AllByRecursion (IsIn home) laid
    inside = all_in homes j home there h.laid all_settled

    ends : end_of 0 laid ≡ length full
    ends = filled t 0 laid is.tile ∙ (let f : 0 + length full ≡ length full = omega arith in f)

    size : size_of x.contents ≡ end_of 0 laid
    size = ap size_of is.contents ∙ stored_size home.section_type (end_of 0 laid) full ends

    held : AllByRecursion Holds (parts t laid)
    held = all_fit t home x.alignment laid inside is.sizes is.fields

    none : is_nobits_type home.section_type ≡ true → relocated ≡ []
    none e = go home.loaded refl
      where
        go : (b : Bool) → home.loaded ≡ b → ◌≡◌ {A = List Relocation} (if b then relocations_from h.number 0 (parts t laid) else []) []
        go true f = none_in_nobits t home h.number laid e inside is.tile (λ code. is.code (ap (λ b. b && home.executable) f ∙ code) e)
        go false f = refl

    fits : list_all (λ r. nat_le (r.place + width_of r.kind) (length full)) relocated ≡ true
    fits = go home.loaded
      where
        go : (b : Bool) → list_all (λ r. nat_le (r.place + width_of r.kind) (length full)) (if b then relocations_from h.number 0 (parts t laid) else []) ≡ true
        go true = parts_within h.number 0 (length full) (parts t laid) held (let f : 0 + length full ≤ length full = omega arith in f)
        go false = refl

    on_multiple : IsTrue (is_section_alignment x.alignment)
    on_multiple = subst (λ n. is_section_alignment n ≡ true) (sym is.alignment) (aligned ss j)

    fitting : IsTrue (fit_inside x.contents x.relocations)
    fitting =
        ap (fit_inside x.contents) is.relocations ∙ ap (λ c. fit_inside c relocated) is.contents
        ∙ inside_by home.section_type (end_of 0 laid) full relocated none fits

    padded : IsTrue (are_paddings x.executable x.contents x.relocations)
    padded =
        ap (λ b. are_paddings b x.contents x.relocations) is.executable ∙ ap (are_paddings home.executable x.contents) is.relocations
        ∙ paddings_lie h.number home.executable x.contents home.loaded (parts t laid) held
        (λ code. parts_even t home x.alignment laid code inside is.sizes)
        (let e = size in let f = ends in omega (arith, e, f))

  -- all of them
  every : (P : Section → Type 0) → ((j : ℕ) (home : SourceSection) (x : Section) → slice_get homes j ≡ Some home → IsHere j home x → P x) → AllByRecursion P o.sections
  every P f = all_of t h.laid h.number o.symbols homes P f 0 homes o.sections (λ i. ap (λ n. slice_get homes n) (let e : 0 + i ≡ i = omega arith in e)) h.sections

  section_in : (j : ℕ) (home : SourceSection) → slice_get homes j ≡ Some home → (x : Section) × (slice_get o.sections j ≡ Some x) × IsHere j home x
  section_in j home at = found t h.laid h.number o.symbols 0 homes o.sections h.sections j j home (let e : j ≡ 0 + j = omega arith in e) at

  -- rows
  abbrev Ends : ℕ → LaidStatement → Type 0
  Ends j s = s.offset + s.bytes ≤ end_of 0 (laid_in j h.laid)

  ends_inside : AllByRecursion (λ s. Ends s.located.section s) h.laid
  ends_inside = all_from Ends homes h.laid all_settled (λ j home at. ends_within t 0 (laid_in j h.laid) (section_in j home at).2.tile (end_of 0 (laid_in j h.laid)) refl)

  abbrev Lies : Row → Bool
  Lies r = is_row_in r (slice_get o.sections r.section)

  row_lies : (s : LaidStatement) → IsSettled homes s → Ends s.located.section s → list_all Lies (rows_at s) ≡ true
  row_lies s k l = go (has_row s.located) refl
    where
      shown : has_row s.located ≡ true → Lies (row_of s) ≡ true
      shown e =
          let j = s.located.section in
          let (x, at, is) = section_in j s.located.home k.home in
          let loaded : x.loaded ≡ true = is.loaded ∙ (and_parts s.located.placed s.located.home.loaded e).1 in
          let fit : nat_le (s.offset + s.bytes) (size_of x.contents) ≡ true =
          ap (λ n. nat_le (s.offset + s.bytes) n) (size j s.located.home x k.home is) ∙ le-leb (s.offset + s.bytes) (end_of 0 (laid_in j h.laid)) l in
          ap (is_row_in (row_of s)) at ∙ ap (λ b. b && nat_le (s.offset + s.bytes) (size_of x.contents)) loaded ∙ fit

      go : (b : Bool) → has_row s.located ≡ b → list_all Lies (if b then row_of s ∷ [] else []) ≡ true
      go true e = ap (λ b. b && true) (shown e)
      go false e = refl

  rows_lie : (laid : List LaidStatement) → AllByRecursion (IsSettled homes) laid → AllByRecursion (λ s. Ends s.located.section s) laid → list_all Lies (flat_map rows_at laid) ≡ true
  rows_lie [] k l = refl
  rows_lie (s ∷ laid) (k, ks) (l, ls) =
      list_all-append Lies (rows_at s) (flat_map rows_at laid) ∙ ap (λ b. b && list_all Lies (flat_map rows_at laid)) (row_lies s k l) ∙ rows_lie laid ks ls

  pub sound : IsSound o
  sound = record {
    alignments = every (λ x. IsTrue (is_section_alignment x.alignment)) on_multiple;
    inside = every (λ x. IsTrue (fit_inside x.contents x.relocations)) fitting;
    paddings = every (λ x. IsTrue (are_paddings x.executable x.contents x.relocations)) padded;
    rows = ap (are_rows o.sections) h.rows ∙ rows_lie h.laid all_settled ends_inside;
  }
