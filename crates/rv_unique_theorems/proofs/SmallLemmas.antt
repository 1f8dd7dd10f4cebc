-- An object of a source has few sections, and those of code are short.

use Rattle.std.proofs.Common.{◌≡◌, ℕ, suc, ◌+◌, ◌<◌, ◌≤◌, true, ◌&&◌, List, [], ◌∷◌, length, refl, sym, ap, ◌∙◌, subst, arith, Option, Some, None, length-append}
use Rattle.std.specs.Prelude.{flat_map}
use Rattle.std.specs.List.{AllByRecursion}
use Rattle.std.proofs.lemmas.Bool.{and_parts, ltb-true}
use Rattle.rv_statement_laws.specs.Statement.{Statement}
use Rattle.rv_unit_laws.specs.Sections.{Section as SourceSection, Opened, most_sections}
use Rattle.rv_unit_laws.specs.Tables.{Tables, at_start, with_section, after, after_all, tables, opened_of, longest_section}
use Rattle.rv_unit_laws.proofs.EnteringLemmas.{sections_more, sections_count, entering}
use Rattle.rv_unit_laws.proofs.OpenedLemmas.{entered_in, after_opened}
use Rattle.rv_object_laws.specs.Object.{Section, Symbol, Object, size_of}
use Rattle.rv_assemble_laws.specs.LaidStatements.{LaidStatement, end_of, part_bytes, parts, laid_in}
use Rattle.rv_assemble_laws.specs.IsObjectOf.{Numbering, IsSectionOf, AreSectionsOf, IsObjectOf}
use Rattle.rv_assemble_laws.proofs.FilledLemmas.{filled}
use Rattle.rv_assemble_laws.proofs.IsObjectOfLemmas.{stored_size}

-- ---- few sections

abbrev IsFew : Opened → Type 0
IsFew o = length o.sections ≤ most_sections

few_entered : (t : Tables) (found : Option SourceSection) → IsFew (opened_of t) → IsFew (opened_of (with_section t found))
few_entered t None h = h
few_entered t (Some s) h =
    entering (λ (u : Tables). IsFew (opened_of u)) t s (λ n at. h)
    (λ room. (
    let below : length t.extents < most_sections = ltb-true (length t.extents) most_sections room in
    let now = sections_count t in
    let more = ap length (sections_more t s) ∙ length-append (opened_of t).sections (s ∷ []) in
    omega (arith, below, now, more)
    )) h

few_after : (t : Tables) (k : ℕ) (ss : List Statement) → IsFew (opened_of t) → IsFew (opened_of (after_all t k ss))
few_after t k [] h = h
few_after t k (s ∷ ss) h = few_after (after t k s.kind) (suc k) ss (subst IsFew (sym (after_opened t k s.kind)) (few_entered t (entered_in s.kind) h))

few_start : (ss : List Statement) → IsFew (opened_of (at_start ss))
few_start ss = let one : length (opened_of (at_start ss)).sections ≡ 1 = refl in omega (arith, one)

same_count : (t : Tables) (all : List LaidStatement) (number : Numbering) (symbols : List Symbol) (k : ℕ) (homes : List SourceSection) (xs : List Section) → AreSectionsOf t all number symbols k homes xs
    → length xs ≡ length homes
same_count t all number symbols k [] [] h = refl
same_count t all number symbols k [] (x ∷ xs) h = absurd h
same_count t all number symbols k (home ∷ homes) [] h = absurd h
same_count t all number symbols k (home ∷ homes) (x ∷ xs) (h, hs) = ap suc (same_count t all number symbols (suc k) homes xs hs)

pub few_sections : (ss : List Statement) (o : Object) → IsObjectOf ss o → length o.sections ≤ most_sections
few_sections ss o h =
    subst (λ n. n ≤ most_sections) (sym (same_count (tables ss) h.laid h.number o.symbols 0 (opened_of (tables ss)).sections o.sections h.sections)) (few_after (at_start ss) 1 ss (few_start ss))

-- ---- short code

abbrev pub IsShort : Section → Type 0
IsShort x = (x.loaded && x.executable) ≡ true → size_of x.contents ≤ longest_section

one_short : (t : Tables) (all : List LaidStatement) (number : Numbering) (symbols : List Symbol) (k : ℕ) (home : SourceSection) (x : Section) → IsSectionOf t all number symbols k home (laid_in k all) x → IsShort x
one_short t all number symbols k home x h code =
    let laid = laid_in k all in
    let bytes = flat_map part_bytes (parts t laid) in
    let long : end_of 0 laid ≡ length bytes = filled t 0 laid h.tile ∙ (let n = length bytes in let e : 0 + n ≡ n = omega arith in e) in
    let size : size_of x.contents ≡ end_of 0 laid = ap size_of h.contents ∙ stored_size home.section_type (end_of 0 laid) bytes long in
    let short : end_of 0 laid ≤ longest_section = h.short (sym h.executable ∙ (and_parts x.loaded x.executable code).1) in
    subst (λ n. n ≤ longest_section) (sym size) short

all_short : (t : Tables) (all : List LaidStatement) (number : Numbering) (symbols : List Symbol) (k : ℕ) (homes : List SourceSection) (xs : List Section) → AreSectionsOf t all number symbols k homes xs
    → AllByRecursion IsShort xs
all_short t all number symbols k [] [] h = tt
all_short t all number symbols k [] (x ∷ xs) h = absurd h
all_short t all number symbols k (home ∷ homes) [] h = absurd h
all_short t all number symbols k (home ∷ homes) (x ∷ xs) (h, hs) = (one_short t all number symbols k home x h, all_short t all number symbols (suc k) homes xs hs)

pub short_sections : (ss : List Statement) (o : Object) → IsObjectOf ss o → AllByRecursion IsShort o.sections
short_sections ss o h = all_short (tables ss) h.laid h.number o.symbols 0 (opened_of (tables ss)).sections o.sections h.sections
