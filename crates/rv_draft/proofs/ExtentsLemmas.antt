-- Which section a statement stands in, and its faults there.

use Rattle.std.proofs.Common.{◌≡◌, ℕ, ◌+◌, ◌<◌, true, List, length, map, get_or, sym, ap, ◌∙◌, subst}
use Rattle.std.proofs.lemmas.List.{length-map}
use Rattle.std.proofs.lemmas.Option.{slice_get-get_or, slice_get_within, same_Some}
use Rattle.rv_statement_laws.specs.Statement.{Statement, Numbered}
use Rattle.rv_unit_laws.specs.Sections.{Section}
use Rattle.rv_unit_laws.specs.Tables.{Tables, SectionOffset as Standing, tables, value_by_tables}
use Rattle.rv_unit.specs.declared.section_offset.SectionOffset.{SectionOffset}
use Rattle.rv_unit.specs.declared.section.Extent.{Extent}
use Rattle.rv_unit.specs.Sections.{offset_of, extent_section}
use Rattle.rv_unit.specs.declared.unit.Unit.{Unit as SourceUnit}
use Rattle.rv_unit.specs.Unit.{said, IsFilled}
use Rattle.rv_assemble_laws.specs.InstructionFaults.{instruction_faults, is_label}
use Rattle.rv_assemble_laws.specs.Refusals.{code_faults_at}
use Rattle.rv_draft.specs.Contents.{IsExtentAt}
use Rattle.rv_draft.proofs.StandingLemmas.{StandsAt, stands_at, located_at}

-- ---- the section of a statement

pub home_at : (u : SourceUnit) (i : ℕ) (s : Statement) (p : SectionOffset) (e : Extent) → StandsAt u i s p → IsExtentAt u.tables.extents.items p.section e → extent_section e ≡ (located_at (said u) i s).home
home_at u i s p e at there = same_Some (extent_section e) (located_at (said u) i s).home (sym there.section ∙ at.home)

-- the section of a statement is one of the unit's
pub stands_inside : (u : SourceUnit) (i : ℕ) (s : Statement) (p : SectionOffset) → StandsAt u i s p → p.section < length u.tables.extents.items
stands_inside u i s p at =
    subst (λ n. p.section < n) (length-map u.tables.extents.items extent_section)
    (slice_get_within (map extent_section u.tables.extents.items) p.section (located_at (said u) i s).home at.home)

pub place_inside : (u : SourceUnit) (i : ℕ) (d p : SectionOffset) → IsFilled u → i < length (said u) → p ≡ get_or u.places.items i d → p.section < length u.tables.extents.items
place_inside u i d p filled inside is =
    let none : Statement = record { line = 0; kind = Numbered 0 } in
    let x : Statement = get_or (said u) i none in
    stands_inside u i x p (stands_at u i x d p filled (slice_get-get_or (said u) i none inside) is)

-- the faults of a statement as code, by where it stands
abbrev pub faults_in : Tables → ℕ → Standing → Statement → List ℕ
faults_in t o p s = instruction_faults (λ e. value_by_tables t true o p e) (is_label t o) s.kind

pub faults_there : (u : SourceUnit) (i : ℕ) (x : Statement) (p : SectionOffset) → StandsAt u i x p
    → faults_in (tables (said u)) (i + 1) (offset_of p) x ≡ code_faults_at (tables (said u)) (located_at (said u) i x)
faults_there u i x p at = ap (λ (r : Standing). faults_in (tables (said u)) (i + 1) r x) at.place

-- whether its section is one of code
pub code_there : (u : SourceUnit) (i : ℕ) (x : Statement) (p : SectionOffset) (e : Extent) → StandsAt u i x p → IsExtentAt u.tables.extents.items p.section e
    → (extent_section e).executable ≡ (located_at (said u) i x).home.executable
code_there u i x p e at there = ap (λ (h : Section). h.executable) (home_at u i x p e at there)
