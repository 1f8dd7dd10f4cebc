-- The object of a source whose paddings in code have shrunk to the least: what is left of it where the linker has made its moves.
-- All else is as in rv_assemble_laws: these are its definitions with such paddings, which no ALIGN marks.

use Rattle.std.specs.Prelude.{◌≡◌, ℕ, zero, suc, ◌*◌, ◌%◌, ◌≤◌, true, Bool, false, ⊤, List, [], ◌∷◌, flat_map, map, length, Option, None, unwrap_or, if◌then◌else◌}
use Rattle.std.specs.List.{AllByRecursion}
use Rattle.rv_isa_laws.specs.Bytes.{zeros}
use Rattle.rv_expression_laws.specs.Values.{Value}
use Rattle.rv_statement_laws.specs.Statement.{StatementKind, Label, Numbered, Instruction, Directs, Statement, Expression, Directive, Aligns, Emits}
use Rattle.rv_unit_laws.specs.Contributions.{Contribution, Nothing, Bytes, Alignment, contribution}
use Rattle.rv_unit_laws.specs.Sections.{Section as SourceSection, is_nobits, goes_to_text}
use Rattle.rv_unit_laws.specs.Tables.{Tables, at_start, tables, alignment_of, alignment_at, padding, HasDataSize}
use Rattle.rv_pseudo_laws.specs.Code.{code}
use Rattle.rv_source_laws.specs.Located.{located_from, masked}
use Rattle.rv_source_laws.specs.Fits.{needs_no_padding}
use Rattle.rv_object_laws.specs.Object.{Section, Symbol, Object}
use Rattle.rv_object_laws.specs.Padding.{no_operations, operations_in}
use Rattle.rv_link_laws.specs.Moves.{alignments_of}
use Rattle.rv_sources_link_theorems.proofs.names.ExportedLemmas.{exported}
use Rattle.rv_assemble_laws.specs.Coded.{is_constant, constants, IsCode}
use Rattle.rv_assemble_laws.specs.Refusals.{statements_fault}
use Rattle.rv_assemble_laws.specs.Symbols.{exports}
use Rattle.rv_assemble_laws.specs.Templates.{Template, Fixed, IsTemplate, templates_of_data}
use Rattle.rv_map_laws.specs.declared.map.SectionId.{SectionId}
use Rattle.rv_collect_laws.specs.Graph.{is_dropped}
use Rattle.rv_sources_link_theorems.proofs.sections.MaskedLemmas.{source_sections}
use Rattle.rv_sources_link_theorems.proofs.statements.MarkedLemmas.{part_fields}
use Rattle.rv_sources_link_theorems.proofs.statements.OrderedLemmas.{Follow, AreInOrder}
pub use Rattle.rv_assemble_laws.specs.LaidStatements.{LaidStatement, LaidPart, expression_value, laid_part, part_bytes, coded_templates, laid_in, end_of, IsMultiple}
pub use Rattle.rv_assemble_laws.specs.IsObjectOf.{Numbering, row_of, rows_at, relocation_at, relocations_from, contents_of, IsNumbered, ArePartsNumbered, IsInData, StandsInData}

-- ---- templates

abbrev pub padding_templates : Bool → ℕ → List Template
padding_templates true zero = []
padding_templates true (suc n) = Fixed (no_operations (suc n)) ∷ []
padding_templates false bytes = Fixed (zeros bytes) ∷ []

abbrev pub contribution_templates : Bool → (Expression → Value) → Contribution → ℕ → List Template
contribution_templates executable v Nothing bytes = []
contribution_templates executable v (Bytes contents) bytes = templates_of_data v contents bytes
contribution_templates executable v (Alignment form number) bytes = padding_templates executable bytes

abbrev pub shrunk_templates : Tables → LaidStatement → StatementKind → List Template
shrunk_templates t s (Label name) = []
shrunk_templates t s (Numbered number) = []
shrunk_templates t s (Instruction mnemonic operands) =
    let v = expression_value t s.located in
    coded_templates (part_fields t v s.located) (unwrap_or (code (constants v) s.located.options.rvc s.bytes mnemonic operands) []) s.coded
shrunk_templates t s (Directs directive) = contribution_templates s.located.home.executable (expression_value t s.located) (contribution directive) s.bytes

abbrev pub parts_of : Tables → LaidStatement → List LaidPart
parts_of t s = map (laid_part s.located.ordinal) (shrunk_templates t s s.located.kind)

abbrev pub parts : Tables → List LaidStatement → List LaidPart
parts t laid = flat_map (parts_of t) laid

abbrev pub Tile : Tables → ℕ → List LaidStatement → Type 0
Tile t offset laid = Follow (parts_of t) offset laid

-- ---- sizes

-- the least padding, in code none up to 2
abbrev pub IsPaddedIn : Bool → LaidStatement → Option ℕ → Type 0
IsPaddedIn true s alignment =
    (s.bytes ≡ (if needs_no_padding alignment then 0 else padding alignment s.offset)) × (s.bytes % 2 ≡ 0) × (s.instructions ≡ operations_in s.bytes)
IsPaddedIn false s alignment = (s.bytes ≡ padding alignment s.offset) × (s.instructions ≡ 0)

abbrev pub IsShrunkPadded : LaidStatement → ℕ → Value → Option ℕ → Type 0
IsShrunkPadded s multiple v alignment = (is_constant v ≡ true) × IsMultiple alignment multiple × IsPaddedIn s.located.home.executable s alignment

abbrev pub DirectiveSize : (Expression → Value) → LaidStatement → ℕ → Directive → Type 0
DirectiveSize v s multiple (Emits contents) = (s.instructions ≡ 0) × HasDataSize v contents s.bytes
DirectiveSize v s multiple (Aligns form e) = IsShrunkPadded s multiple (v e) (alignment_of v (Aligns form e))
DirectiveSize v s multiple _ = (s.bytes ≡ 0) × (s.instructions ≡ 0)

abbrev pub HasShrunkSize : (Expression → Value) → LaidStatement → ℕ → StatementKind → Type 0
HasShrunkSize v s multiple (Label name) = (s.bytes ≡ 0) × (s.instructions ≡ 0)
HasShrunkSize v s multiple (Numbered number) = (s.bytes ≡ 0) × (s.instructions ≡ 0)
HasShrunkSize v s multiple (Instruction mnemonic operands) = IsCode v s.located.options.rvc mnemonic operands s.bytes s.coded s.instructions
HasShrunkSize v s multiple (Directs directive) = DirectiveSize v s multiple directive

-- ---- sections

pub record IsSectionOf (t : Tables) (all : List LaidStatement) (number : Numbering) (symbols : List Symbol) (index : ℕ) (section : SourceSection) (laid : List LaidStatement) (x : Section) : Type 0 where
  pub loaded : x.loaded ≡ section.loaded
  pub executable : x.executable ≡ section.executable
  pub writable : x.writable ≡ section.writable
  pub alignment : x.alignment ≡ alignment_at t index
  pub some : 1 ≤ x.alignment
  pub tile : Tile t 0 laid
  pub contents : x.contents ≡ contents_of section.section_type (end_of 0 laid) (flat_map part_bytes (parts t laid))
  pub code : goes_to_text section ≡ true → is_nobits section ≡ true → flat_map part_bytes (parts t laid) ≡ []
  pub relocations : x.relocations ≡ (if section.loaded then relocations_from number 0 (parts t laid) else [])
  pub numbered : section.loaded ≡ true → ArePartsNumbered t all number symbols (parts t laid)
  pub sizes : section.loaded ≡ true → AllByRecursion (λ s. s.located.placed ≡ true → HasShrunkSize (expression_value t s.located) s x.alignment s.located.kind) laid
  pub fields : AllByRecursion (λ p. IsTemplate p.template) (parts t laid)
  -- nothing moves any more
  pub plain : alignments_of x ≡ []

abbrev pub AreSectionsOf : Tables → List LaidStatement → Numbering → List Symbol → ℕ → List SourceSection → List Section → Type 0
AreSectionsOf t all number symbols index sections xs = AreInOrder (IsSectionOf t all number symbols) all index sections xs

-- ---- the whole

pub record IsObjectOf (ss : List Statement) (o : Object) : Type 0 where
  -- the sections without an address, by their indices
  pub dropped : ℕ → Bool
  pub good : statements_fault ss ≡ None
  pub laid : List LaidStatement
  pub located : map (λ s. s.located) laid ≡ map (masked dropped) (located_from 1 1 (at_start ss) ss)
  pub places : AllByRecursion (StandsInData laid) (tables ss).assignments
  pub number : Numbering
  pub sections : AreSectionsOf (tables ss) laid number o.symbols 0 (source_sections dropped ss) o.sections
  pub exported_are : exported o ≡ exports (tables ss) laid
  pub rows : o.rows ≡ flat_map rows_at laid

abbrev pub AreObjectsOf : List (List Statement) → List Object → Type 0
AreObjectsOf [] [] = ⊤
AreObjectsOf [] (o ∷ os) = ⊥
AreObjectsOf (ss ∷ sources) [] = ⊥
AreObjectsOf (ss ∷ sources) (o ∷ os) = IsObjectOf ss o × AreObjectsOf sources os

-- what is dropped of each, files numbered from one on
abbrev pub AreMasked : List SectionId → ℕ → (sources : List (List Statement)) (os : List Object) → AreObjectsOf sources os → Type 0
AreMasked drops file [] [] h = ⊤
AreMasked drops file [] (o ∷ os) h = absurd h
AreMasked drops file (ss ∷ sources) [] h = absurd h
AreMasked drops file (ss ∷ sources) (o ∷ os) (is, h) = (is.dropped ≡ is_dropped drops file) × AreMasked drops (suc file) sources os h
