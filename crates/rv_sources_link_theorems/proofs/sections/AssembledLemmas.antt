-- The object of a source, whatever the sizes of its branches and calls are: as in rv_assemble_laws, but that a call may be one
-- instruction, with the mark of relaxation beside its field, and that only the symbols for all files are counted.

use Rattle.std.specs.Prelude.{◌≡◌, ℕ, Bool, ◌≤◌, true, ⊤, List, [], ◌∷◌, flat_map, map, None, unwrap_or, if◌then◌else◌}
use Rattle.std.specs.List.{AllByRecursion, list_any}
use Rattle.rv_statement_laws.specs.Statement.{StatementKind, Label, Numbered, Instruction, Directs, Statement}
use Rattle.rv_unit_laws.specs.Contributions.{contribution}
use Rattle.rv_unit_laws.specs.Sections.{Section as SourceSection, is_nobits, goes_to_text}
use Rattle.rv_unit_laws.specs.Tables.{Tables, at_start, tables, alignment_at, longest_section}
use Rattle.rv_pseudo_laws.specs.Code.{code}
use Rattle.rv_source_laws.specs.Located.{located_from, masked}
use Rattle.rv_source_laws.specs.Compressed.{is_compressed_code}
use Rattle.rv_object_laws.specs.Object.{Section, Symbol, Object}
use Rattle.rv_sources_link_theorems.proofs.names.ExportedLemmas.{exported}
use Rattle.rv_assemble_laws.specs.Coded.{constants}
use Rattle.rv_assemble_laws.specs.Refusals.{statements_fault}
use Rattle.rv_assemble_laws.specs.Symbols.{exports}
use Rattle.rv_assemble_laws.specs.Templates.{Template, IsTemplate, contribution_templates}
use Rattle.rv_assemble_laws.specs.LaidStatements.{LaidStatement, LaidPart, expression_value, laid_part, part_bytes, coded_templates, end_of, HasSize}
use Rattle.rv_assemble_laws.specs.IsObjectOf.{Numbering, rows_at, relocations_from, contents_of, ArePartsNumbered, StandsInData}
use Rattle.rv_sources_link_theorems.proofs.sections.MaskedLemmas.{source_sections}
use Rattle.rv_sources_link_theorems.proofs.statements.MarkedLemmas.{part_fields}
use Rattle.rv_sources_link_theorems.proofs.statements.OrderedLemmas.{Follow, AreInOrder}

-- ---- templates

abbrev pub assembled_templates : Tables → LaidStatement → StatementKind → List Template
assembled_templates t s (Label name) = []
assembled_templates t s (Numbered number) = []
assembled_templates t s (Instruction mnemonic operands) =
    let v = expression_value t s.located in
    coded_templates (part_fields t v s.located) (unwrap_or (code (constants v) s.located.options.rvc s.bytes mnemonic operands) []) s.coded
assembled_templates t s (Directs directive) = contribution_templates s.located.home.executable s.located.ordinal (expression_value t s.located) (contribution directive) s.bytes

abbrev pub parts_of : Tables → LaidStatement → List LaidPart
parts_of t s = map (laid_part s.located.ordinal) (assembled_templates t s s.located.kind)

abbrev pub parts : Tables → List LaidStatement → List LaidPart
parts t laid = flat_map (parts_of t) laid

abbrev pub Tile : Tables → ℕ → List LaidStatement → Type 0
Tile t offset laid = Follow (parts_of t) offset laid

-- ---- sections

pub record IsSectionOf (t : Tables) (all : List LaidStatement) (number : Numbering) (symbols : List Symbol) (index : ℕ) (section : SourceSection) (laid : List LaidStatement) (x : Section) : Type 0 where
  pub loaded : x.loaded ≡ section.loaded
  pub executable : x.executable ≡ section.executable
  pub writable : x.writable ≡ section.writable
  pub alignment : x.alignment ≡ alignment_at t index
  pub some : 1 ≤ x.alignment
  pub tile : Tile t 0 laid
  pub contents : x.contents ≡ contents_of section.section_type (end_of 0 laid) (flat_map part_bytes (parts t laid))
  pub code : goes_to_text section ≡ true → is_nobits section ≡ true → flat_map part_bytes (parts t laid) ≡ []
  pub relocations : x.relocations ≡ (if section.loaded then relocations_from number 0 (parts t laid) else [])
  pub numbered : section.loaded ≡ true → ArePartsNumbered t all number symbols (parts t laid)
  pub sizes : AllByRecursion (λ s. s.located.placed ≡ true → HasSize (expression_value t s.located) s x.alignment s.located.kind) laid
  pub fields : AllByRecursion (λ p. IsTemplate p.template) (parts t laid)
  pub short : section.executable ≡ true → end_of 0 laid ≤ longest_section

abbrev pub AreSectionsOf : Tables → List LaidStatement → Numbering → List Symbol → ℕ → List SourceSection → List Section → Type 0
AreSectionsOf t all number symbols index sections xs = AreInOrder (IsSectionOf t all number symbols) all index sections xs

-- ---- the whole

pub record IsAssembled (ss : List Statement) (o : Object) : Type 0 where
  -- the sections without an address, by their indices
  pub dropped : ℕ → Bool
  pub good : statements_fault ss ≡ None
  pub laid : List LaidStatement
  pub located : map (λ s. s.located) laid ≡ map (masked dropped) (located_from 1 1 (at_start ss) ss)
  pub places : AllByRecursion (StandsInData laid) (tables ss).assignments
  pub number : Numbering
  pub sections : AreSectionsOf (tables ss) laid number o.symbols 0 (source_sections dropped ss) o.sections
  pub exported_are : exported o ≡ exports (tables ss) laid
  pub rows : o.rows ≡ flat_map rows_at laid
  pub rvc : o.rvc ≡ list_any (λ s. is_compressed_code s.located) laid

abbrev pub AreAssembled : List (List Statement) → List Object → Type 0
AreAssembled [] [] = ⊤
AreAssembled [] (o ∷ os) = ⊥
AreAssembled (ss ∷ sources) [] = ⊥
AreAssembled (ss ∷ sources) (o ∷ os) = IsAssembled ss o × AreAssembled sources os
