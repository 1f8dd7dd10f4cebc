-- The object of a source (gABI, "Sections", "Symbol Table", "Relocation"; RISC-V ELF psABI,
-- "Relocations"): what assembling is. It is said of each section, templates in order and open
-- fields, and not of windows of bytes, so that the law that joins assembler and linker is one
-- induction.

use Rattle.std.specs.Prelude.{◌≡◌, ℕ, suc, ◌+◌, ◌≤◌, true, false, ⊤, List, [], ◌∷◌, ◌++◌, flat_map, map, length, Option, Some, None, option_map, if◌then◌else◌}
use Rattle.std.specs.List.{AllByRecursion, list_any, slice_get}
use Rattle.rv_expression_laws.specs.Expression.{Primary}
use Rattle.rv_statement_laws.specs.Statement.{Statement}
use Rattle.rv_unit_laws.specs.declared.section_type.SectionType.{SectionType}
use Rattle.rv_unit_laws.specs.declared.section_type.SectionType.TheVariants as types
use Rattle.rv_unit_laws.specs.Sections.{Section as SourceSection, is_nobits, goes_to_text}
use Rattle.rv_unit_laws.specs.Tables.{Tables, Assignment, at_start, tables, is_location, opened_of, alignment_at, longest_section}
use Rattle.rv_source_laws.specs.Located.{located_from, has_row}
use Rattle.rv_source_laws.specs.Compressed.{is_compressed_code}
use Rattle.rv_object_laws.specs.declared.row.Row.{Row}
use Rattle.rv_object_laws.specs.Object.{Contents, Progbits, Note, Nobits, Relocation, Section, Symbol, Object}
use Rattle.rv_assemble_laws.specs.Refusals.{statements_fault}
use Rattle.rv_assemble_laws.specs.Templates.{Open, template_fields, IsTemplate}
use Rattle.rv_assemble_laws.specs.LaidStatements.{LaidStatement, LaidPart, expression_value, part_bytes, parts, laid_in, Tile, end_of, HasSize}
use Rattle.rv_source_laws.specs.Sizes.{AreLeast}
use Rattle.rv_assemble_laws.specs.Symbols.{SymbolUse, references_in, laid_at, symbols_of, StandsFor}

-- ---- rows

abbrev pub row_of : LaidStatement → Row
row_of s = record {
  line = s.located.line;
  ordinal = s.located.ordinal;
  section = s.located.section;
  offset = s.offset;
  bytes = s.bytes;
  instructions = s.instructions;
}

-- each statement that has a place in memory has a row
abbrev pub rows_at : LaidStatement → List Row
rows_at s = if has_row s.located then row_of s ∷ [] else []

-- ---- relocations

-- symbols are numbered by what a statement of an ordinal means by them
abbrev pub Numbering : Type 0
Numbering = ℕ → Primary → ℕ

abbrev pub relocation_at : Numbering → ℕ → Open → Relocation
relocation_at number place f =
    record {
      place = place;
      kind = f.kind;
      symbol = option_map (number f.ordinal) f.symbol;
      addend = f.addend;
    }

-- the fields of parts that follow one another from an offset on, each at the start of its part
abbrev pub relocations_from : Numbering → ℕ → List LaidPart → List Relocation
relocations_from number offset [] = []
relocations_from number offset (p ∷ ps) =
    map (relocation_at number offset) (template_fields p.ordinal p.template)
    ++ relocations_from number (offset + length (part_bytes p)) ps

-- ---- sections

-- the bytes of a section in its file, by its type; of one without bytes there its size
abbrev pub contents_of : SectionType → ℕ → List ℕ → Contents
contents_of types.Progbits size bytes = Progbits bytes
contents_of types.Note size bytes = Note bytes
contents_of types.Nobits size bytes = Nobits size

-- the symbol of a reference
abbrev pub IsNumbered : Tables → List LaidStatement → Numbering → List Symbol → SymbolUse → Type 0
IsNumbered t all number symbols r =
    StandsFor t all r.ordinal r.symbol (slice_get symbols (number r.ordinal r.symbol))

abbrev pub ArePartsNumbered : Tables → List LaidStatement → Numbering → List Symbol →
    List LaidPart →
    Type 0
ArePartsNumbered t all number symbols ps =
    AllByRecursion (λ p. AllByRecursion (IsNumbered t all number symbols) (references_in p)) ps

-- the section of an index, with its statements, where these are all statements and symbols of the
-- source
pub record IsSectionOf (t : Tables) (all : List LaidStatement) (number : Numbering)
    (symbols : List Symbol) (index : ℕ) (section : SourceSection) (laid : List LaidStatement)
    (x : Section) : Type 0 where
  pub name : x.name ≡ section.name
  pub loaded : x.loaded ≡ section.loaded
  pub executable : x.executable ≡ section.executable
  pub writable : x.writable ≡ section.writable
  -- the greatest of its alignments, of code 2 at least
  pub alignment : x.alignment ≡ alignment_at t index
  pub some : 1 ≤ x.alignment
  -- its statements follow one another
  pub tile : Tile t 0 laid
  pub contents : x.contents
      ≡ contents_of section.section_type (end_of 0 laid)
      (flat_map part_bytes (parts t laid))
  -- no code stands in a section without bytes in the file
  pub code : goes_to_text section ≡ true → is_nobits section ≡ true →
      flat_map part_bytes (parts t laid) ≡ []
  pub relocations : x.relocations
      ≡ (if section.loaded then relocations_from number 0 (parts t laid) else [])
  pub numbered : section.loaded ≡ true → ArePartsNumbered t all number symbols (parts t laid)
  -- the sizes of its statements
  pub sizes : AllByRecursion
      (λ s. s.located.placed ≡ true →
      HasSize (expression_value t s.located) s x.alignment s.located.kind) laid
  pub fields : AllByRecursion (λ p. IsTemplate p.template) (parts t laid)
  -- a section of code is not too long
  pub short : section.executable ≡ true → end_of 0 laid ≤ longest_section

abbrev pub AreSectionsOf : Tables → List LaidStatement → Numbering → List Symbol → ℕ →
    List SourceSection → List Section → Type 0
AreSectionsOf t all number symbols index [] [] = ⊤
AreSectionsOf t all number symbols index [] (x ∷ xs) = ⊥
AreSectionsOf t all number symbols index (section ∷ sections) [] = ⊥
AreSectionsOf t all number symbols index (section ∷ sections) (x ∷ xs) =
    IsSectionOf t all number symbols index section (laid_in index all) x
    × AreSectionsOf t all number symbols (suc index) sections xs

-- ---- the whole

-- a place that `.set` gives stands in no code
abbrev pub IsInData : Option LaidStatement → Type 0
IsInData None = ⊤
IsInData (Some s) = (s.located.home.executable ≡ false) × (s.located.placed ≡ true)

abbrev pub StandsInData : List LaidStatement → Assignment → Type 0
StandsInData laid a = is_location a ≡ true → IsInData (laid_at laid a.ordinal)

pub record IsObjectOf (ss : List Statement) (o : Object) : Type 0 where
  -- no label, directive or code is faulty
  pub good : statements_fault ss ≡ None
  -- the statements in their sections
  pub laid : List LaidStatement
  pub located : map (λ s. s.located) laid ≡ located_from 1 1 (at_start ss) ss
  pub places : AllByRecursion (StandsInData laid) (tables ss).assignments
  -- each branch has the least size that reaches
  pub least : AreLeast (tables ss) (located_from 1 1 (at_start ss) ss) (map (λ s. s.bytes) laid)
  -- the sections in the order in which the source opens them
  pub number : Numbering
  pub sections : AreSectionsOf (tables ss) laid number o.symbols 0
      (opened_of (tables ss)).sections o.sections
  pub symbols : o.symbols ≡ symbols_of (tables ss) laid
  -- a row for each statement with a place in memory
  pub rows : o.rows ≡ flat_map rows_at laid
  -- one of its statements is compressed code
  pub rvc : o.rvc ≡ list_any (λ s. is_compressed_code s.located) laid
