-- The draft of a source: its statements in their sections, the bytes of these, and the fields that
-- stay open.

use Rattle.std.specs.Prelude.{◌≡◌, ℕ, ◌<◌, ◌≤◌, ◌^◌, true, List, [], flat_map, map, length, Some, option_map, slice_get, slice_index, if◌then◌else◌}
use Rattle.std.specs.List.{AllByRecursion, list_any}
use Rattle.rv_expression.specs.Nodes.{symbol_of}
use Rattle.rv_fault.specs.declared.source_fault.SourceFault.{SourceFault}
use Rattle.rv_fault.specs.declared.source_fault.SourceFault.TheVariants.{At, OutOfMemory}
use Rattle.rv_fault.specs.SourceFault.{source_fault_number}
use Rattle.rv_statement_laws.specs.Statement.{Statement}
use Rattle.rv_unit_laws.specs.Sections.{Section, is_nobits, goes_to_text}
use Rattle.rv_unit_laws.specs.Tables.{Tables, at_start, tables, longest_section, opened_of, alignment_at}
use Rattle.rv_source_laws.specs.Located.{located_from, has_row}
use Rattle.rv_source_laws.specs.Compressed.{is_compressed_code}
use Rattle.rv_assemble_laws.specs.Templates.{IsTemplate}
use Rattle.rv_source_laws.specs.Sizes.{AreLeast}
use Rattle.rv_assemble_laws.specs.LaidStatements.{LaidStatement, expression_value, part_bytes, parts, laid_in, Tile, end_of, HasSize}
use Rattle.rv_assemble_laws.specs.IsObjectOf.{StandsInData}
use Rattle.rv_assemble_laws.specs.Fields.{Field, fields}
pub use Rattle.rv_draft.specs.Code.{bytes_in}
use Rattle.rv_unit.specs.declared.item.Item.{Item}
use Rattle.rv_draft.specs.declared.field.OpenField.{OpenField}
use Rattle.rv_draft.specs.declared.draft.Draft.{Draft}
use Rattle.rv_draft.specs.Added.{IsCodeFault}

-- where a statement stands
abbrev pub item_of : LaidStatement → Item
item_of s = record {
  section = s.located.section;
  offset = s.offset;
  bytes = s.bytes;
  line = s.located.line;
  shown = has_row s.located;
  instructions = s.instructions;
}

abbrev pub field_of : OpenField → Field
field_of f = record {
  section = f.section;
  place = f.place;
  ordinal = f.ordinal;
  kind = f.kind;
  symbol = option_map symbol_of f.symbol;
  addend = f.addend;
}

-- the section of an index, with its statements
pub record IsDrafted (t : Tables) (index : ℕ) (home : Section) (laid : List LaidStatement)
    (d : Draft) : Type 0 where
  -- its statements follow one another
  pub tile : Tile t 0 laid
  pub stop : slice_index d.ends.items index ≡ end_of 0 laid
  pub short : end_of 0 laid ≤ longest_section
  -- one without bytes in the file has none
  pub bytes : bytes_in d.sections.items index
      ≡ (if is_nobits home then [] else flat_map part_bytes (parts t laid))
  pub code : goes_to_text home ≡ true → is_nobits home ≡ true →
      flat_map part_bytes (parts t laid) ≡ []
  -- the sizes of its statements
  pub sizes : AllByRecursion
      (λ s. s.located.placed ≡ true →
      HasSize (expression_value t s.located) s (alignment_at t index) s.located.kind) laid
  pub templates : AllByRecursion (λ p. IsTemplate p.template) (parts t laid)
  pub some : 1 ≤ alignment_at t index

abbrev pub AreDrafted : Tables → List LaidStatement → Draft → Type 0
AreDrafted t all d = (index : ℕ) (home : Section)
    → slice_get (opened_of t).sections index ≡ Some home
    → IsDrafted t index home (laid_in index all) d

-- the draft of a source
pub record IsDraft (ss : List Statement) (d : Draft) : Type 0 where
  pub laid : List LaidStatement
  pub located : map (λ s. s.located) laid ≡ located_from 1 1 (at_start ss) ss
  -- its ordinals are numbers of 32 bits
  pub few : length ss < 2 ^ 32
  pub stand : map item_of laid ≡ d.items.items
  pub counted : length d.sections.items ≡ length (opened_of (tables ss)).sections
  pub ended : length d.ends.items ≡ length (opened_of (tables ss)).sections
  pub each : AreDrafted (tables ss) laid d
  pub open_fields : map field_of d.fields.items ≡ fields (tables ss) laid
  pub places : AllByRecursion (StandsInData laid) (tables ss).assignments
  -- each branch has the least size that reaches
  pub least : AreLeast (tables ss) (located_from 1 1 (at_start ss) ss) (map (λ s. s.bytes) laid)
  pub compressed : d.rvc ≡ list_any (λ s. is_compressed_code s.located) laid

-- the first fault of a source as code, or of the sizes of its code; memory may run out
abbrev pub IsRefusedSource : List Statement → SourceFault → Type 0
IsRefusedSource ss (At code line) =
    IsCodeFault ss (record { code = source_fault_number code; line = line })
IsRefusedSource ss OutOfMemory = Unit {0}
