-- What a statement holds: its code, the padding of an alignment in code, or data.

use Rattle.std.specs.Prelude.{◌≡◌, ℕ, Bool, true, false, List, map, Some, slice_get, slice_index_or, if◌then◌else◌}
use Rattle.rv_expression_laws.specs.Values.{Value}
use Rattle.rv_statement_laws.specs.Statement.{StatementKind, Directs, Expression}
use Rattle.rv_statement.specs.declared.statement.StatementKind.{StatementKind as SourceKind}
use Rattle.rv_statement.specs.declared.statement.StatementKind.TheVariants.{Plain, With, WithFunction}
use Rattle.rv_unit_laws.specs.Tables.{Tables, alignment_of, data_bytes}
use Rattle.rv_unit.specs.declared.section.Extent.{Extent}
use Rattle.rv_unit.specs.Sections.{extent_section}
use Rattle.rv_source_laws.specs.Located.{Located}
use Rattle.rv_source_laws.specs.Sizes.{code_padding}
use Rattle.rv_assemble_laws.specs.Coded.{joined}
use Rattle.rv_assemble_laws.specs.LaidStatements.{expression_value}
use Rattle.rv_instruction.specs.declared.encoded.Coded.{Coded}
use Rattle.rv_instruction.specs.Code.{coded_by, HasCode}

-- the section at a place, with the multiple at which it asks to begin
pub record IsExtentAt (extents : List Extent) (place : ℕ) (e : Extent) : Type 0 where
  pub section : slice_get (map extent_section extents) place ≡ Some (extent_section e)
  pub alignment : slice_index_or (map (λ (x : Extent). x.alignment) extents) place 1 ≡ e.alignment

-- ---- code

abbrev pub is_instruction : SourceKind → Bool
is_instruction (Plain plain) = true
is_instruction (With operation expression) = true
is_instruction (WithFunction operation function expression) = true
is_instruction _ = false

-- the bytes of an instruction's parts
abbrev pub bytes_coded : List Coded → List ℕ
bytes_coded found = joined (coded_by found)

-- the code of a statement, part by part, by constants, however long a branch is asked to be; what
-- is no instruction has none
abbrev pub IsCoded : (Expression → Value) → Bool → StatementKind → List Coded → Type 0
IsCoded v rvc kind found = (asked : ℕ) × HasCode v rvc asked kind found

-- ---- beside code

-- the bytes of the padding of an alignment in a section of code
abbrev pub statement_padding : Bool → (Expression → Value) → StatementKind → ℕ
statement_padding executable v (Directs directive) =
    if executable then code_padding (alignment_of v directive) else 0
statement_padding executable v kind = 0

abbrev pub padding_at : Tables → Located → ℕ
padding_at t s = statement_padding s.home.executable (λ e. expression_value t s e) s.kind

-- the bytes of data at an offset, with the padding of an alignment there
abbrev pub data_of : (Expression → Value) → ℕ → StatementKind → ℕ
data_of v offset (Directs directive) = data_bytes v offset directive
data_of v offset kind = 0

-- the bytes of a statement that are no code: of padding in a section of code, else of data
abbrev pub beside_of : Bool → (Expression → Value) → ℕ → StatementKind → ℕ
beside_of executable v offset kind =
    if executable then statement_padding true v kind else data_of v offset kind

abbrev pub beside_at : Tables → Located → ℕ
beside_at t s = beside_of s.home.executable (λ e. expression_value t s e) s.offset s.kind
