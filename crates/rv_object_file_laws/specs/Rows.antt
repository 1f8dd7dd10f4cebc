-- The records of the section `.rv.rows`, of 32 bytes (this project's format): where a statement of
-- the source stands.

use Rattle.std.specs.Prelude.{ℕ, List, ◌++◌, length, codes, ◌/◌}
use Rattle.rv_elf_laws.specs.Fields.{Field, field, number_in, bytes_of}
use Rattle.rv_elf_laws.specs.Sections.{records}

abbrev pub rows_name : List ℕ
rows_name = codes ".rv.rows"

abbrev pub row_size : ℕ
row_size = 32

abbrev pub line : Field
line = field 0 4

abbrev pub ordinal : Field
ordinal = field 4 4

-- the index of the section in the file
abbrev pub section : Field
section = field 8 4

abbrev pub instructions : Field
instructions = field 12 4

abbrev pub offset : Field
offset = field 16 8

abbrev pub bytes : Field
bytes = field 24 4

-- always 0
abbrev pub reserved : Field
reserved = field 28 4

pub record RowRecord : Type 0 where
  pub r_line : ℕ
  pub r_ordinal : ℕ
  pub r_section : ℕ
  pub r_instructions : ℕ
  pub r_offset : ℕ
  pub r_bytes : ℕ
  pub r_reserved : ℕ

abbrev pub row_at : ℕ → List ℕ → RowRecord
row_at place table = record {
  r_line = number_in line place table;
  r_ordinal = number_in ordinal place table;
  r_section = number_in section place table;
  r_instructions = number_in instructions place table;
  r_offset = number_in offset place table;
  r_bytes = number_in bytes place table;
  r_reserved = number_in reserved place table;
}

unfoldable pub row_bytes : RowRecord → List ℕ
row_bytes r = bytes_of line r.r_line
    ++ (bytes_of ordinal r.r_ordinal ++ (bytes_of section r.r_section
    ++ (bytes_of instructions r.r_instructions ++ (bytes_of offset r.r_offset
    ++ (bytes_of bytes r.r_bytes ++ bytes_of reserved r.r_reserved)))))

-- all rows of a section of these bytes
abbrev pub rows_in : List ℕ → List RowRecord
rows_in table = records row_at row_size (length table / row_size) 0 table
