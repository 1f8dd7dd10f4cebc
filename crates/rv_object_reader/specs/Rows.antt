-- A row of the section `.rv.rows`, as the code has it and as the definitions of files have it, and
-- the section that it lies in.

use Rattle.std.specs.Prelude.{ℕ, ◌+◌, Bool, false, nat_le, Option, Some, None, if◌then◌else◌}
use Rattle.rv_object_reader.specs.declared.row_record.RowRecord.{RowRecord}
use Rattle.rv_object_file_laws.specs.Parts.{FileSection, is_loaded}
use Rattle.rv_object_file_laws.specs.Rows.{RowRecord as Record}

abbrev pub record_of : RowRecord → Record
record_of r = record {
  r_line = r.r_line;
  r_ordinal = r.r_ordinal;
  r_section = r.r_section;
  r_instructions = r.r_instructions;
  r_offset = r.r_offset;
  r_bytes = r.r_bytes;
  r_reserved = r.r_reserved;
}

-- how many bytes a kept section has for rows: none where it has no place in memory
abbrev pub room_of : Option FileSection → Option ℕ
room_of None = None
room_of (Some s) = if is_loaded s.header then Some s.header.sh_size else None

-- the row lies in a section of so many bytes
abbrev pub row_lies_in : Record → Option ℕ → Bool
row_lies_in r None = false
row_lies_in r (Some size) = nat_le (r.r_offset + r.r_bytes) size
