-- A unit of .debug_line (DWARF 5, 6.2.4): version 5, in the 32-bit format (7.4), for addresses of
-- eight bytes, with one directory.

use Rattle.std.specs.Prelude.{ℕ, ◌≡◌, ◌+◌, ◌<◌, ◌==◌, ℤ, pos, negsuc, ◌-ℤ◌, nat_lt, true, not, List, [], ◌∷◌, ◌++◌, length, take, drop, flat_map, slice_index, Option, if◌then◌else◌}
use Rattle.std.specs.Int.{w32, to_le_bytes, from_le_bytes}
use Rattle.rv_debug_laws.specs.declared.line_row.SourceFile.{SourceFile}
use Rattle.rv_debug_laws.specs.Leb128.{IsUnsigned}
use Rattle.rv_debug_laws.specs.LineProgram.{Header, Entry, line_table}

-- what the opcodes mean in the programs that are written: instructions begin anywhere, since data
-- may stand before them, and -5 to 8 lines go with a special opcode
abbrev pub header : Header
header = record {
  minimum_instruction_length = 1;
  default_is_stmt = true;
  line_base = negsuc 4;
  line_range = 14;
  opcode_base = 13;
}

-- the fields that say so, with maximum_operations_per_instruction second, and
-- standard_opcode_lengths
abbrev pub machine_fields : List ℕ
machine_fields =
    1 ∷ 1 ∷ 1 ∷ 251 ∷ 14 ∷ 13
    ∷ 0 ∷ 1 ∷ 1 ∷ 1 ∷ 1 ∷ 0 ∷ 0 ∷ 0 ∷ 1 ∷ 0 ∷ 0 ∷ 1
    ∷ []

-- a path, and 0 behind it (DW_FORM_string, 7.5.5)
abbrev pub string : List ℕ → List ℕ
string path = path ++ 0 ∷ []

-- a file: its path, and the number of the one directory (DW_FORM_data1)
abbrev pub file_entry : SourceFile → List ℕ
file_entry f = string f.path.now ++ 0 ∷ []

-- the fields between header_length and the program. A path is DW_LNCT_path, 1, as DW_FORM_string,
-- 8; a directory's number DW_LNCT_directory_index, 2, as DW_FORM_data1, 11
pub record AreFields (fields directory : List ℕ) (files : List SourceFile) : Type 0 where
  pub count : List ℕ
  pub counted : IsUnsigned count (length files)
  pub is : fields
      ≡ machine_fields ++ (1 ∷ 1 ∷ 8 ∷ 1 ∷ string directory) ++ (2 ∷ 1 ∷ 8 ∷ 2 ∷ 11 ∷ count)
      ++ flat_map file_entry files

-- four bytes that say how many bytes are behind them, and those
abbrev pub sized : List ℕ → List ℕ
sized bytes = to_le_bytes w32 (length bytes) ++ bytes

-- unit_length, version, address_size, segment_selector_size, header_length, the other fields, the
-- program
abbrev pub unit_bytes : (fields program : List ℕ) → List ℕ
unit_bytes fields program = sized (5 ∷ 0 ∷ 8 ∷ 0 ∷ sized fields ++ program)

-- a unit whose length is none of the escapes (7.4)
pub record IsUnit (unit directory : List ℕ) (files : List SourceFile) (program : List ℕ) : Type 0
  where
    pub fields : List ℕ
    pub has : AreFields fields directory files
    pub short : 8 + length fields + length program < 0xffff_fff0
    pub is : unit ≡ unit_bytes fields program

-- How a reader finds the program: by the two lengths, and by the fields that say what opcodes mean.
abbrev pub length_at : ℕ → List ℕ → ℕ
length_at offset bytes = from_le_bytes w32 (take 4 (drop offset bytes))

-- the unit at the front of some bytes, and its program
abbrev pub unit_of : List ℕ → List ℕ
unit_of bytes = take (4 + length_at 0 bytes) bytes

abbrev pub program_of : List ℕ → List ℕ
program_of unit = drop (12 + length_at 8 unit) unit

abbrev pub signed_byte : ℕ → ℤ
signed_byte b = if nat_lt b 128 then pos b else pos b -ℤ pos 256

abbrev pub unit_header : List ℕ → Header
unit_header unit = record {
  minimum_instruction_length = slice_index unit 12;
  default_is_stmt = not (slice_index unit 14 == 0);
  line_base = signed_byte (slice_index unit 15);
  line_range = slice_index unit 16;
  opcode_base = slice_index unit 17;
}

-- the table of the unit at the front of a section
unfoldable pub table_at : List ℕ → Option (List Entry)
table_at bytes = line_table (unit_header (unit_of bytes)) (program_of (unit_of bytes))
