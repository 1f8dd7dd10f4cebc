-- The line table of what a source says of lines, as statements behind its last one: a unit of
-- DWARF 5, or of DWARF 4 where the source names no file 0 (DWARF 5 and 4, 6.2.4, 6.2.5). Each part is
-- said by the text that it makes of the text before it.

use Rattle.std.specs.Prelude.{ℕ, ◌+◌, ◌-◌, ◌/◌, ◌%◌, ◌==◌, nat_lt, Bool, true, false, not, List, [], ◌∷◌, ◌++◌, length, take, drop, codes, Option, Some, None, slice_get, if◌then◌else◌}
use Rattle.rv_debug_sources.specs.declared.line.SourcePart.{SourcePart}
use Rattle.rv_debug_sources.specs.declared.line.FileName.{FileName}
use Rattle.rv_debug_sources.specs.declared.line.LineRow.{LineRow}
use Rattle.rv_debug_sources.specs.declared.line.LineStep.{LineStep}
use Rattle.rv_debug_sources.specs.declared.line.LineStep.TheVariants.{Row, End}
use Rattle.rv_debug_sources.specs.Leb128.{digit, byte_text, part_text, unsigned_text, signed_text}
use Rattle.rv_debug_sources.specs.Lines.{Said}

-- the bytes from one offset to another
abbrev pub part : (from to : ℕ) → List ℕ → List ℕ
part from to bytes = take (to - from) (drop from bytes)

-- ---- labels: an offset in the source, as eight digits behind a front

abbrev pub with_digits : List ℕ → ℕ → List ℕ
with_digits text b = text ++ digit (b / 16) ∷ digit (b % 16) ∷ []

abbrev pub with_offset : List ℕ → ℕ → List ℕ
with_offset text at =
    with_digits
    (with_digits
    (with_digits (with_digits text (at / 16777216)) (at / 65536 % 256))
    (at / 256 % 256))
    (at % 256)

abbrev pub row_front : List ℕ
row_front = codes ".Lrv_loc_"

abbrev pub end_front : List ℕ
end_front = codes ".Lrv_end_"

abbrev pub last_label : List ℕ
last_label = codes ".Lrv_line_last"

abbrev pub with_label : List ℕ → (front : List ℕ) → (at : ℕ) → List ℕ
with_label text front at = with_offset (text ++ front) at

-- ---- the program

-- DW_LNE_set_address, with a label behind it
abbrev pub address_word : List ℕ
address_word = codes ".byte 0,9,2\n.8byte "

-- DW_LNE_end_sequence
abbrev pub end_word : List ℕ
end_word = codes "\n.byte 0,1,1\n"

abbrev pub number_behind : List ℕ → (front : List ℕ) → ℕ → List ℕ
number_behind text front n = (text ++ front) ++ unsigned_text 10 n

-- DW_LNS_advance_line
abbrev pub advance_word : List ℕ
advance_word = codes "\n.byte 3,"

abbrev pub with_advance : List ℕ → (from to : ℕ) → List ℕ
with_advance text from to =
    if nat_lt to from then (text ++ advance_word) ++ signed_text 10 true (from - to - 1)
    else (text ++ advance_word) ++ signed_text 10 false (to - from)

-- a register that has another number now
abbrev pub with_register : List ℕ → (front : List ℕ) → (old new : ℕ) → List ℕ
with_register text front old new = if old == new then text else number_behind text front new

abbrev pub with_mark : List ℕ → Bool → (mark : List ℕ) → List ℕ
with_mark text false mark = text
with_mark text true mark = text ++ mark

-- an unsigned number in five bytes
abbrev pub with_five : List ℕ → ℕ → List ℕ
with_five text n =
    ((((text ++ part_text (n % 128 + 128)) ++ part_text (n / 128 % 128 + 128))
    ++ part_text (n / 16384 % 128 + 128)) ++ part_text (n / 2097152 % 128 + 128))
    ++ byte_text (n / 268435456 % 128)

-- DW_LNE_set_discriminator
abbrev pub with_discriminator : List ℕ → ℕ → List ℕ
with_discriminator text n = if n == 0 then text else with_five (text ++ codes ",0,6,4,") n

abbrev pub is_turned : (old new : Bool) → Bool
is_turned true new = not new
is_turned false new = new

-- DW_LNS_set_file, DW_LNS_set_column
abbrev pub with_place : List ℕ → (old new : LineRow) → List ℕ
with_place text old new =
    with_register
    (with_register
    (with_advance (with_label (text ++ address_word) row_front new.at) old.line new.line)
    (codes ",4,")
    old.file
    new.file)
    (codes ",5,")
    old.column
    new.column

-- DW_LNS_negate_stmt, DW_LNS_set_basic_block, DW_LNS_set_prologue_end, DW_LNS_set_epilogue_begin
abbrev pub with_marks : List ℕ → (is_stmt : Bool) → LineRow → List ℕ
with_marks text is_stmt row =
    with_mark
    (with_mark
    (with_mark
    (with_mark text (is_turned is_stmt row.is_stmt) (codes ",6"))
    row.basic_block
    (codes ",7"))
    row.prologue_end
    (codes ",10"))
    row.epilogue_begin
    (codes ",11")

-- a row behind another; DW_LNS_copy
abbrev pub with_row : List ℕ → (old new : LineRow) → List ℕ
with_row text old new =
    with_discriminator (with_marks (with_place text old new) old.is_stmt new) new.discriminator
    ++ codes ",1\n"

abbrev pub with_end : List ℕ → (at : ℕ) → List ℕ
with_end text at = with_label (text ++ address_word) end_front at ++ end_word

abbrev pub with_step : List ℕ → (old : LineRow) → LineStep → List ℕ
with_step text old (Row row) = with_row text old row
with_step text old (End at) = with_end text at

-- the registers at the start of a sequence (6.2.2), with is_stmt as the header says
abbrev pub first_registers : LineRow
first_registers = record {
  at = 0;
  file = 1;
  line = 1;
  column = 0;
  discriminator = 0;
  is_stmt = true;
  basic_block = false;
  prologue_end = false;
  epilogue_begin = false;
}

abbrev pub registers_behind : LineStep → LineRow
registers_behind (Row row) = row
registers_behind (End at) = first_registers

abbrev pub with_steps : List ℕ → (registers : LineRow) → List LineStep → List ℕ
with_steps text registers [] = text
with_steps text registers (s ∷ ss) = with_steps (with_step text registers s) (registers_behind s) ss

-- the last sequence ends behind the last statement
abbrev pub with_last : List ℕ → (is_open : Bool) → List ℕ
with_last text false = text
with_last text true = ((text ++ address_word) ++ last_label) ++ end_word

-- ---- the header

-- unit_length
abbrev pub unit_word : List ℕ
unit_word =
    codes "\n.Lrv_line_last:\n.section .debug_line,\"a\"\n"
    ++ codes ".4byte .Lrv_line_end-.Lrv_line_unit\n.Lrv_line_unit:\n"

-- version, address_size and segment_selector_size
abbrev pub version_word : (is_five : Bool) → List ℕ
version_word true = codes ".2byte 5\n.byte 8,0\n"
version_word false = codes ".2byte 4\n"

-- header_length, and the fields that say what opcodes mean
abbrev pub fields_word : List ℕ
fields_word =
    codes ".4byte .Lrv_line_program-.Lrv_line_fields\n.Lrv_line_fields:\n"
    ++ codes ".byte 1,1,1,0xfb,14,13,0,1,1,1,1,0,0,0,1,0,0,1\n"

abbrev pub with_string : (source : List ℕ) → List ℕ → SourcePart → List ℕ
with_string source text p = (text ++ codes ".string ") ++ part p.start p.stop source

abbrev pub with_directories : (source : List ℕ) → List ℕ → List SourcePart → List ℕ
with_directories source text [] = text
with_directories source text (p ∷ ps) =
    with_directories source (with_string source text p ++ codes "\n") ps

-- a path, the number of its directory, and, in DWARF 4, two numbers that say nothing
abbrev pub with_name : (source : List ℕ) → (behind : List ℕ) → List ℕ → FileName → List ℕ
with_name source behind text f =
    number_behind (with_string source text f.name) (codes "\n.byte ") f.directory ++ behind

abbrev pub with_names : (source : List ℕ) → (behind : List ℕ) → List ℕ → List FileName → List ℕ
with_names source behind text [] = text
with_names source behind text (f ∷ fs) =
    with_names source behind (with_name source behind text f) fs

-- DW_LNCT_path, 1, as DW_FORM_string, 8; DW_LNCT_directory_index, 2, as DW_FORM_udata, 15
abbrev pub with_files_five : (source : List ℕ) → List ℕ → Said → List ℕ
with_files_five source text s =
    with_names
    source
    (codes "\n")
    (number_behind
    (with_directories
    source
    (number_behind text (codes ".byte 1,1,8,") (length s.directories) ++ codes "\n")
    s.directories)
    (codes ".byte 2,1,8,2,15,")
    (length s.names)
    ++ codes "\n")
    s.names

abbrev pub with_files_four : (source : List ℕ) → List ℕ → Said → List ℕ
with_files_four source text s =
    with_names
    source
    (codes ",0,0\n")
    (with_directories source text s.directories ++ codes ".byte 0\n")
    s.names
    ++ codes ".byte 0\n"

abbrev pub with_header : (source : List ℕ) → (is_five : Bool) → List ℕ → Said → List ℕ
with_header source true text s =
    with_files_five source (((text ++ unit_word) ++ version_word true) ++ fields_word) s
with_header source false text s =
    with_files_four source (((text ++ unit_word) ++ version_word false) ++ fields_word) s

-- ---- the table

abbrev pub with_program : List ℕ → Said → List ℕ
with_program text s =
    with_last (with_steps (text ++ codes ".Lrv_line_program:\n") first_registers s.steps) s.is_open
    ++ codes ".Lrv_line_end:\n"

-- a text with the table behind it, if the source names files, of which this is the first
abbrev pub with_table_of : (source : List ℕ) → List ℕ → Said → Option FileName → List ℕ
with_table_of source text s None = text
with_table_of source text s (Some f) =
    with_program (with_header source (f.number == 0) text s) s

abbrev pub with_table : (source : List ℕ) → List ℕ → Said → List ℕ
with_table source text s = with_table_of source text s (slice_get s.names 0)
