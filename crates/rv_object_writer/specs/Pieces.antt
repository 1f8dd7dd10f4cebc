-- What the pieces of the code stand for.

use Rattle.std.specs.Prelude.{◌≡◌, ℕ, ◌+◌, Bool, List, length, map, flat_map, if◌then◌else◌}
use Rattle.std.specs.List.{AllByRecursion}
use Rattle.rv_elf_laws.specs.declared.file_header.FileHeader.{FileHeader}
use Rattle.rv_elf_laws.specs.Fields.{rela_size, file_header_size, section_header_size}
use Rattle.rv_elf_laws.specs.Numbers.{sht_rela, et_rel, em_riscv}
use Rattle.rv_object_laws.specs.Object.{Object}
use Rattle.rv_object_file_laws.specs.Known.{IsRelocation, IsSymbol}
use Rattle.rv_object_file_laws.specs.Rows.{row_bytes}
use Rattle.rv_object_file_laws.specs.Written.{UnplacedSection, table_piece, rela_pieces, row_record, symtab_index, last_index, headers_offset, symbols_bytes, symbol_names, table_of}
use Rattle.rv_object_writer.specs.declared.pieces.Tables.{Tables}
use Rattle.rv_object_laws.specs.declared.row.Row.{Row}
use Rattle.rv_object_writer.specs.declared.piece.Body.{Body}
use Rattle.rv_object_writer.specs.declared.piece.Body.TheVariants.{Bytes, Rows}
use Rattle.rv_object_writer.specs.declared.piece.Piece.{Piece as DeclaredPiece}
use Rattle.rv_object_writer.specs.declared.tables.RelaTable.{RelaTable}

abbrev pub rows_bytes : List Row → List ℕ
rows_bytes rows = flat_map (λ row. row_bytes (row_record row)) rows

abbrev pub body_bytes : Body → List ℕ
body_bytes (Bytes bytes) = bytes.now
body_bytes (Rows rows) = rows_bytes rows.now

abbrev pub piece_of : DeclaredPiece → UnplacedSection
piece_of p = record {
  name = p.name.now;
  kind = p.kind;
  flags = p.flags;
  bytes = body_bytes p.body;
  size = p.size;
  link = p.link;
  info = p.info;
  alignment = p.alignment;
  entry_size = p.entry_size;
}

-- relocations by the symbols of the table of this index
abbrev pub rela_piece : ℕ → RelaTable → UnplacedSection
rela_piece symtab t = table_piece t.name.items sht_rela t.bytes.items symtab t.section 8 rela_size

-- the tables of an object
pub record AreTables (o : Object) (t : Tables) : Type 0 where
  pub index : t.symtab ≡ symtab_index o
  pub pieces : map (rela_piece t.symtab) t.relocations.items ≡ rela_pieces t.symtab 1 o.sections
  pub all_symbols : t.symbols.items ≡ symbols_bytes (last_index o) o
  pub all_names : t.names.items ≡ table_of (symbol_names o)

-- the numbers that the tables of an object are made of have the widths of their fields
pub record HaveKnownNumbers (o : Object) : Type 0 where
  pub fields : AllByRecursion (λ s. AllByRecursion IsRelocation s.relocations) o.sections
  pub all_symbols : AllByRecursion IsSymbol o.symbols

-- the header of a file with these sections, of which the last has their names
abbrev pub header_by : Bool → ℕ → List UnplacedSection → FileHeader
header_by rvc last ps = record {
  e_type = et_rel;
  e_machine = em_riscv;
  e_version = 1;
  e_entry = 0;
  e_phoff = 0;
  e_shoff = headers_offset file_header_size ps;
  e_flags = if rvc then 1 else 0;
  e_ehsize = file_header_size;
  e_phentsize = 0;
  e_phnum = 0;
  e_shentsize = section_header_size;
  e_shnum = 1 + length ps;
  e_shstrndx = last;
}
