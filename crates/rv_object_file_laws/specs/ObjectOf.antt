-- The object of a file (System V gABI, "ELF Header", "Sections", "Symbol Table", "Relocation";
-- RISC-V ELF psABI, "File Header").

use Rattle.std.specs.Prelude.{◌≡◌, ℕ, ◌/◌, ◌%◌, ◌==◌, max, List, [], drop, map, filter, unwrap_or, Option, Some, None, if◌then◌else◌}
use Rattle.rv_elf_laws.specs.declared.symbol.Symbol.{Symbol as SymbolRecord}
use Rattle.rv_elf_laws.specs.Fields.{number_in, ei_magic, ei_class, ei_data, ei_version, e_type, e_machine, e_flags}
use Rattle.rv_elf_laws.specs.Numbers.{elfmag, et_rel, em_riscv, shn_undef, shn_abs, stb_local, stb_weak}
use Rattle.rv_elf_laws.specs.Sections.{indexed_contents}
use Rattle.rv_object_laws.specs.declared.symbol.Binding.{Binding}
use Rattle.rv_object_laws.specs.declared.symbol.Binding.TheVariants.{Local, Global, Weak}
use Rattle.rv_object_laws.specs.declared.symbol.Definition.{Definition}
use Rattle.rv_object_laws.specs.declared.symbol.Definition.TheVariants.{Undefined, Absolute, InSection, Skipped}
use Rattle.rv_object_laws.specs.declared.row.Row.{Row}
use Rattle.rv_object_laws.specs.Object.{Section, Symbol, Object}
use Rattle.rv_object_file_laws.specs.Parts.{FileSection, sections, kept, kept_at, kept_before, name_at, name_of, contents_in, is_loaded, is_executable, is_writable, symbol_table, symbol_records, row_records, relocates, relas_of, relocations_in}
use Rattle.rv_object_file_laws.specs.Rows.{RowRecord}

-- a kept section: its alignment is 1 where the file has 0; only a loaded one keeps relocations
abbrev pub section_in : List ℕ → FileSection → Section
section_in file s = record {
  name = unwrap_or (name_of file s.header) [];
  loaded = is_loaded s.header;
  executable = is_executable s.header;
  writable = is_writable s.header;
  contents = contents_in file s.header;
  alignment = max 1 s.header.sh_addralign;
  relocations = if is_loaded s.header
      then relocations_in (relas_of file (filter (relocates s.index) (sections file))) else [];
}

-- the string table of the symbols' names
abbrev pub names_of : List ℕ → Option FileSection → List ℕ
names_of file None = []
names_of file (Some s) = indexed_contents file s.header.sh_link

abbrev pub binding_numbered : ℕ → Binding
binding_numbered number =
    if number == stb_local then Local else if number == stb_weak then Weak else Global

abbrev pub binding_in : SymbolRecord → Binding
binding_in s = binding_numbered (s.st_info / 16)

abbrev pub definition_by : List ℕ → SymbolRecord → Option FileSection → Definition
definition_by file s None = Skipped s.st_value
definition_by file s (Some section) = InSection (kept_before file section.index) s.st_value

-- a section that is not kept leaves its symbols their values
abbrev pub definition_in : List ℕ → SymbolRecord → Definition
definition_in file s = if s.st_shndx == shn_undef then Undefined
    else if s.st_shndx == shn_abs then Absolute s.st_value
    else definition_by file s (kept_at file s.st_shndx)

abbrev pub symbol_in : List ℕ → SymbolRecord → Symbol
symbol_in file s = record {
  name = unwrap_or (name_at (names_of file (symbol_table file)) s.st_name) [];
  binding = binding_in s;
  definition = definition_in file s;
}

abbrev pub row_in : List ℕ → RowRecord → Row
row_in file r = record {
  line = r.r_line;
  ordinal = r.r_ordinal;
  section = kept_before file r.r_section;
  offset = r.r_offset;
  bytes = r.r_bytes;
  instructions = r.r_instructions;
}

-- the file is an object of this machine, and the object has its sections, its symbols after symbol
-- 0, its rows and its flag of compressed code
pub record ObjectOf (file : List ℕ) (o : Object) : Type 0 where
  pub is_elf : number_in ei_magic 0 file ≡ elfmag
  -- 64 bits, little-endian, version 1
  pub class : number_in ei_class 0 file ≡ 2
  pub order : number_in ei_data 0 file ≡ 1
  pub version : number_in ei_version 0 file ≡ 1
  pub object : number_in e_type 0 file ≡ et_rel
  pub riscv : number_in e_machine 0 file ≡ em_riscv
  pub sections : o.sections ≡ map (section_in file) (kept file)
  pub symbols : o.symbols ≡ map (symbol_in file) (drop 1 (symbol_records file))
  pub rows : o.rows ≡ map (row_in file) (row_records file)
  -- EF_RISCV_RVC
  pub rvc : o.rvc ≡ (number_in e_flags 0 file % 2 == 1)
