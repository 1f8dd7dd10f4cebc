-- The file of an object (System V gABI, "ELF Header", "Sections", "String Table", "Symbol Table",
-- "Relocation"; this project's order of sections): the header; the contents of the sections,
-- each at a multiple of 8; and the section headers.

use Rattle.std.specs.Prelude.{ℕ, suc, ◌+◌, ◌-◌, ◌*◌, ◌≤◌, ◌<◌, ◌^◌, ◌==◌, Bool, not, List, [], ◌∷◌, ◌++◌, length, replicate, map, flat_map, filter, codes, bytes_eq, if◌then◌else◌, Option, Some, None}
use Rattle.std.specs.List.{list_any}
use Rattle.rv_isa.specs.Kinds.{number_of}
use Rattle.rv_elf_laws.specs.declared.file_header.FileHeader.{FileHeader}
use Rattle.rv_elf_laws.specs.declared.section_header.SectionHeader.{SectionHeader}
use Rattle.rv_elf_laws.specs.declared.symbol.Symbol.{Symbol as SymbolRecord}
use Rattle.rv_elf_laws.specs.declared.rela.Rela.{Rela}
use Rattle.rv_elf_laws.specs.Fields.{file_header_size, section_header_size, symbol_size, rela_size}
use Rattle.rv_elf_laws.specs.Numbers.{et_rel, em_riscv, sht_progbits, sht_symtab, sht_strtab, sht_rela, sht_note, sht_nobits, shf_write, shf_alloc, shf_execinstr, shn_undef, shn_abs, stb_local, stb_global, stb_weak}
use Rattle.rv_elf_laws.specs.Records.{file_header_bytes, section_header_bytes, symbol_bytes, rela_bytes}
use Rattle.rv_size_laws.specs.Alignment.{aligned}
use Rattle.rv_object_laws.specs.declared.symbol.Binding.{Binding}
use Rattle.rv_object_laws.specs.declared.symbol.Binding.TheVariants.{Local, Global, Weak}
use Rattle.rv_object_laws.specs.declared.symbol.Definition.{Definition}
use Rattle.rv_object_laws.specs.declared.symbol.Definition.TheVariants.{Undefined, Absolute, InSection, Skipped}
use Rattle.rv_object_laws.specs.declared.row.Row.{Row}
use Rattle.rv_object_laws.specs.Object.{Contents, Progbits, Note, Nobits, Relocation, Section, Symbol, Object, stored, size_of}
use Rattle.rv_object_file_laws.specs.Rows.{RowRecord, row_bytes, rows_name}

-- ---- tables of names

-- each of the names once, but for those seen before, in order of use
abbrev pub unseen : List (List ℕ) → List (List ℕ) → List (List ℕ)
unseen seen [] = []
unseen seen (name ∷ names) = if list_any (bytes_eq name) seen then unseen seen names
    else name ∷ unseen (seen ++ name ∷ []) names

-- the strings of a table of these names: the empty one comes first
abbrev pub strings_of : List (List ℕ) → List (List ℕ)
strings_of names = unseen [] ([] ∷ names)

-- each string ends in a zero byte
abbrev pub table_of : List (List ℕ) → List ℕ
table_of names = flat_map (λ name. name ++ 0 ∷ []) (strings_of names)

-- the offset of the string that equals a name
abbrev pub offset_in : List (List ℕ) → List ℕ → ℕ
offset_in [] name = 0
offset_in (string ∷ strings) name =
    if bytes_eq string name then 0 else length string + 1 + offset_in strings name

abbrev pub name_offset : List (List ℕ) → List ℕ → ℕ
name_offset names name = offset_in (strings_of names) name

-- ---- what a section becomes

-- a section of the file, but for its offset
pub record UnplacedSection : Type 0 where
  pub name : List ℕ
  pub kind : ℕ
  pub flags : ℕ
  pub bytes : List ℕ
  pub size : ℕ
  pub link : ℕ
  pub info : ℕ
  pub alignment : ℕ
  pub entry_size : ℕ

abbrev pub kind_of : Contents → ℕ
kind_of (Progbits bytes) = sht_progbits
kind_of (Note bytes) = sht_note
kind_of (Nobits size) = sht_nobits

abbrev pub flag_if : Bool → ℕ → ℕ
flag_if has flag = if has then flag else 0

abbrev pub flags_of : Section → ℕ
flags_of s =
    flag_if s.writable shf_write + flag_if s.loaded shf_alloc + flag_if s.executable shf_execinstr

abbrev pub section_piece : Section → UnplacedSection
section_piece s = record {
  name = s.name;
  kind = kind_of s.contents;
  flags = flags_of s;
  bytes = stored s.contents;
  size = size_of s.contents;
  link = 0;
  info = 0;
  alignment = s.alignment;
  entry_size = 0;
}

-- a table of records, or of bytes where the entry size is 0
abbrev pub table_piece : List ℕ → ℕ → List ℕ → ℕ → ℕ → ℕ → ℕ → UnplacedSection
table_piece name kind bytes link info alignment entry_size = record {
  name = name;
  kind = kind;
  flags = 0;
  bytes = bytes;
  size = length bytes;
  link = link;
  info = info;
  alignment = alignment;
  entry_size = entry_size;
}

-- ---- relocations

-- symbol 0 is the number 0; the object's symbols come after it
abbrev pub symbol_number : Option ℕ → ℕ
symbol_number None = 0
symbol_number (Some i) = suc i

abbrev pub rela_of : Relocation → Rela
rela_of r = record {
  r_offset = r.place;
  r_type = number_of r.kind;
  r_sym = symbol_number r.symbol;
  r_addend = r.addend;
}

abbrev pub relocations_bytes : List Relocation → List ℕ
relocations_bytes rs = flat_map (λ r. rela_bytes (rela_of r)) rs

-- one for each section that has relocations; the first section has index 1
abbrev pub rela_pieces : ℕ → ℕ → List Section → List UnplacedSection
rela_pieces symtab index [] = []
rela_pieces symtab index (s ∷ ss) =
    if length s.relocations == 0 then rela_pieces symtab (suc index) ss
    else table_piece (codes ".rela" ++ s.name) sht_rela (relocations_bytes s.relocations) symtab
    index 8 rela_size
    ∷ rela_pieces symtab (suc index) ss

-- ---- rows

abbrev pub row_record : Row → RowRecord
row_record r = record {
  r_line = r.line;
  r_ordinal = r.ordinal;
  r_section = suc r.section;
  r_instructions = r.instructions;
  r_offset = r.offset;
  r_bytes = r.bytes;
  r_reserved = 0;
}

abbrev pub row_pieces : List Row → List UnplacedSection
row_pieces [] = []
row_pieces (r ∷ rs) =
    table_piece rows_name sht_progbits (flat_map (λ row. row_bytes (row_record row)) (r ∷ rs))
    0 0 1 0 ∷ []

-- ---- symbols

abbrev pub binding_number : Binding → ℕ
binding_number Local = stb_local
binding_number Global = stb_global
binding_number Weak = stb_weak

-- the index of a symbol's section, and its value; one without an address names the last section
abbrev pub section_index_of : ℕ → Definition → ℕ
section_index_of last Undefined = shn_undef
section_index_of last (Absolute value) = shn_abs
section_index_of last (InSection section offset) = suc section
section_index_of last (Skipped value) = last

abbrev pub definition_value : Definition → ℕ
definition_value Undefined = 0
definition_value (Absolute value) = value
definition_value (InSection section offset) = offset
definition_value (Skipped value) = value

-- without a type and a size
abbrev pub symbol_record : List (List ℕ) → ℕ → Symbol → SymbolRecord
symbol_record names last s = record {
  st_name = name_offset names s.name;
  st_info = binding_number s.binding * 16;
  st_other = 0;
  st_shndx = section_index_of last s.definition;
  st_value = definition_value s.definition;
  st_size = 0;
}

abbrev pub symbol_names : Object → List (List ℕ)
symbol_names o = map (λ s. s.name) o.symbols

-- symbol 0 is all zeros
abbrev pub symbols_bytes : ℕ → Object → List ℕ
symbols_bytes last o = replicate symbol_size 0
    ++ flat_map (λ s. symbol_bytes (symbol_record (symbol_names o) last s)) o.symbols

abbrev pub is_local : Symbol → Bool
is_local s = binding_number s.binding == stb_local

abbrev pub locals : List Symbol → ℕ
locals [] = 0
locals (s ∷ ss) = if is_local s then suc (locals ss) else 0

-- ---- the sections

abbrev pub has_relocations : Section → Bool
has_relocations s = not (length s.relocations == 0)

-- the index of the symbol table; those of the tables of names follow
abbrev pub symtab_index : Object → ℕ
symtab_index o =
    1 + length o.sections + length (filter has_relocations o.sections) + length (row_pieces o.rows)

abbrev pub last_index : Object → ℕ
last_index o = symtab_index o + 2

-- all but the table of the sections' names
abbrev pub first_pieces : Object → List UnplacedSection
first_pieces o = map section_piece o.sections
    ++ (rela_pieces (symtab_index o) 1 o.sections
    ++ (row_pieces o.rows
    ++ (table_piece (codes ".symtab") sht_symtab (symbols_bytes (last_index o) o)
    (symtab_index o + 1) (1 + locals o.symbols) 8 symbol_size
    ∷ table_piece (codes ".strtab") sht_strtab (table_of (symbol_names o)) 0 0 1 0
    ∷ [])))

abbrev pub section_names : Object → List (List ℕ)
section_names o = map (λ p. p.name) (first_pieces o) ++ codes ".shstrtab" ∷ []

abbrev pub pieces : Object → List UnplacedSection
pieces o = first_pieces o
    ++ table_piece (codes ".shstrtab") sht_strtab (table_of (section_names o)) 0 0 1 0 ∷ []

-- ---- the file

-- the zeros up to the next multiple of 8
abbrev pub zeros_at : ℕ → List ℕ
zeros_at at = replicate (aligned 8 at - at) 0

-- the contents from an offset on, the last up to a multiple of 8 as well
abbrev pub contents_from : ℕ → List UnplacedSection → List ℕ
contents_from at [] = zeros_at at
contents_from at (p ∷ ps) =
    zeros_at at ++ (p.bytes ++ contents_from (aligned 8 at + length p.bytes) ps)

abbrev pub headers_offset : ℕ → List UnplacedSection → ℕ
headers_offset at [] = aligned 8 at
headers_offset at (p ∷ ps) = headers_offset (aligned 8 at + length p.bytes) ps

abbrev pub header_of : List (List ℕ) → ℕ → UnplacedSection → SectionHeader
header_of names at p = record {
  sh_name = name_offset names p.name;
  sh_type = p.kind;
  sh_flags = p.flags;
  sh_addr = 0;
  sh_offset = aligned 8 at;
  sh_size = p.size;
  sh_link = p.link;
  sh_info = p.info;
  sh_addralign = p.alignment;
  sh_entsize = p.entry_size;
}

abbrev pub headers_from : List (List ℕ) → ℕ → List UnplacedSection → List SectionHeader
headers_from names at [] = []
headers_from names at (p ∷ ps) =
    header_of names at p ∷ headers_from names (aligned 8 at + length p.bytes) ps

abbrev pub file_header_of : Object → FileHeader
file_header_of o = record {
  e_type = et_rel;
  e_machine = em_riscv;
  e_version = 1;
  e_entry = 0;
  e_phoff = 0;
  e_shoff = headers_offset file_header_size (pieces o);
  e_flags = if o.rvc then 1 else 0;
  e_ehsize = file_header_size;
  e_phentsize = 0;
  e_phnum = 0;
  e_shentsize = section_header_size;
  e_shnum = 1 + length (pieces o);
  e_shstrndx = last_index o;
}

-- the header of section 0 is all zeros
abbrev pub file_of : Object → List ℕ
file_of o = file_header_bytes (file_header_of o)
    ++ (contents_from file_header_size (pieces o)
    ++ (replicate section_header_size 0
    ++ flat_map section_header_bytes (headers_from (section_names o) file_header_size (pieces o))))

-- what the fields of a file can hold: the indices of its sections and symbols, and the offsets of
-- its names
pub record HasFile (o : Object) : Type 0 where
  pub sections : 1 + length (pieces o) ≤ 0xFEFF
  pub symbols : 1 + length o.symbols < 2 ^ 32
  pub symbol_strings : length (table_of (symbol_names o)) < 2 ^ 32
  pub section_strings : length (table_of (section_names o)) < 2 ^ 32
