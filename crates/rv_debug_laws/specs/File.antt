-- The bytes of a file with debug information: an executable, the table of section headers, and the
-- sections that are not loaded (System V gABI, "Sections", "Special Sections").

use Rattle.std.specs.Prelude.{ℕ, ◌+◌, ◌*◌, ◌-◌, ◌%◌, List, [], ◌∷◌, ◌++◌, length, take, drop, replicate, flat_map, codes}
use Rattle.rv_elf_laws.specs.declared.section_header.SectionHeader.{SectionHeader}
use Rattle.rv_elf_laws.specs.Fields.{bytes_of, e_shoff, e_shentsize, e_shnum, e_shstrndx, section_header_size, symbol_size}
use Rattle.rv_elf_laws.specs.Numbers.{sht_progbits, sht_symtab, sht_strtab, sht_nobits, shf_write, shf_alloc, shf_execinstr}
use Rattle.rv_elf_laws.specs.Records.{section_header_bytes}
use Rattle.rv_map_laws.specs.declared.map.Region.{Region}
use Rattle.rv_map_laws.specs.Map.{Map}
use Rattle.rv_debug_laws.specs.Units.{DebugBytes, abbreviations}

-- ---- sections, by their indices

abbrev pub section_names : List (List ℕ)
section_names =
    codes "" ∷ codes ".text" ∷ codes ".rodata" ∷ codes ".data" ∷ codes ".bss"
    ∷ codes ".symtab" ∷ codes ".strtab" ∷ codes ".shstrtab"
    ∷ codes ".debug_line" ∷ codes ".debug_info" ∷ codes ".debug_abbrev" ∷ codes ".debug_aranges"
    ∷ []

abbrev pub section_total : ℕ
section_total = 12

abbrev pub symtab_index : ℕ
symtab_index = 5

abbrev pub strtab_index : ℕ
strtab_index = 6

abbrev pub shstrtab_index : ℕ
shstrtab_index = 7

abbrev pub line_index : ℕ
line_index = 8

abbrev pub info_index : ℕ
info_index = 9

abbrev pub abbrev_index : ℕ
abbrev_index = 10

abbrev pub aranges_index : ℕ
aranges_index = 11

-- .shstrtab: the names, each with a zero behind it
abbrev pub section_strings : List ℕ
section_strings = flat_map (λ name. name ++ 0 ∷ []) section_names

-- ---- sections that are loaded: the regions of the map

-- where the executable has the bytes of its regions
pub record Places : Type 0 where
  pub text : ℕ
  pub rodata : ℕ
  pub «data» : ℕ

abbrev pub region_header : (name kind flags place : ℕ) → Region → SectionHeader
region_header name kind flags place r = record {
  sh_name = name;
  sh_type = kind;
  sh_flags = flags;
  sh_addr = r.start;
  sh_offset = place;
  sh_size = r.end - r.start;
  sh_link = 0;
  sh_info = 0;
  sh_addralign = 1;
  sh_entsize = 0;
}

abbrev pub loaded_headers : Map → Places → List SectionHeader
loaded_headers m at =
    region_header 1 sht_progbits (shf_alloc + shf_execinstr) at.text m.text
    ∷ region_header 7 sht_progbits shf_alloc at.rodata m.rodata
    ∷ region_header 15 sht_progbits (shf_write + shf_alloc) at.data m.data
    ∷ region_header 21 sht_nobits (shf_write + shf_alloc) 0 m.bss
    ∷ []

-- ---- sections that are not loaded

-- such a section, but for its place; its name is an offset in the names
pub record UnloadedPiece : Type 0 where
  pub name : ℕ
  pub kind : ℕ
  pub link : ℕ
  pub info : ℕ
  pub alignment : ℕ
  pub entry_size : ℕ
  pub bytes : List ℕ

abbrev pub plain_piece : (name kind : ℕ) → List ℕ → UnloadedPiece
plain_piece name kind bytes = record {
  name = name;
  kind = kind;
  link = 0;
  info = 0;
  alignment = 1;
  entry_size = 0;
  bytes = bytes;
}

-- the link of the symbols is the section of their names, their info the first that is not local
abbrev pub symbols_piece : (locals : ℕ) → List ℕ → UnloadedPiece
symbols_piece locals bytes = record {
  name = 26;
  kind = sht_symtab;
  link = strtab_index;
  info = 1 + locals;
  alignment = 8;
  entry_size = symbol_size;
  bytes = bytes;
}

abbrev pub pieces_of : (locals : ℕ) (symbols strings : List ℕ) → DebugBytes → List UnloadedPiece
pieces_of locals symbols strings debug =
    symbols_piece locals symbols
    ∷ plain_piece 34 sht_strtab strings
    ∷ plain_piece 42 sht_strtab section_strings
    ∷ plain_piece 52 sht_progbits debug.lines
    ∷ plain_piece 64 sht_progbits debug.info
    ∷ plain_piece 76 sht_progbits abbreviations
    ∷ plain_piece 90 sht_progbits debug.ranges
    ∷ []

abbrev pub piece_header : (place : ℕ) → UnloadedPiece → SectionHeader
piece_header place p = record {
  sh_name = p.name;
  sh_type = p.kind;
  sh_flags = 0;
  sh_addr = 0;
  sh_offset = place;
  sh_size = length p.bytes;
  sh_link = p.link;
  sh_info = p.info;
  sh_addralign = p.alignment;
  sh_entsize = p.entry_size;
}

-- their headers, where they stand one after another from a place on
abbrev pub headers_from : (place : ℕ) → List UnloadedPiece → List SectionHeader
headers_from place [] = []
headers_from place (p ∷ ps) = piece_header place p ∷ headers_from (place + length p.bytes) ps

-- ---- the file

-- the table begins behind the executable, at a multiple of 8
abbrev pub gap_behind : List ℕ → ℕ
gap_behind exe = (8 - length exe % 8) % 8

abbrev pub table_place : List ℕ → ℕ
table_place exe = length exe + gap_behind exe

-- a file, but for the four fields of its header that say where the table is, how many headers it
-- has, and which section has the names
abbrev pub retabled : List ℕ → (place count names : ℕ) → List ℕ
retabled file place count names =
    take 40 file ++ (bytes_of e_shoff place ++ (take 10 (drop 48 file)
    ++ (bytes_of e_shentsize section_header_size ++ (bytes_of e_shnum count
    ++ (bytes_of e_shstrndx names ++ drop 64 file)))))

abbrev pub with_table : List ℕ → List ℕ
with_table exe = retabled exe (table_place exe) section_total shstrtab_index

abbrev pub null_header : SectionHeader
null_header = record {
  sh_name = 0;
  sh_type = 0;
  sh_flags = 0;
  sh_addr = 0;
  sh_offset = 0;
  sh_size = 0;
  sh_link = 0;
  sh_info = 0;
  sh_addralign = 0;
  sh_entsize = 0;
}

abbrev pub all_headers : List ℕ → Map → Places → List UnloadedPiece → List SectionHeader
all_headers exe m at pieces =
    (null_header ∷ loaded_headers m at)
    ++ headers_from (table_place exe + section_header_size * section_total) pieces

abbrev pub file_with : List ℕ → Map → Places → List UnloadedPiece → List ℕ
file_with exe m at pieces =
    with_table exe ++ (replicate (gap_behind exe) 0
    ++ (flat_map section_header_bytes (all_headers exe m at pieces)
    ++ flat_map (λ p. p.bytes) pieces))
