-- What a file has of its tables and sections (System V gABI, "ELF Header", "Sections", "String
-- Table").

use Rattle.std.specs.Prelude.{ℕ, zero, suc, ◌+◌, ◌*◌, ◌/◌, ◌<◌, ◌≤◌, ◌==◌, nat_lt, Bool, not, ◌&&◌, ◌||◌, List, [], ◌∷◌, length, take, drop, Option, Some, None, option_map, if◌then◌else◌}
use Rattle.rv_elf_laws.specs.declared.program_header.ProgramHeader.{ProgramHeader}
use Rattle.rv_elf_laws.specs.declared.section_header.SectionHeader.{SectionHeader}
use Rattle.rv_elf_laws.specs.declared.symbol.Symbol.{Symbol}
use Rattle.rv_elf_laws.specs.declared.rela.Rela.{Rela}
use Rattle.rv_elf_laws.specs.Fields.{number_in, e_phoff, e_phnum, e_shoff, e_shnum, e_shstrndx, program_header_size, section_header_size, symbol_size, rela_size}
use Rattle.rv_elf_laws.specs.Numbers.{sht_nobits, pt_load}
use Rattle.rv_elf_laws.specs.Records.{program_header_at, section_header_at, symbol_at, rela_at}

-- some of the size bytes at a place lie past the end of the file
abbrev pub is_past : List ℕ → ℕ → ℕ → Bool
is_past file place size = not (size == 0) && nat_lt (length file) (place + size)

-- e_phnum, e_shnum, e_shstrndx
abbrev pub program_count : List ℕ → ℕ
program_count file = number_in e_phnum 0 file

abbrev pub section_count : List ℕ → ℕ
section_count file = number_in e_shnum 0 file

abbrev pub names_section : List ℕ → ℕ
names_section file = number_in e_shstrndx 0 file

-- the first records of a table from its place on: each begins `size` bytes after the one before
abbrev pub records : {X : Type 0} → (ℕ → List ℕ → X) → ℕ → ℕ → ℕ → List ℕ → List X
records record_at size zero place bytes = []
records record_at size (suc count) place bytes =
    record_at place bytes ∷ records record_at size count (place + size) bytes

-- all program headers and all section headers, in the order of the file
abbrev pub program_headers : List ℕ → List ProgramHeader
program_headers file =
    records program_header_at program_header_size (program_count file)
    (number_in e_phoff 0 file) file

abbrev pub section_headers : List ℕ → List SectionHeader
section_headers file =
    records section_header_at section_header_size (section_count file)
    (number_in e_shoff 0 file) file

-- the header of the section of an index, from 0
abbrev pub section_header_of : List ℕ → ℕ → SectionHeader
section_header_of file i =
    section_header_at (number_in e_shoff 0 file + section_header_size * i) file

-- the tables lie in the file
abbrev pub HasPrograms : List ℕ → Type 0
HasPrograms file = 0 < program_count file →
    number_in e_phoff 0 file + program_header_size * program_count file ≤ length file

abbrev pub HasSections : List ℕ → Type 0
HasSections file = 0 < section_count file →
    number_in e_shoff 0 file + section_header_size * section_count file ≤ length file

-- PT_LOAD: what is loaded
abbrev pub is_load : ProgramHeader → Bool
is_load h = h.p_type == pt_load

-- SHT_NOBITS: a section without bytes in the file
abbrev pub is_nobits : SectionHeader → Bool
is_nobits h = h.sh_type == sht_nobits

-- the bytes that the file has of a section: none past its end
abbrev pub file_contents : List ℕ → SectionHeader → List ℕ
file_contents file h =
    if is_nobits h || is_past file h.sh_offset h.sh_size then []
    else take h.sh_size (drop h.sh_offset file)

abbrev pub indexed_contents : List ℕ → ℕ → List ℕ
indexed_contents file i = file_contents file (section_header_of file i)

-- the bytes before the first zero byte; none where there is no zero byte
abbrev pub before_zero : List ℕ → Option (List ℕ)
before_zero [] = None
before_zero (byte ∷ bytes) =
    if byte == 0 then Some [] else option_map (λ name. byte ∷ name) (before_zero bytes)

-- the string at an offset of a string table
abbrev pub string_at : List ℕ → ℕ → Option (List ℕ)
string_at table offset = before_zero (drop offset table)

-- all symbols, and all relocations, of a section of these bytes
abbrev pub symbols_in : List ℕ → List Symbol
symbols_in bytes = records symbol_at symbol_size (length bytes / symbol_size) 0 bytes

abbrev pub relas_in : List ℕ → List Rela
relas_in bytes = records rela_at rela_size (length bytes / rela_size) 0 bytes
