-- The fields of each record of a file: the offset of each in its record, and its width in bytes
-- (System V gABI, "ELF Header", "Sections", "Symbol Table", "Relocation", "Program Header"). This
-- is the one table of them.

use Rattle.std.specs.Prelude.{ℕ, ◌+◌, List, drop}
use Rattle.byteorder.specs.Endian.{little_number, little_bytes}

pub record Field : Type 0 where
  pub offset : ℕ
  pub width : ℕ

abbrev pub field : ℕ → ℕ → Field
field offset width = record { offset = offset; width = width }

-- the number of a field of the record at a place of these bytes, the lowest byte first
unfoldable pub number_in : Field → ℕ → List ℕ → ℕ
number_in f place bytes = little_number f.width (drop (place + f.offset) bytes)

-- the bytes of a field that holds a number
abbrev pub bytes_of : Field → ℕ → List ℕ
bytes_of f number = little_bytes f.width number

-- ---- the header of a file, of 64 bytes

abbrev pub file_header_size : ℕ
file_header_size = 64

-- e_ident: its first four bytes, and those of class, data and version
abbrev pub ei_magic : Field
ei_magic = field 0 4

abbrev pub ei_class : Field
ei_class = field 4 1

abbrev pub ei_data : Field
ei_data = field 5 1

abbrev pub ei_version : Field
ei_version = field 6 1

abbrev pub e_type : Field
e_type = field 16 2

abbrev pub e_machine : Field
e_machine = field 18 2

abbrev pub e_version : Field
e_version = field 20 4

abbrev pub e_entry : Field
e_entry = field 24 8

abbrev pub e_phoff : Field
e_phoff = field 32 8

abbrev pub e_shoff : Field
e_shoff = field 40 8

abbrev pub e_flags : Field
e_flags = field 48 4

abbrev pub e_ehsize : Field
e_ehsize = field 52 2

abbrev pub e_phentsize : Field
e_phentsize = field 54 2

abbrev pub e_phnum : Field
e_phnum = field 56 2

abbrev pub e_shentsize : Field
e_shentsize = field 58 2

abbrev pub e_shnum : Field
e_shnum = field 60 2

abbrev pub e_shstrndx : Field
e_shstrndx = field 62 2

-- ---- a program header, of 56 bytes

abbrev pub program_header_size : ℕ
program_header_size = 56

abbrev pub p_type : Field
p_type = field 0 4

abbrev pub p_flags : Field
p_flags = field 4 4

abbrev pub p_offset : Field
p_offset = field 8 8

abbrev pub p_vaddr : Field
p_vaddr = field 16 8

abbrev pub p_paddr : Field
p_paddr = field 24 8

abbrev pub p_filesz : Field
p_filesz = field 32 8

abbrev pub p_memsz : Field
p_memsz = field 40 8

abbrev pub p_align : Field
p_align = field 48 8

-- ---- a section header, of 64 bytes

abbrev pub section_header_size : ℕ
section_header_size = 64

abbrev pub sh_name : Field
sh_name = field 0 4

abbrev pub sh_type : Field
sh_type = field 4 4

abbrev pub sh_flags : Field
sh_flags = field 8 8

abbrev pub sh_addr : Field
sh_addr = field 16 8

abbrev pub sh_offset : Field
sh_offset = field 24 8

abbrev pub sh_size : Field
sh_size = field 32 8

abbrev pub sh_link : Field
sh_link = field 40 4

abbrev pub sh_info : Field
sh_info = field 44 4

abbrev pub sh_addralign : Field
sh_addralign = field 48 8

abbrev pub sh_entsize : Field
sh_entsize = field 56 8

-- ---- a symbol, of 24 bytes

abbrev pub symbol_size : ℕ
symbol_size = 24

abbrev pub st_name : Field
st_name = field 0 4

abbrev pub st_info : Field
st_info = field 4 1

abbrev pub st_other : Field
st_other = field 5 1

abbrev pub st_shndx : Field
st_shndx = field 6 2

abbrev pub st_value : Field
st_value = field 8 8

abbrev pub st_size : Field
st_size = field 16 8

-- ---- a relocation with an addend, of 24 bytes; r_info is its type (ELF64_R_TYPE), the lower half,
-- and its symbol (ELF64_R_SYM), the upper

abbrev pub rela_size : ℕ
rela_size = 24

abbrev pub r_offset : Field
r_offset = field 0 8

abbrev pub r_type : Field
r_type = field 8 4

abbrev pub r_sym : Field
r_sym = field 12 4

abbrev pub r_addend : Field
r_addend = field 16 8
