-- The records of a file, as their fields make them, and the bytes of each (System V gABI, "ELF
-- Header", "Sections", "Symbol Table", "Relocation", "Program Header").

use Rattle.std.specs.Prelude.{ℕ, List, [], ◌∷◌, ◌++◌}
use Rattle.std.specs.Int.{cast_signed, cast_unsigned, w64}
use Rattle.rv_elf_laws.specs.declared.file_header.FileHeader.{FileHeader}
use Rattle.rv_elf_laws.specs.declared.program_header.ProgramHeader.{ProgramHeader}
use Rattle.rv_elf_laws.specs.declared.section_header.SectionHeader.{SectionHeader}
use Rattle.rv_elf_laws.specs.declared.symbol.Symbol.{Symbol}
use Rattle.rv_elf_laws.specs.declared.rela.Rela.{Rela}
use Rattle.rv_elf_laws.specs.Fields as at

-- 7Fh ELF, class 2 (64 bits), data 1 (little-endian), version 1, and nine zeros
abbrev pub ident : List ℕ
ident = 0x7F ∷ 0x45 ∷ 0x4C ∷ 0x46 ∷ 2 ∷ 1 ∷ 1 ∷ 0 ∷ 0 ∷ 0 ∷ 0 ∷ 0 ∷ 0 ∷ 0 ∷ 0 ∷ 0 ∷ []

abbrev pub file_header_in : List ℕ → FileHeader
file_header_in file = record {
  e_type = at.number_in at.e_type 0 file;
  e_machine = at.number_in at.e_machine 0 file;
  e_version = at.number_in at.e_version 0 file;
  e_entry = at.number_in at.e_entry 0 file;
  e_phoff = at.number_in at.e_phoff 0 file;
  e_shoff = at.number_in at.e_shoff 0 file;
  e_flags = at.number_in at.e_flags 0 file;
  e_ehsize = at.number_in at.e_ehsize 0 file;
  e_phentsize = at.number_in at.e_phentsize 0 file;
  e_phnum = at.number_in at.e_phnum 0 file;
  e_shentsize = at.number_in at.e_shentsize 0 file;
  e_shnum = at.number_in at.e_shnum 0 file;
  e_shstrndx = at.number_in at.e_shstrndx 0 file;
}

unfoldable pub file_header_bytes : FileHeader → List ℕ
file_header_bytes h = ident
    ++ (at.bytes_of at.e_type h.e_type ++ (at.bytes_of at.e_machine h.e_machine
    ++ (at.bytes_of at.e_version h.e_version ++ (at.bytes_of at.e_entry h.e_entry
    ++ (at.bytes_of at.e_phoff h.e_phoff ++ (at.bytes_of at.e_shoff h.e_shoff
    ++ (at.bytes_of at.e_flags h.e_flags ++ (at.bytes_of at.e_ehsize h.e_ehsize
    ++ (at.bytes_of at.e_phentsize h.e_phentsize ++ (at.bytes_of at.e_phnum h.e_phnum
    ++ (at.bytes_of at.e_shentsize h.e_shentsize ++ (at.bytes_of at.e_shnum h.e_shnum
    ++ at.bytes_of at.e_shstrndx h.e_shstrndx))))))))))))

abbrev pub program_header_at : ℕ → List ℕ → ProgramHeader
program_header_at place file = record {
  p_type = at.number_in at.p_type place file;
  p_flags = at.number_in at.p_flags place file;
  p_offset = at.number_in at.p_offset place file;
  p_vaddr = at.number_in at.p_vaddr place file;
  p_paddr = at.number_in at.p_paddr place file;
  p_filesz = at.number_in at.p_filesz place file;
  p_memsz = at.number_in at.p_memsz place file;
  p_align = at.number_in at.p_align place file;
}

unfoldable pub program_header_bytes : ProgramHeader → List ℕ
program_header_bytes h = at.bytes_of at.p_type h.p_type
    ++ (at.bytes_of at.p_flags h.p_flags ++ (at.bytes_of at.p_offset h.p_offset
    ++ (at.bytes_of at.p_vaddr h.p_vaddr ++ (at.bytes_of at.p_paddr h.p_paddr
    ++ (at.bytes_of at.p_filesz h.p_filesz ++ (at.bytes_of at.p_memsz h.p_memsz
    ++ at.bytes_of at.p_align h.p_align))))))

abbrev pub section_header_at : ℕ → List ℕ → SectionHeader
section_header_at place file = record {
  sh_name = at.number_in at.sh_name place file;
  sh_type = at.number_in at.sh_type place file;
  sh_flags = at.number_in at.sh_flags place file;
  sh_addr = at.number_in at.sh_addr place file;
  sh_offset = at.number_in at.sh_offset place file;
  sh_size = at.number_in at.sh_size place file;
  sh_link = at.number_in at.sh_link place file;
  sh_info = at.number_in at.sh_info place file;
  sh_addralign = at.number_in at.sh_addralign place file;
  sh_entsize = at.number_in at.sh_entsize place file;
}

unfoldable pub section_header_bytes : SectionHeader → List ℕ
section_header_bytes h = at.bytes_of at.sh_name h.sh_name
    ++ (at.bytes_of at.sh_type h.sh_type ++ (at.bytes_of at.sh_flags h.sh_flags
    ++ (at.bytes_of at.sh_addr h.sh_addr ++ (at.bytes_of at.sh_offset h.sh_offset
    ++ (at.bytes_of at.sh_size h.sh_size ++ (at.bytes_of at.sh_link h.sh_link
    ++ (at.bytes_of at.sh_info h.sh_info ++ (at.bytes_of at.sh_addralign h.sh_addralign
    ++ at.bytes_of at.sh_entsize h.sh_entsize))))))))

abbrev pub symbol_at : ℕ → List ℕ → Symbol
symbol_at place bytes = record {
  st_name = at.number_in at.st_name place bytes;
  st_info = at.number_in at.st_info place bytes;
  st_other = at.number_in at.st_other place bytes;
  st_shndx = at.number_in at.st_shndx place bytes;
  st_value = at.number_in at.st_value place bytes;
  st_size = at.number_in at.st_size place bytes;
}

unfoldable pub symbol_bytes : Symbol → List ℕ
symbol_bytes s = at.bytes_of at.st_name s.st_name
    ++ (at.bytes_of at.st_info s.st_info ++ (at.bytes_of at.st_other s.st_other
    ++ (at.bytes_of at.st_shndx s.st_shndx ++ (at.bytes_of at.st_value s.st_value
    ++ at.bytes_of at.st_size s.st_size))))

abbrev pub rela_at : ℕ → List ℕ → Rela
rela_at place bytes = record {
  r_offset = at.number_in at.r_offset place bytes;
  r_type = at.number_in at.r_type place bytes;
  r_sym = at.number_in at.r_sym place bytes;
  r_addend = cast_signed w64 (at.number_in at.r_addend place bytes);
}

unfoldable pub rela_bytes : Rela → List ℕ
rela_bytes r = at.bytes_of at.r_offset r.r_offset
    ++ (at.bytes_of at.r_type r.r_type ++ (at.bytes_of at.r_sym r.r_sym
    ++ at.bytes_of at.r_addend (cast_unsigned w64 r.r_addend)))
