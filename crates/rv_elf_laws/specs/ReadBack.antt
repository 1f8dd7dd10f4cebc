-- What is written is read back: each record from its bytes, and a string from a table. The lemmas
-- stand here, and not in proofs/, for the crates that write files and read them again.

use Rattle.std.proofs.Common.{◌≡◌, ℕ, ◌+◌, ◌<◌, ◌^◌, false, cond, List, [], ◌∷◌, ◌++◌, length, drop, Some, FitsSigned, refl, sym, ap, ◌∙◌}
use Rattle.std.specs.Prelude.{◌==◌, option_map}
use Rattle.std.specs.List.{list_any}
use Rattle.std.specs.Int.{cast_signed, cast_unsigned, w64}
use mir.ValLaws.{of_z_fits, to_z-of_z}
use Rattle.std.proofs.lemmas.Bool.{or_parts}
use Rattle.std.proofs.lemmas.List.{drop-drop, drop_at}
use Rattle.byteorder.specs.Endian.{little_number}
use Rattle.byteorder.specs.Numbers.{little_number-reads_back}
use Rattle.rv_elf_laws.specs.declared.file_header.FileHeader.{FileHeader}
use Rattle.rv_elf_laws.specs.declared.program_header.ProgramHeader.{ProgramHeader}
use Rattle.rv_elf_laws.specs.declared.section_header.SectionHeader.{SectionHeader}
use Rattle.rv_elf_laws.specs.declared.symbol.Symbol.{Symbol}
use Rattle.rv_elf_laws.specs.declared.rela.Rela.{Rela}
use Rattle.rv_elf_laws.specs.Fields as at
use Rattle.rv_elf_laws.specs.Records.{file_header_in, file_header_bytes, program_header_at, program_header_bytes, section_header_at, section_header_bytes, symbol_at, symbol_bytes, rela_at, rela_bytes}
use Rattle.rv_elf_laws.specs.Sections.{before_zero, string_at}

-- a field whose bytes stand in those of a record, which stand at a place of a file
field_there : (f : at.Field) (number place : ℕ) (file bytes : List ℕ) → drop place file ≡ bytes →
    drop f.offset bytes ≡ at.bytes_of f number ++ drop (f.offset + f.width) bytes →
    number < 256 ^ f.width → at.number_in f place file ≡ number
unfolding at.number_in
field_there f number place file bytes here cut fits =
    ap (little_number f.width) (sym (drop-drop f.offset place file) ∙ ap (drop f.offset) here ∙ cut)
    ∙ little_number-reads_back f.width number (drop (f.offset + f.width) bytes) fits

-- the numbers of the header of a file fit their fields
pub record FitsFileHeader (h : FileHeader) : Type 0 where
  pub e_type : h.e_type < 2 ^ 16
  pub e_machine : h.e_machine < 2 ^ 16
  pub e_version : h.e_version < 2 ^ 32
  pub e_entry : h.e_entry < 2 ^ 64
  pub e_phoff : h.e_phoff < 2 ^ 64
  pub e_shoff : h.e_shoff < 2 ^ 64
  pub e_flags : h.e_flags < 2 ^ 32
  pub e_ehsize : h.e_ehsize < 2 ^ 16
  pub e_phentsize : h.e_phentsize < 2 ^ 16
  pub e_phnum : h.e_phnum < 2 ^ 16
  pub e_shentsize : h.e_shentsize < 2 ^ 16
  pub e_shnum : h.e_shnum < 2 ^ 16
  pub e_shstrndx : h.e_shstrndx < 2 ^ 16

pub file_header_again : (h : FileHeader) (rest : List ℕ) → FitsFileHeader h →
    file_header_in (file_header_bytes h ++ rest) ≡ h
unfolding file_header_bytes
file_header_again h rest fits =
    let bytes = file_header_bytes h ++ rest in
    let whole : drop 0 bytes ≡ bytes = refl in
    (λ i. record {
      e_type = field_there at.e_type h.e_type 0 bytes bytes whole refl fits.e_type i;
      e_machine = field_there at.e_machine h.e_machine 0 bytes bytes whole refl fits.e_machine i;
      e_version = field_there at.e_version h.e_version 0 bytes bytes whole refl fits.e_version i;
      e_entry = field_there at.e_entry h.e_entry 0 bytes bytes whole refl fits.e_entry i;
      e_phoff = field_there at.e_phoff h.e_phoff 0 bytes bytes whole refl fits.e_phoff i;
      e_shoff = field_there at.e_shoff h.e_shoff 0 bytes bytes whole refl fits.e_shoff i;
      e_flags = field_there at.e_flags h.e_flags 0 bytes bytes whole refl fits.e_flags i;
      e_ehsize = field_there at.e_ehsize h.e_ehsize 0 bytes bytes whole refl fits.e_ehsize i;
      e_phentsize =
          field_there at.e_phentsize h.e_phentsize 0 bytes bytes whole refl fits.e_phentsize i;
      e_phnum = field_there at.e_phnum h.e_phnum 0 bytes bytes whole refl fits.e_phnum i;
      e_shentsize =
          field_there at.e_shentsize h.e_shentsize 0 bytes bytes whole refl fits.e_shentsize i;
      e_shnum = field_there at.e_shnum h.e_shnum 0 bytes bytes whole refl fits.e_shnum i;
      e_shstrndx =
          field_there at.e_shstrndx h.e_shstrndx 0 bytes bytes whole refl fits.e_shstrndx i;
    })

-- the numbers of a program header fit their fields
pub record FitsProgramHeader (h : ProgramHeader) : Type 0 where
  pub p_type : h.p_type < 2 ^ 32
  pub p_flags : h.p_flags < 2 ^ 32
  pub p_offset : h.p_offset < 2 ^ 64
  pub p_vaddr : h.p_vaddr < 2 ^ 64
  pub p_paddr : h.p_paddr < 2 ^ 64
  pub p_filesz : h.p_filesz < 2 ^ 64
  pub p_memsz : h.p_memsz < 2 ^ 64
  pub p_align : h.p_align < 2 ^ 64

pub program_header_there : (h : ProgramHeader) (place : ℕ) (file rest : List ℕ) →
    FitsProgramHeader h → drop place file ≡ program_header_bytes h ++ rest →
    program_header_at place file ≡ h
unfolding program_header_bytes
program_header_there h place file rest fits here =
    let bytes = program_header_bytes h ++ rest in
    (λ i. record {
      p_type = field_there at.p_type h.p_type place file bytes here refl fits.p_type i;
      p_flags = field_there at.p_flags h.p_flags place file bytes here refl fits.p_flags i;
      p_offset = field_there at.p_offset h.p_offset place file bytes here refl fits.p_offset i;
      p_vaddr = field_there at.p_vaddr h.p_vaddr place file bytes here refl fits.p_vaddr i;
      p_paddr = field_there at.p_paddr h.p_paddr place file bytes here refl fits.p_paddr i;
      p_filesz = field_there at.p_filesz h.p_filesz place file bytes here refl fits.p_filesz i;
      p_memsz = field_there at.p_memsz h.p_memsz place file bytes here refl fits.p_memsz i;
      p_align = field_there at.p_align h.p_align place file bytes here refl fits.p_align i;
    })

pub program_header_again : (h : ProgramHeader) (before after : List ℕ) → FitsProgramHeader h →
    program_header_at (length before) (before ++ (program_header_bytes h ++ after)) ≡ h
program_header_again h before after fits =
    program_header_there h (length before) (before ++ (program_header_bytes h ++ after)) after fits
    (drop_at before (program_header_bytes h ++ after) (length before) refl)

-- the numbers of a section header fit their fields
pub record FitsSectionHeader (h : SectionHeader) : Type 0 where
  pub sh_name : h.sh_name < 2 ^ 32
  pub sh_type : h.sh_type < 2 ^ 32
  pub sh_flags : h.sh_flags < 2 ^ 64
  pub sh_addr : h.sh_addr < 2 ^ 64
  pub sh_offset : h.sh_offset < 2 ^ 64
  pub sh_size : h.sh_size < 2 ^ 64
  pub sh_link : h.sh_link < 2 ^ 32
  pub sh_info : h.sh_info < 2 ^ 32
  pub sh_addralign : h.sh_addralign < 2 ^ 64
  pub sh_entsize : h.sh_entsize < 2 ^ 64

pub section_header_there : (h : SectionHeader) (place : ℕ) (file rest : List ℕ) →
    FitsSectionHeader h → drop place file ≡ section_header_bytes h ++ rest →
    section_header_at place file ≡ h
unfolding section_header_bytes
section_header_there h place file rest fits here =
    let bytes = section_header_bytes h ++ rest in
    (λ i. record {
      sh_name = field_there at.sh_name h.sh_name place file bytes here refl fits.sh_name i;
      sh_type = field_there at.sh_type h.sh_type place file bytes here refl fits.sh_type i;
      sh_flags = field_there at.sh_flags h.sh_flags place file bytes here refl fits.sh_flags i;
      sh_addr = field_there at.sh_addr h.sh_addr place file bytes here refl fits.sh_addr i;
      sh_offset = field_there at.sh_offset h.sh_offset place file bytes here refl fits.sh_offset i;
      sh_size = field_there at.sh_size h.sh_size place file bytes here refl fits.sh_size i;
      sh_link = field_there at.sh_link h.sh_link place file bytes here refl fits.sh_link i;
      sh_info = field_there at.sh_info h.sh_info place file bytes here refl fits.sh_info i;
      sh_addralign =
          field_there at.sh_addralign h.sh_addralign place file bytes here refl fits.sh_addralign i;
      sh_entsize =
          field_there at.sh_entsize h.sh_entsize place file bytes here refl fits.sh_entsize i;
    })

pub section_header_again : (h : SectionHeader) (before after : List ℕ) → FitsSectionHeader h →
    section_header_at (length before) (before ++ (section_header_bytes h ++ after)) ≡ h
section_header_again h before after fits =
    section_header_there h (length before) (before ++ (section_header_bytes h ++ after)) after fits
    (drop_at before (section_header_bytes h ++ after) (length before) refl)

-- the numbers of a symbol fit their fields
pub record FitsSymbol (h : Symbol) : Type 0 where
  pub st_name : h.st_name < 2 ^ 32
  pub st_info : h.st_info < 2 ^ 8
  pub st_other : h.st_other < 2 ^ 8
  pub st_shndx : h.st_shndx < 2 ^ 16
  pub st_value : h.st_value < 2 ^ 64
  pub st_size : h.st_size < 2 ^ 64

pub symbol_there : (h : Symbol) (place : ℕ) (file rest : List ℕ) → FitsSymbol h →
    drop place file ≡ symbol_bytes h ++ rest → symbol_at place file ≡ h
unfolding symbol_bytes
symbol_there h place file rest fits here =
    let bytes = symbol_bytes h ++ rest in
    (λ i. record {
      st_name = field_there at.st_name h.st_name place file bytes here refl fits.st_name i;
      st_info = field_there at.st_info h.st_info place file bytes here refl fits.st_info i;
      st_other = field_there at.st_other h.st_other place file bytes here refl fits.st_other i;
      st_shndx = field_there at.st_shndx h.st_shndx place file bytes here refl fits.st_shndx i;
      st_value = field_there at.st_value h.st_value place file bytes here refl fits.st_value i;
      st_size = field_there at.st_size h.st_size place file bytes here refl fits.st_size i;
    })

pub symbol_again : (h : Symbol) (before after : List ℕ) → FitsSymbol h →
    symbol_at (length before) (before ++ (symbol_bytes h ++ after)) ≡ h
symbol_again h before after fits =
    symbol_there h (length before) (before ++ (symbol_bytes h ++ after)) after fits
    (drop_at before (symbol_bytes h ++ after) (length before) refl)

-- the numbers of a relocation fit their fields
pub record FitsRela (h : Rela) : Type 0 where
  pub r_offset : h.r_offset < 2 ^ 64
  pub r_type : h.r_type < 2 ^ 32
  pub r_sym : h.r_sym < 2 ^ 32
  pub r_addend : FitsSigned w64 h.r_addend

pub rela_there : (h : Rela) (place : ℕ) (file rest : List ℕ) → FitsRela h →
    drop place file ≡ rela_bytes h ++ rest → rela_at place file ≡ h
unfolding rela_bytes
rela_there h place file rest fits here =
    let bytes = rela_bytes h ++ rest in
    let addend : cast_signed w64 (at.number_in at.r_addend place file) ≡ h.r_addend =
    ap (cast_signed w64)
    (field_there at.r_addend (cast_unsigned w64 h.r_addend) place file bytes here refl
    (of_z_fits w64 h.r_addend fits.r_addend).fits)
    ∙ to_z-of_z w64 h.r_addend fits.r_addend in
    (λ i. record {
      r_offset = field_there at.r_offset h.r_offset place file bytes here refl fits.r_offset i;
      r_type = field_there at.r_type h.r_type place file bytes here refl fits.r_type i;
      r_sym = field_there at.r_sym h.r_sym place file bytes here refl fits.r_sym i;
      r_addend = addend i;
    })

pub rela_again : (h : Rela) (before after : List ℕ) → FitsRela h →
    rela_at (length before) (before ++ (rela_bytes h ++ after)) ≡ h
rela_again h before after fits =
    rela_there h (length before) (before ++ (rela_bytes h ++ after)) after fits
    (drop_at before (rela_bytes h ++ after) (length before) refl)

-- a name without a zero byte, and what follows the zero byte after it
name_ends : (name after : List ℕ) → list_any (λ byte. byte == 0) name ≡ false →
    before_zero (name ++ (0 ∷ after)) ≡ Some name
name_ends [] after none = refl
name_ends (byte ∷ name) after none =
    let parts = or_parts (byte == 0) (list_any (λ byte. byte == 0) name) none in
    (λ i. cond (parts.0 i) (Some [])
    (option_map (λ rest. byte ∷ rest) (name_ends name after parts.1 i)))

pub string_again : (before name after : List ℕ) → list_any (λ byte. byte == 0) name ≡ false →
    string_at (before ++ (name ++ (0 ∷ after))) (length before) ≡ Some name
string_again before name after none =
    ap before_zero (drop_at before (name ++ (0 ∷ after)) (length before) refl)
    ∙ name_ends name after none
