-- Why a file is no object: tests in order, the first that is true gives the fault. Section by
-- section, a header before its records, and these one by one, each beside those before it.

use Rattle.std.specs.Prelude.{ℕ, ◌+◌, ◌/◌, ◌%◌, ◌==◌, nat_lt, nat_le, Bool, true, false, not, ◌&&◌, ◌||◌, if◌then◌else◌, List, [], ◌∷◌, ◌++◌, drop, filter, flat_map, Option, Some, None}
use Rattle.std.specs.List.{list_any}
use Rattle.rv_map_laws.specs.Name.{is_name}
use Rattle.rv_fault.specs.declared.file_fault.FileFault.{FileFault}
use Rattle.rv_fault.specs.declared.file_fault.FileFault.TheVariants.{Truncated, BadTable, BadString, BadIndex, UnsupportedRelocation, UnsupportedSection, NotObject}
use Rattle.rv_elf_laws.specs.declared.section_header.SectionHeader.{SectionHeader}
use Rattle.rv_elf_laws.specs.declared.symbol.Symbol.{Symbol as SymbolRecord}
use Rattle.rv_elf_laws.specs.declared.rela.Rela.{Rela}
use Rattle.rv_elf_laws.specs.Fields.{number_in, e_type, symbol_size, rela_size}
use Rattle.rv_elf_laws.specs.FirstFault.{first_true, header_tests, table_tests}
use Rattle.rv_elf_laws.specs.Numbers.{et_rel, sht_progbits, sht_note, sht_nobits, sht_group, shn_undef, shn_abs, stb_local, stb_global, stb_weak}
use Rattle.rv_elf_laws.specs.Sections.{is_past, section_count, section_header_of, indexed_contents, file_contents, symbols_in, relas_in}
use Rattle.rv_object_laws.specs.Object.{Relocation}
use Rattle.rv_object_laws.specs.Valid.{is_section_alignment, fits_inside, is_padding, are_apart}
use Rattle.rv_object_file_laws.specs.Parts.{FileSection, sections, is_section, is_loaded, is_executable, name_at, name_of, is_symbol_table, is_rela, is_rows, kept_at, extent_of, relocates, relas_of, kind_numbered, relocation_in, relocations_in}
use Rattle.rv_object_file_laws.specs.Rows.{RowRecord, row_size, rows_in}

abbrev pub is_none : {X : Type 0} → Option X → Bool
is_none None = true
is_none (Some x) = false

-- ---- headers of sections

-- the bytes of a record of the section's table, 1 where it is none
abbrev pub record_size : List ℕ → SectionHeader → ℕ
record_size file h =
    if is_symbol_table h then symbol_size else if is_rela h then rela_size
    else if is_rows file h then row_size else 1

-- relocations name their section and that of the symbols, those of a loaded section a symbol table
abbrev pub is_rela_linked : List ℕ → SectionHeader → Bool
is_rela_linked file h = is_section file h.sh_link && is_section file h.sh_info
    && (not (is_loaded (section_header_of file h.sh_info))
    || is_symbol_table (section_header_of file h.sh_link))

-- symbols name the section of their names
abbrev pub is_linked : List ℕ → SectionHeader → Bool
is_linked file h =
    if is_symbol_table h then is_section file h.sh_link
    else if is_rela h then is_rela_linked file h else true

-- what a program loads, or a group of sections, of a type that the linker has not
abbrev pub is_unsupported : SectionHeader → Bool
is_unsupported h = h.sh_type == sht_group || (is_loaded h && not (h.sh_type == sht_progbits
    || h.sh_type == sht_note || h.sh_type == sht_nobits))

unfoldable pub section_tests : List ℕ → List FileSection → SectionHeader → List (Bool × FileFault)
section_tests file before h =
    (not (h.sh_type == sht_nobits) && is_past file h.sh_offset h.sh_size, Truncated)
    ∷ (is_symbol_table h && list_any (λ s. is_symbol_table s.header) before, BadTable)
    ∷ (is_rows file h && list_any (λ s. is_rows file s.header) before, BadTable)
    ∷ (not (h.sh_size % record_size file h == 0), BadTable)
    ∷ (not (h.sh_addralign == 0 || is_section_alignment h.sh_addralign), BadTable)
    ∷ (is_executable h && not (h.sh_size % 2 == 0), BadTable)
    ∷ (is_none (name_of file h), BadString)
    ∷ (not (is_linked file h), BadIndex)
    ∷ (is_unsupported h, UnsupportedSection h.sh_type)
    ∷ []

-- ---- symbols

-- all objects see it
abbrev pub is_shared_record : SymbolRecord → Bool
is_shared_record s = s.st_info / 16 == stb_global || s.st_info / 16 == stb_weak

abbrev pub is_bad_name : SymbolRecord → Option (List ℕ) → Bool
is_bad_name s None = true
is_bad_name s (Some name) = is_shared_record s && not (is_name name)

abbrev pub has_binding : SymbolRecord → Bool
has_binding s = s.st_info / 16 == stb_local || is_shared_record s

-- it is undefined, a number, or in a section; a common symbol is none of these
abbrev pub has_home : List ℕ → SymbolRecord → Bool
has_home file s =
    s.st_shndx == shn_undef || s.st_shndx == shn_abs || nat_lt s.st_shndx (section_count file)

unfoldable pub symbol_tests : List ℕ → List ℕ → SymbolRecord → List (Bool × FileFault)
symbol_tests file names s = (is_bad_name s (name_at names s.st_name), BadString)
    ∷ (not (has_binding s && has_home file s), BadIndex)
    ∷ []

-- ---- rows

abbrev pub is_row_of : RowRecord → Option FileSection → Bool
is_row_of r None = false
is_row_of r (Some s) = is_loaded s.header && nat_le (r.r_offset + r.r_bytes) s.header.sh_size

unfoldable pub row_tests : List ℕ → RowRecord → List (Bool × FileFault)
row_tests file r =
    (not (is_row_of r (kept_at file r.r_section) && r.r_reserved == 0), BadTable) ∷ []

-- ---- relocations

-- its field or padding leaves its section, or one of code meets another before it
abbrev pub is_misplaced : SectionHeader → List Relocation → Option Relocation → Bool
is_misplaced h before None = false
is_misplaced h before (Some r) = not (fits_inside (extent_of h) r)
    || not (is_padding (is_executable h) (extent_of h) r)
    || (is_executable h && list_any (λ q. not (are_apart q r)) before)

unfoldable pub relocation_tests : SectionHeader → ℕ → List Relocation → Rela →
    List (Bool × FileFault)
relocation_tests h symbols before r = (is_misplaced h before (relocation_in r), BadTable)
    ∷ (not (r.r_sym == 0) && nat_le symbols r.r_sym, BadIndex)
    ∷ (is_none (kind_numbered r.r_type), UnsupportedRelocation r.r_type)
    ∷ []

-- relocations of a section with this header, one after the other
abbrev pub relocations_tests : SectionHeader → ℕ → List Relocation → List Rela →
    List (Bool × FileFault)
relocations_tests h symbols before [] = []
relocations_tests h symbols before (r ∷ rs) =
    relocation_tests h symbols before r
    ++ relocations_tests h symbols (before ++ relocations_in (r ∷ [])) rs

-- ---- all

-- how many symbols the table has that a section of relocations names, by that table's header
abbrev pub symbol_count : List ℕ → SectionHeader → ℕ
symbol_count file h = (section_header_of file h.sh_link).sh_size / symbol_size

-- the relocations of a loaded section, behind those that stand before them in the file
abbrev pub rela_tests : List ℕ → List FileSection → SectionHeader → List (Bool × FileFault)
rela_tests file before h =
    if is_loaded (section_header_of file h.sh_info)
    then relocations_tests (section_header_of file h.sh_info) (symbol_count file h)
    (relocations_in (relas_of file (filter (relocates h.sh_info) before)))
    (relas_in (file_contents file h))
    else []

-- the records of a section; symbol 0 is none
abbrev pub records_tests : List ℕ → List FileSection → SectionHeader → List (Bool × FileFault)
records_tests file before h =
    if is_symbol_table h
    then flat_map (symbol_tests file (indexed_contents file h.sh_link))
    (drop 1 (symbols_in (file_contents file h)))
    else if is_rela h then rela_tests file before h
    else if is_rows file h then flat_map (row_tests file) (rows_in (file_contents file h))
    else []

abbrev pub sections_tests : List ℕ → List FileSection → List FileSection → List (Bool × FileFault)
sections_tests file before [] = []
sections_tests file before (s ∷ ss) =
    section_tests file before s.header
    ++ (records_tests file before s.header ++ sections_tests file (before ++ s ∷ []) ss)

-- all that an object is tested for, in order
unfoldable pub object_tests : List ℕ → List (Bool × FileFault)
object_tests file = header_tests file
    ++ ((not (number_in e_type 0 file == et_rel), NotObject)
    ∷ (table_tests file ++ sections_tests file [] (sections file)))

-- why the file is refused; none where it is an object of this machine
abbrev pub first_fault : List ℕ → Option FileFault
first_fault file = first_true (object_tests file)
