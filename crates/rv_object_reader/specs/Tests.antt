-- The tests of a section's header, by whether there are others of its kind before it.

use Rattle.std.specs.Prelude.{ℕ, ◌%◌, ◌==◌, Bool, not, ◌&&◌, ◌||◌, List, [], ◌∷◌, ◌++◌}
use Rattle.rv_fault.specs.declared.file_fault.FileFault.{FileFault}
use Rattle.rv_fault.specs.declared.file_fault.FileFault.TheVariants.{Truncated, BadTable, BadString, BadIndex, UnsupportedSection}
use Rattle.rv_elf_laws.specs.declared.section_header.SectionHeader.{SectionHeader}
use Rattle.rv_elf_laws.specs.Numbers.{sht_nobits}
use Rattle.rv_elf_laws.specs.Sections.{is_past}
use Rattle.rv_object_laws.specs.Valid.{is_section_alignment}
use Rattle.rv_object_file_laws.specs.FirstFault.{is_none, record_size, is_linked, is_unsupported}
use Rattle.rv_object_file_laws.specs.Parts.{name_of, is_executable, is_symbol_table, is_rows}

-- of a section with symbols, or with rows, before it or not: its bytes
unfoldable pub size_tests : List ℕ → Bool → Bool → SectionHeader → List (Bool × FileFault)
size_tests file symbols rows h =
    (not (h.sh_type == sht_nobits) && is_past file h.sh_offset h.sh_size, Truncated)
    ∷ (is_symbol_table h && symbols, BadTable)
    ∷ (is_rows file h && rows, BadTable)
    ∷ (not (h.sh_size % record_size file h == 0), BadTable)
    ∷ (not (h.sh_addralign == 0 || is_section_alignment h.sh_addralign), BadTable)
    ∷ (is_executable h && not (h.sh_size % 2 == 0), BadTable)
    ∷ []

-- what it names, and its type
unfoldable pub link_tests : List ℕ → SectionHeader → List (Bool × FileFault)
link_tests file h = (is_none (name_of file h), BadString)
    ∷ (not (is_linked file h), BadIndex)
    ∷ (is_unsupported h, UnsupportedSection h.sh_type)
    ∷ []

-- all of them
abbrev pub tests_behind : List ℕ → Bool → Bool → SectionHeader → List (Bool × FileFault)
tests_behind file symbols rows h = size_tests file symbols rows h ++ link_tests file h
