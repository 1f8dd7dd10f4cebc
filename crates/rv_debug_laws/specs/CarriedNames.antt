-- Which sections of objects stand behind an executable for debuggers (System V gABI, "Sections";
-- GNU ld, "Output Section Discarding" and "SHF_EXCLUDE"): the debug sections, and the others that no
-- program loads.

use Rattle.std.specs.Prelude.{ℕ, zero, suc, ◌-◌, ◌==◌, nat_eq, Bool, false, not, ◌&&◌, ◌||◌, if◌then◌else◌, List, [], ◌∷◌, ◌++◌, codes, map, bytes_eq, Option, Some, None, option_and_then}
use Rattle.std.specs.List.{list_any, starts_with}
use Rattle.rv_elf_laws.specs.declared.section_header.SectionHeader.{SectionHeader}
use Rattle.rv_elf_laws.specs.FirstFault.{first_true, open_tests}
use Rattle.rv_elf_laws.specs.Numbers.{sht_progbits}
use Rattle.rv_elf_laws.specs.Sections.{section_count, section_header_of, file_contents, relas_in, string_at}
use Rattle.rv_elf_laws.specs.declared.rela.Rela.{Rela}
use Rattle.rv_fault.specs.declared.file_fault.FileFault.{FileFault}
use Rattle.rv_object_file_laws.specs.Parts.{has_flag, is_executable, is_loaded, is_rela, is_section}
use Rattle.rv_debug_laws.specs.declared.carried.Carried.{Carried}
use Rattle.rv_debug_laws.specs.Carried.{carried_section, debug_names, is_there, section_names_in}

-- ---- a section

-- bytes that no program loads, and that are no code and not to be left out (SHF_EXCLUDE)
abbrev pub is_carried : SectionHeader → Bool
is_carried h = h.sh_type == sht_progbits && not (h.sh_size == 0) && not (is_loaded h)
    && not (is_executable h) && not (has_flag 0x80000000 h)

-- what GNU's script for linking leaves out, and what objects of this assembler say of their source
abbrev pub is_left_out : (name : List ℕ) → Bool
is_left_out name = bytes_eq name (codes ".note.GNU-stack")
    || bytes_eq name (codes ".gnu_debuglink") || starts_with nat_eq name (codes ".gnu.lto_")
    || bytes_eq name (codes ".rv.rows") || bytes_eq name (codes ".rv.source")

abbrev pub kept_name : List ℕ → Option (List ℕ)
kept_name name = if is_left_out name then None else Some name

-- the name of a section, if it is carried
abbrev pub carried_name : (file : List ℕ) → SectionHeader → Option (List ℕ)
carried_name file h = if is_carried h
    then option_and_then kept_name (string_at (section_names_in file) h.sh_name) else None

abbrev pub is_carried_in : (file : List ℕ) → SectionHeader → Bool
is_carried_in file h = is_there (carried_name file h)

-- ---- names in their order, each with a zero behind it and once

abbrev pub with_name_once : List (List ℕ) → List ℕ → List (List ℕ)
with_name_once names name =
    if list_any (λ known. bytes_eq known name) names then names else names ++ name ∷ []

abbrev pub with_carried_name : List (List ℕ) → Option (List ℕ) → List (List ℕ)
with_carried_name names None = names
with_carried_name names (Some name) = with_name_once names (name ++ 0 ∷ [])

-- those of `count` sections of a file from an index on
abbrev pub carried_names_from : (file : List ℕ) → (index count : ℕ) → List (List ℕ) → List (List ℕ)
carried_names_from file index zero names = names
carried_names_from file index (suc count) names = carried_names_from file (suc index) count
    (with_carried_name names (carried_name file (section_header_of file index)))

-- what is no object has none; section 0 is none
abbrev pub carried_names_by : (file : List ℕ) → List (List ℕ) → Option FileFault → List (List ℕ)
carried_names_by file names (Some fault) = names
carried_names_by file names None = carried_names_from file 1 (section_count file - 1) names

abbrev pub carried_names_in : (file : List ℕ) → List (List ℕ) → List (List ℕ)
carried_names_in file names = carried_names_by file names (first_true (open_tests file))

abbrev pub carried_names_of : List Carried → List (List ℕ) → List (List ℕ)
carried_names_of [] names = names
carried_names_of (o ∷ os) names = carried_names_of os (carried_names_in o.file.now names)

-- debug sections stand first
abbrev pub carried_names : List Carried → List (List ℕ)
carried_names objects = carried_names_of objects debug_names

-- ---- what an object brings

abbrev pub has_carried_by : (file : List ℕ) → Option FileFault → Bool
has_carried_by file (Some fault) = false
has_carried_by file None = is_there (carried_section (is_carried_in file) file)

abbrev pub has_carried : (file : List ℕ) → Bool
has_carried file = has_carried_by file (first_true (open_tests file))

-- the symbols to which the relocations of its carried sections refer, in their order
abbrev pub is_carried_at : (file : List ℕ) → (index : ℕ) → Bool
is_carried_at file index =
    is_section file index && is_carried_in file (section_header_of file index)

abbrev pub references_by : (file : List ℕ) → SectionHeader → List ℕ
references_by file h = if is_rela h && is_carried_at file h.sh_info
    then map (λ (r : Rela). r.r_sym) (relas_in (file_contents file h)) else []

abbrev pub references_from : (file : List ℕ) → (index count : ℕ) → List ℕ
references_from file index zero = []
references_from file index (suc count) =
    references_by file (section_header_of file index) ++ references_from file (suc index) count

abbrev pub carried_references_by : (file : List ℕ) → Option FileFault → List ℕ
carried_references_by file (Some fault) = []
carried_references_by file None = references_from file 1 (section_count file - 1)

abbrev pub carried_references : (file : List ℕ) → List ℕ
carried_references file = carried_references_by file (first_true (open_tests file))
