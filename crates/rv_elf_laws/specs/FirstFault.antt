-- Why a file is none of this machine: tests in order, the first that is true gives the fault.

use Rattle.std.specs.Prelude.{◌≡◌, ℕ, Result, MatchResult, ◌*◌, ◌%◌, ◌/◌, ◌==◌, nat_lt, nat_le, Bool, not, ◌&&◌, if◌then◌else◌, List, [], ◌∷◌, ◌++◌, length, Option, Some, None}
use Rattle.rv_fault.specs.declared.file_fault.FileFault.{FileFault}
use Rattle.rv_fault.specs.declared.file_fault.FileFault.TheVariants.{Truncated, BadMagic, WrongClass, WrongMachine, NotExecutable, BadTable}
use Rattle.rv_elf_laws.specs.Fields.{number_in, file_header_size, program_header_size, section_header_size, ei_magic, ei_class, ei_data, ei_version, e_type, e_machine, e_flags, e_phoff, e_shoff, e_phentsize, e_shentsize}
use Rattle.rv_elf_laws.specs.Numbers.{elfmag, elfclass64, elfdata2lsb, ev_current, et_exec, em_riscv, shn_loreserve, pn_xnum}
use Rattle.rv_elf_laws.specs.Sections.{is_past, program_count, section_count, names_section}

abbrev pub first_true : List (Bool × FileFault) → Option FileFault
first_true [] = None
first_true ((fails, fault) ∷ tests) = if fails then Some fault else first_true tests

-- the header: size, magic, class, data and version, machine with its flags
unfoldable pub header_tests : List ℕ → List (Bool × FileFault)
header_tests file = (nat_lt (length file) file_header_size, Truncated)
    ∷ (not (number_in ei_magic 0 file == elfmag), BadMagic)
    ∷ (
      not (number_in ei_class 0 file == elfclass64 && number_in ei_data 0 file == elfdata2lsb
          && number_in ei_version 0 file == ev_current),
      WrongClass,
    )
    ∷ (not (number_in e_machine 0 file == em_riscv), WrongMachine)
    -- a float ABI, in the flags 2 and 4, or the smaller register file, in the flag 8
    ∷ (not (number_in e_flags 0 file / 2 % 8 == 0), WrongMachine)
    ∷ []

-- an executable
unfoldable pub type_tests : List ℕ → List (Bool × FileFault)
type_tests file = (not (number_in e_type 0 file == et_exec), NotExecutable) ∷ []

-- the tables of program headers and section headers; nothing is asked of one without entries
unfoldable pub table_tests : List ℕ → List (Bool × FileFault)
table_tests file = (nat_le shn_loreserve (section_count file), BadTable)
    ∷ (program_count file == pn_xnum, BadTable)
    ∷ (
      not (program_count file == 0)
          && not (number_in e_phentsize 0 file == program_header_size),
      BadTable,
    )
    ∷ (
      not (section_count file == 0)
          && not (number_in e_shentsize 0 file == section_header_size),
      BadTable,
    )
    ∷ (not (names_section file == 0) && nat_le (section_count file) (names_section file), BadTable)
    ∷
    (is_past file (number_in e_phoff 0 file) (program_header_size * program_count file), Truncated)
    ∷
    (is_past file (number_in e_shoff 0 file) (section_header_size * section_count file), Truncated)
    ∷ []

-- all that a view of a file is tested for
abbrev pub open_tests : List ℕ → List (Bool × FileFault)
open_tests file = header_tests file ++ table_tests file

-- a check that looks for the first of these faults
abbrev pub Finds : {X : Type 0} → List (Bool × FileFault) → Result X FileFault → Type 0
Finds tests result =
    MatchResult result (λ _. first_true tests ≡ None) (λ fault. first_true tests ≡ Some fault)
