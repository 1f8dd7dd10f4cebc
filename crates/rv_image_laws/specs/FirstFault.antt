-- Why a file is no executable: tests in order, the first that is true gives the fault.

use Rattle.std.specs.Prelude.{◌≡◌, ℕ, ◌+◌, ◌-◌, ◌%◌, ◌^◌, ◌==◌, nat_lt, nat_le, ◌≤◌, false, Bool, not, ◌&&◌, ◌||◌, if◌then◌else◌, List, [], ◌∷◌, ◌++◌, filter, sum_by, Option}
use Rattle.std.specs.List.{list_any}
use Rattle.rv_elf_laws.specs.declared.program_header.ProgramHeader.{ProgramHeader}
use Rattle.rv_fault.specs.declared.file_fault.FileFault.{FileFault}
use Rattle.rv_fault.specs.declared.file_fault.FileFault.TheVariants.{Truncated, BadTable, Dynamic, Overlap, MemoryLimit}
use Rattle.rv_elf_laws.specs.Fields.{number_in, e_entry, e_phoff, program_header_size}
use Rattle.rv_elf_laws.specs.FirstFault.{first_true, header_tests, type_tests, table_tests}
use Rattle.rv_elf_laws.specs.Numbers.{pt_load, pt_dynamic, pt_interp, pt_tls}
use Rattle.rv_elf_laws.specs.Records.{program_header_at}
use Rattle.rv_elf_laws.specs.Sections.{is_past, is_load, records, program_headers}
use Rattle.rv_image_laws.specs.Segment.{do_meet}
use Rattle.rv_isa_laws.specs.Platform.{stack_start, stack_end, memory_limit}

-- PT_DYNAMIC, PT_INTERP, PT_TLS
abbrev pub is_dynamic : ProgramHeader → Bool
is_dynamic p = p.p_type == pt_dynamic || p.p_type == pt_interp || p.p_type == pt_tls

-- an address is in the memory of both
abbrev pub do_overlap : ProgramHeader → ProgramHeader → Bool
do_overlap p q = is_load q && do_meet p.p_vaddr p.p_memsz q.p_vaddr q.p_memsz

-- what is loaded by q ends at this address or before
abbrev pub ends_by : ℕ → ProgramHeader → Bool
ends_by end q = not (is_load q) || nat_le (q.p_vaddr + q.p_memsz) end

-- what is loaded: its sizes, its end, and that it lies apart from the segments before and the stack
unfoldable pub segment_tests : List ProgramHeader → ProgramHeader → List (Bool × FileFault)
segment_tests before p = (nat_lt p.p_memsz p.p_filesz, BadTable)
    ∷ (nat_lt (2 ^ 64) (p.p_vaddr + p.p_memsz), BadTable)
    ∷ (list_any (do_overlap p) before, Overlap)
    ∷ (do_meet p.p_vaddr p.p_memsz stack_start (stack_end - stack_start), Overlap)
    ∷ []

-- the program header p, where those before it have no fault
unfoldable pub program_tests : List ℕ → List ProgramHeader → ProgramHeader → List (Bool × FileFault)
program_tests file before p = (is_past file p.p_offset p.p_filesz, Truncated)
    ∷ (is_dynamic p, Dynamic)
    ∷ (if is_load p then segment_tests before p else [])

-- one program header after the other
abbrev pub programs_tests : List ℕ → List ProgramHeader → List ProgramHeader →
    List (Bool × FileFault)
programs_tests file before [] = []
programs_tests file before (p ∷ ps) =
    program_tests file before p ++ programs_tests file (before ++ p ∷ []) ps

-- the program headers of a table from its place on, and the first ones of a file
abbrev pub programs_from : ℕ → ℕ → List ℕ → List ProgramHeader
programs_from count place file = records program_header_at program_header_size count place file

abbrev pub programs_before : ℕ → List ℕ → List ProgramHeader
programs_before count file = programs_from count (number_in e_phoff 0 file) file

-- what all segments have in memory
abbrev pub loaded_size : List ProgramHeader → ℕ
loaded_size ps = sum_by (λ p. p.p_memsz) (filter is_load ps)

-- the entry and the size of all
unfoldable pub whole_tests : List ℕ → List (Bool × FileFault)
whole_tests file = (not (number_in e_entry 0 file % 2 == 0), BadTable)
    ∷ (nat_lt memory_limit (loaded_size (program_headers file)), MemoryLimit)
    ∷ []

-- all that an executable is tested for, in order
unfoldable pub load_tests : List ℕ → List (Bool × FileFault)
load_tests file = header_tests file
    ++ (type_tests file ++ (table_tests file
    ++ (programs_tests file [] (program_headers file) ++ whole_tests file)))

-- why the file is refused; none where it is an executable of this machine
abbrev pub first_fault : List ℕ → Option FileFault
first_fault file = first_true (load_tests file)

-- what is needed to copy the segment of a program header, if it has one
pub record IsLoadable (file : List ℕ) (p : ProgramHeader) : Type 0 where
  pub within : is_past file p.p_offset p.p_filesz ≡ false
  pub stored : p.p_type ≡ pt_load → p.p_filesz ≤ p.p_memsz
  pub ends : p.p_type ≡ pt_load → p.p_vaddr + p.p_memsz ≤ 2 ^ 64
