-- What an executable has to be for more to stand behind it, and where it has the bytes of the map's
-- regions (System V gABI, "Program Header").

use Rattle.std.specs.Prelude.{ℕ, ◌+◌, ◌-◌, ◌==◌, nat_le, Bool, ◌&&◌, ◌||◌, if◌then◌else◌, List, length, Option, Some, option_map}
use Rattle.std.specs.List.{find, list_all}
use Rattle.rv_elf_laws.specs.declared.program_header.ProgramHeader.{ProgramHeader}
use Rattle.rv_elf_laws.specs.Fields.{number_in, e_phoff, file_header_size}
use Rattle.rv_elf_laws.specs.Sections.{program_headers, program_count, is_load}
use Rattle.rv_map_laws.specs.declared.map.Region.{Region}

-- the contents of a segment lie in the file, behind its header
abbrev pub is_behind_header : List ℕ → ProgramHeader → Bool
is_behind_header file p =
    p.p_filesz == 0
    || nat_le file_header_size p.p_offset && nat_le (p.p_offset + p.p_filesz) (length file)

-- nothing of the program stands in the file's header, whose fields are to change
abbrev pub can_grow : List ℕ → Bool
can_grow file =
    (program_count file == 0 || nat_le file_header_size (number_in e_phoff 0 file))
    && list_all (is_behind_header file) (program_headers file)

-- a segment has these addresses, and the file its bytes there
abbrev pub has_bytes : Region → ProgramHeader → Bool
has_bytes r p =
    is_load p && nat_le p.p_vaddr r.start && nat_le r.end (p.p_vaddr + p.p_filesz)

-- where the file has the bytes of a region, by its first segment with them; one without bytes may
-- be anywhere
abbrev pub stored_at : List ProgramHeader → Region → Option ℕ
stored_at programs r =
    if nat_le r.end r.start then Some 0
    else option_map (λ p. p.p_offset + (r.start - p.p_vaddr)) (find (has_bytes r) programs)
