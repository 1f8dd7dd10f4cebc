-- The executable that a linked program becomes (System V gABI, "ELF Header" and "Program Header").

use Rattle.std.specs.Prelude.{ℕ, ◌+◌, ◌-◌, ◌==◌, Bool, not, if◌then◌else◌, List, [], ◌∷◌, ◌++◌, length, replicate, map, filter, flat_map}
use Rattle.rv_elf_laws.specs.declared.file_header.FileHeader.{FileHeader}
use Rattle.rv_elf_laws.specs.declared.program_header.ProgramHeader.{ProgramHeader}
use Rattle.rv_elf_laws.specs.Fields.{file_header_size, program_header_size}
use Rattle.rv_elf_laws.specs.Numbers.{et_exec, em_riscv, ev_current, ef_riscv_rvc, pt_load, pf_x, pf_w, pf_r}
use Rattle.rv_elf_laws.specs.Records.{file_header_bytes, program_header_bytes}
use Rattle.rv_image_laws.specs.Segment.{Segment}
use Rattle.rv_image_laws.specs.Image.{Image}
use Rattle.rv_image_laws.specs.Linked.{Linked}

-- what the file has of a segment, and the zeros that follow it in memory
pub record Part : Type 0 where
  pub address : ℕ
  pub stored : List ℕ
  pub zeros : ℕ
  pub flags : ℕ

abbrev pub memory_size_of : Part → ℕ
memory_size_of part = length part.stored + part.zeros

-- text to execute, constants to read, and data with bss to read and write
abbrev pub all_parts : Linked → List Part
all_parts l = record { address = l.map.text.start; stored = l.text; zeros = 0; flags = pf_x }
    ∷ record { address = l.map.rodata.start; stored = l.rodata; zeros = 0; flags = pf_r }
    ∷ record {
      address = l.map.data.start;
      stored = l.data;
      zeros = l.map.bss.end - l.map.data.end;
      flags = pf_r + pf_w;
    }
    ∷ []

abbrev pub has_memory : Part → Bool
has_memory part = not (memory_size_of part == 0)

-- those that have memory
abbrev pub parts_with_memory : Linked → List Part
parts_with_memory l = filter has_memory (all_parts l)

-- where the file has a segment: text, which begins at this start, at 1000h, the others as far
-- after it as in memory
abbrev pub offset_of : ℕ → Part → ℕ
offset_of start part = 0x1000 + (part.address - start)

-- the header: the program headers come after it, and there are no section headers
abbrev pub header_of : Linked → FileHeader
header_of l = record {
  e_type = et_exec;
  e_machine = em_riscv;
  e_version = ev_current;
  e_entry = l.map.entry;
  e_phoff = file_header_size;
  e_shoff = 0;
  e_flags = if l.rvc then ef_riscv_rvc else 0;
  e_ehsize = file_header_size;
  e_phentsize = program_header_size;
  e_phnum = length (parts_with_memory l);
  e_shentsize = 0;
  e_shnum = 0;
  e_shstrndx = 0;
}

-- the program header of a part, where text begins at this start; its alignment is a page
abbrev pub program_of : ℕ → Part → ProgramHeader
program_of start part = record {
  p_type = pt_load;
  p_flags = part.flags;
  p_offset = offset_of start part;
  p_vaddr = part.address;
  p_paddr = part.address;
  p_filesz = length part.stored;
  p_memsz = memory_size_of part;
  p_align = 0x1000;
}

abbrev pub program_bytes : ℕ → Part → List ℕ
program_bytes start part = program_header_bytes (program_of start part)

-- a file with these bytes at a place after its end, zeros between; nothing for no bytes
abbrev pub with_contents : List ℕ → ℕ → List ℕ → List ℕ
with_contents file place [] = file
with_contents file place (byte ∷ bytes) =
    file ++ (replicate (place - length file) 0 ++ (byte ∷ bytes))

-- the contents of the parts, each at its place (a part without memory has none)
abbrev pub with_parts : ℕ → List ℕ → List Part → List ℕ
with_parts start file [] = file
with_parts start file (part ∷ rest) =
    with_parts start (with_contents file (offset_of start part) part.stored) rest

-- the file: header, program headers, contents
abbrev pub exe_of : Linked → List ℕ
exe_of l =
    with_parts l.map.text.start
    (file_header_bytes (header_of l)
    ++ flat_map (program_bytes l.map.text.start) (parts_with_memory l))
    (all_parts l)

abbrev pub segment_of_part : Part → Segment
segment_of_part part =
    record {
      address = part.address;
      bytes = part.stored ++ replicate part.zeros 0;
      flags = part.flags;
    }

-- the image that the linker meant
abbrev pub linked_image : Linked → Image
linked_image l = record {
  entry = l.map.entry;
  segments = map
      (λ part. record {
        address = part.address;
        bytes = part.stored ++ replicate part.zeros 0;
        flags = part.flags;
      }) (parts_with_memory l);
}
