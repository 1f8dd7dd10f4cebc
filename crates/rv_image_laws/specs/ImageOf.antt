-- The image of a file (System V gABI, "ProgramHeader Loading"; RISC-V ELF psABI, "File Header").

use Rattle.std.specs.Prelude.{◌≡◌, ℕ, ◌-◌, List, ◌++◌, take, drop, replicate, map, filter}
use Rattle.rv_elf_laws.specs.declared.program_header.ProgramHeader.{ProgramHeader}
use Rattle.rv_elf_laws.specs.Fields.{number_in, ei_magic, ei_class, ei_data, ei_version, e_type, e_machine, e_entry}
use Rattle.rv_elf_laws.specs.Numbers.{elfmag, elfclass64, elfdata2lsb, ev_current, et_exec, em_riscv}
use Rattle.rv_elf_laws.specs.Sections.{program_headers, is_load}
use Rattle.rv_image_laws.specs.Segment.{Segment}
use Rattle.rv_image_laws.specs.Image.{Image}

-- the segment of a program header: the bytes that the file has of it, and zeros up to its size in
-- memory
abbrev pub segment_in : List ℕ → ProgramHeader → Segment
segment_in file p = record {
  address = p.p_vaddr;
  bytes = take p.p_filesz (drop p.p_offset file) ++ replicate (p.p_memsz - p.p_filesz) 0;
  flags = p.p_flags;
}

-- the file is an executable of this machine, and the image has its entry and a segment for each
-- PT_LOAD
pub record ImageOf (file : List ℕ) (image : Image) : Type 0 where
  pub magic : number_in ei_magic 0 file ≡ elfmag
  pub class : number_in ei_class 0 file ≡ elfclass64
  pub order : number_in ei_data 0 file ≡ elfdata2lsb
  pub version : number_in ei_version 0 file ≡ ev_current
  pub executable : number_in e_type 0 file ≡ et_exec
  pub riscv : number_in e_machine 0 file ≡ em_riscv
  pub entry : image.entry ≡ number_in e_entry 0 file
  pub segments : image.segments ≡ map (segment_in file) (filter is_load (program_headers file))
