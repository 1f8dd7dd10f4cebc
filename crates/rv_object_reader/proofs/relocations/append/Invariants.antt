use Rattle.std.proofs.Common.{◌≡◌, ◌*◌, ◌-◌, ◌/◌, ◌++◌, length, map}
use Rattle.rv_elf_laws.specs.Records.{rela_at}
use Rattle.rv_elf_laws.specs.Sections.{records, relas_in}
use Rattle.rv_object_types.specs.Parts.{relocation_of}
use Rattle.rv_object_file_laws.specs.Parts.{relocations_in}
use Rattle.rv_object_reader.proofs.relocations.append.Given as goal

-- the relocations so far, and those of the records that are left
abbrev pub invariant-loop-index : goal.invariant-loop-index
invariant-loop-index l =
    map relocation_of l.list.items ++ relocations_in (records rela_at 24 (length l.bytes / 24 - l.index) (24 * l.index) l.bytes)
    ≡ map relocation_of l.fn.list.items ++ relocations_in (relas_in l.bytes)
