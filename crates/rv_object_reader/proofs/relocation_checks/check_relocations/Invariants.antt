use Rattle.std.proofs.Common.{◌/◌, length, List}
use Rattle.rv_elf_laws.specs.Sections.{relas_in}
use Rattle.rv_object_laws.specs.Object.{Relocation}
use Rattle.rv_object_reader.specs.Held.{fields_of}
use Rattle.rv_object_reader.specs.Stretches.{HoldsCode}
use Rattle.rv_object_reader.proofs.RelocationStepsLemmas.{Going, left_of}
use Rattle.rv_object_reader.proofs.relocation_checks.check_relocations.Given as goal

abbrev pub invariant-loop-index : goal.invariant-loop-index
invariant-loop-index l =
    (before : List Relocation)
    → HoldsCode l.header l.fn.places.paddings.by_end.entries (fields_of l.fn.places) before
    → Going l.header l.symbols before (relas_in l.records) l.places.paddings.by_end.entries (fields_of l.places) (left_of (length l.records / 24) l.index l.records)
