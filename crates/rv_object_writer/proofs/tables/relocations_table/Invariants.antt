use Rattle.std.proofs.Common.{◌≡◌, ◌++◌, map, drop, take, All}
use Rattle.rv_object_types.specs.Parts.{relocation_of}
use Rattle.rv_object_file_laws.specs.Known.{IsRelocation}
use Rattle.rv_object_file_laws.specs.Written.{relocations_bytes}
use Rattle.rv_object_writer.proofs.tables.relocations_table.Given as goal

abbrev pub invariant-loop-relocation : goal.invariant-loop-relocation
invariant-loop-relocation l =
    (l.out ++ relocations_bytes (map relocation_of (drop l.relocation-index l.relocations)) ≡ relocations_bytes (map relocation_of l.relocations))
    × All (λ r. IsRelocation (relocation_of r)) (take l.relocation-index l.relocations)
