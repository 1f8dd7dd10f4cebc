use Rattle.std.proofs.Common.{◌≡◌, ◌≤◌, map, drop}
use Rattle.rv_object_types.specs.Parts.{relocation_of}
use Rattle.rv_object_types.specs.Alignments.{raised_by}
use Rattle.rv_object_types.proofs.alignment.raised.Given as goal

abbrev pub invariant-loop-relocation : goal.invariant-loop-relocation
invariant-loop-relocation l =
    (raised_by (map relocation_of (drop l.relocation-index l.relocations)) l.greatest ≡ raised_by (map relocation_of l.relocations) l.alignment)
    × (l.greatest ≤ 4096) × (l.alignment ≤ l.greatest)
