use Rattle.std.proofs.Common.{◌≡◌, map, drop}
use Rattle.rv_object_types.specs.Parts.{relocation_of}
use Rattle.rv_link_sites.specs.Between.{next_field}
use Rattle.rv_link_sites.proofs.between.next_field.Given as goal

-- none so far has a field
abbrev pub invariant-loop-relocation : goal.invariant-loop-relocation
invariant-loop-relocation l = next_field (map relocation_of (drop l.relocation-index l.relocations)) ≡ next_field (map relocation_of l.relocations)
