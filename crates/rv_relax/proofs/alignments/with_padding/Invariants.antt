-- Those so far, and those among the relocations that are left, are all of them.
use Rattle.std.proofs.Common.{◌≡◌, ◌++◌, map, drop}
use Rattle.rv_object_types.specs.Parts.{relocation_of}
use Rattle.rv_shorten.specs.Sections.{moves_in}
use Rattle.rv_relax.proofs.MovedLemmas.{padded_of}
use Rattle.rv_relax.proofs.alignments.with_padding.Given as goal

abbrev pub invariant-loop-relocation : goal.invariant-loop-relocation
invariant-loop-relocation l =
    let ms = moves_in l.section in
    let rs = l.section.whole.now.relocations.items in
    map relocation_of l.found.items ++ padded_of ms (drop l.relocation-index rs) ≡ padded_of ms rs
