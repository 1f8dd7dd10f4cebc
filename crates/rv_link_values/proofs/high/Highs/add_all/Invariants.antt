-- The relocations that are done stand behind those that are left, and each place has the first of them.
use Rattle.std.proofs.Common.{◌≡◌, ◌++◌, List, map, length}
use Rattle.rv_object_types.specs.declared.relocation.Relocation.{Relocation as DeclaredRelocation}
use Rattle.rv_object_types.specs.Parts.{relocation_of}
use Rattle.rv_link_laws.specs.Moves.{new_offset}
use Rattle.rv_cut_laws.specs.Cutting.{cut_relocation}
use Rattle.rv_shorten.specs.Sections.{moves_in}
use Rattle.rv_relax.specs.Kept.{moves_of}
use Rattle.rv_link_values.specs.Highs.{high_to, HasBefore}
use Rattle.rv_link_values.proofs.high.Highs.add_all.Given as goal

abbrev pub invariant-loop-left : goal.invariant-loop-left
invariant-loop-left l =
    (done : List DeclaredRelocation) × (l.section.whole.now.relocations.items ≡ l.left ++ done)
    × HasBefore l.fn.self l.self l.file.0 l.index.0 (λ offset. high_to (new_offset (moves_of l.plan)) offset (map (cut_relocation (moves_in l.section)) (map relocation_of done)))

abbrev pub decreases-loop-left : goal.decreases-loop-left
decreases-loop-left l = length l.left
