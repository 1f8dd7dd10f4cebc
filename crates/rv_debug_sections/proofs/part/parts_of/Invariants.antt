use Rattle.std.proofs.Common.{◌≡◌, ◌++◌, drop, map}
use Rattle.rv_debug_laws.specs.Carried.{merged_part_of}
use Rattle.rv_debug_sections.specs.Views.{plain_merged, plain_part}
use Rattle.rv_debug_sections.proofs.part.parts_of.Given as goal

abbrev pub invariant-loop-section : goal.invariant-loop-section
invariant-loop-section l =
    map plain_part l.parts.items ++ map (merged_part_of l.view.file.now) (map plain_merged (drop l.section-index l.merged))
    ≡ map (merged_part_of l.view.file.now) (map plain_merged l.merged)
