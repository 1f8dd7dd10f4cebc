use Rattle.std.proofs.Common.{◌≡◌, ◌+◌, length, drop}
use Rattle.rv_debug_laws.specs.CarriedFile.{merged_contents}
use Rattle.rv_debug_sections.specs.Views.{all_merged}
use Rattle.rv_debug_sections.proofs.writing.contents_end.Given as goal

abbrev pub invariant-loop-section : goal.invariant-loop-section
invariant-loop-section l =
    l.end + length (merged_contents (all_merged (drop l.section-index l.merged))) ≡ l.place + length (merged_contents (all_merged l.merged))
