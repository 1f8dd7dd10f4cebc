use Rattle.std.proofs.Common.{◌≡◌, ◌+◌, length, drop}
use Rattle.rv_debug_laws.specs.CarriedFile.{merged_names}
use Rattle.rv_debug_sections.specs.Views.{all_merged}
use Rattle.rv_debug_sections.proofs.writing.names_end.Given as goal

abbrev pub invariant-loop-section : goal.invariant-loop-section
invariant-loop-section l =
    l.end + length (merged_names (all_merged (drop l.section-index l.merged))) ≡ l.place + length (merged_names (all_merged l.merged))
