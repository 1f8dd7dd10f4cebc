use Rattle.std.proofs.Common.{◌≡◌, ◌++◌, drop}
use Rattle.rv_debug_laws.specs.CarriedFile.{merged_names}
use Rattle.rv_debug_sections.specs.Views.{all_merged}
use Rattle.rv_debug_sections.proofs.writing.put_names.Given as goal

abbrev pub invariant-loop-section : goal.invariant-loop-section
invariant-loop-section l = l.out ++ merged_names (all_merged (drop l.section-index l.merged)) ≡ l.initial.out ++ merged_names (all_merged l.merged)
