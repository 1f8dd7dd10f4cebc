use Rattle.std.proofs.Common.{◌≡◌, ◌++◌, drop}
use Rattle.rv_debug_laws.specs.CarriedFile.{own_sections}
use Rattle.rv_debug_sections.specs.Views.{all_merged, all_names}
use Rattle.rv_debug_sections.proofs.headers.own_sections.Given as goal

abbrev pub invariant-loop-name : goal.invariant-loop-name
invariant-loop-name l =
    all_merged l.sections.items ++ own_sections l.view.file.now (all_names (drop l.name-index l.names))
    ≡ own_sections l.view.file.now (all_names l.names)
