use Rattle.std.proofs.Common.{◌≡◌, ◌+◌, ◌-◌}
use Rattle.rv_elf_laws.specs.Sections.{section_count}
use Rattle.rv_debug_laws.specs.CarriedNames.{carried_names_from}
use Rattle.rv_debug_sections.specs.Views.{all_names}
use Rattle.rv_debug_sections.proofs.carried.put_all_names.Given as goal

abbrev pub invariant-loop-earlier : goal.invariant-loop-earlier
invariant-loop-earlier l =
    let file = l.view.file.now in
    let count = section_count file - 1 in
    carried_names_from file 1 count (all_names l.initial.names.items)
    ≡ carried_names_from file (l.earlier + 1) (count - l.earlier) (all_names l.names.items)
