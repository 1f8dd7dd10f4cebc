use Rattle.std.proofs.Common.{◌≡◌, ◌+◌, ◌-◌}
use Rattle.rv_elf_laws.specs.Sections.{section_count}
use Rattle.rv_debug_laws.specs.Carried.{first_section}
use Rattle.rv_debug_laws.specs.CarriedNames.{is_carried_in}
use Rattle.rv_debug_sections.proofs.carried.first_carried.Given as goal

abbrev pub invariant-loop-earlier : goal.invariant-loop-earlier
invariant-loop-earlier l =
    let file = l.view.file.now in
    first_section (is_carried_in file) file 1 (section_count file - 1)
    ≡ first_section (is_carried_in file) file (l.earlier + 1) (section_count file - 1 - l.earlier)
