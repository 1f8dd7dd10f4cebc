use Rattle.std.proofs.Common.{◌≡◌, ◌+◌, ◌-◌}
use Rattle.rv_elf_laws.specs.Sections.{section_count}
use Rattle.rv_debug_laws.specs.Carried.{first_section, is_debug_section}
use Rattle.rv_debug_sections.proofs.named.debug_section.Given as goal

abbrev pub invariant-loop-earlier : goal.invariant-loop-earlier
invariant-loop-earlier l =
    let file = l.view.file.now in
    first_section (is_debug_section l.strings l.name) file 1 (section_count file - 1)
    ≡ first_section (is_debug_section l.strings l.name) file (l.earlier + 1) (section_count file - 1 - l.earlier)
