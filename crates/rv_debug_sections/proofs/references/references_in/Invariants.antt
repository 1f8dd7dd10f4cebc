use Rattle.std.proofs.Common.{◌≡◌, ◌+◌, ◌-◌, ◌++◌}
use Rattle.rv_elf_laws.specs.Sections.{section_count}
use Rattle.rv_debug_laws.specs.CarriedNames.{references_from}
use Rattle.rv_debug_sections.proofs.references.references_in.Given as goal

abbrev pub invariant-loop-earlier : goal.invariant-loop-earlier
invariant-loop-earlier l =
    let file = l.view.file.now in
    let count = section_count file - 1 in
    l.numbers.items ++ references_from file (l.earlier + 1) (count - l.earlier) ≡ references_from file 1 count
