use Rattle.std.proofs.Common.{pos, ◌≡◌, ◌+◌, ◌-◌}
use Rattle.rv_elf_laws.specs.Sections.{section_count}
use Rattle.rv_debug_laws.specs.Carried.{relocated_from}
use Rattle.rv_debug_sections.specs.Views.{plain_part, plain_source}
use Rattle.rv_debug_sections.proofs.fill.relocate_all.Given as goal

abbrev pub invariant-loop-earlier : goal.invariant-loop-earlier
invariant-loop-earlier l =
    let count = section_count l.source.view.file.now - 1 in
    relocated_from (plain_source l.source) (plain_part l.part) (pos l.lost) 1 count l.initial.bytes
    ≡ relocated_from (plain_source l.source) (plain_part l.part) (pos l.lost) (l.earlier + 1) (count - l.earlier) l.bytes
