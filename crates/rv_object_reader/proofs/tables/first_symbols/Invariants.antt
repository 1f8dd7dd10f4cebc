use Rattle.std.proofs.Common.{◌≡◌, ◌+◌, ◌-◌}
use Rattle.std.specs.List.{find}
use Rattle.rv_elf_laws.specs.Sections.{section_count}
use Rattle.rv_object_file_laws.specs.Parts.{is_symbol_table, sections}
use Rattle.rv_object_reader.specs.Found.{sections_from}
use Rattle.rv_object_reader.proofs.tables.first_symbols.Given as goal

-- what is first in all is first in what is left
abbrev pub invariant-loop-earlier : goal.invariant-loop-earlier
invariant-loop-earlier l =
    let file = l.names.view.file.now in
    find (λ s. is_symbol_table s.header) (sections file) ≡ find (λ s. is_symbol_table s.header) (sections_from file (section_count file - 1 - l.earlier) (l.earlier + 1))
