use Rattle.std.proofs.Common.{◌≡◌, ◌+◌, ◌-◌, []}
use Rattle.std.specs.List.{list_any}
use Rattle.rv_elf_laws.specs.FirstFault.{first_true}
use Rattle.rv_elf_laws.specs.Sections.{section_count}
use Rattle.rv_object_file_laws.specs.FirstFault.{sections_tests}
use Rattle.rv_object_file_laws.specs.Parts.{is_symbol_table, is_rows, sections}
use Rattle.rv_object_reader.specs.Found.{sections_from}
use Rattle.rv_object_reader.specs.Walk.{HoldBefore}
use Rattle.rv_object_reader.proofs.walk.check_sections.Given as goal

-- what is known of the sections so far, and that the first fault of all is that of those that are left
abbrev pub invariant-loop-earlier : goal.invariant-loop-earlier
invariant-loop-earlier l =
    let file = l.tables.names.view.file.now in record {
      held : HoldBefore file (sections_from file l.earlier 1) l.held.items;
      with_symbols : l.symbols_before ≡ list_any (λ s. is_symbol_table s.header) (sections_from file l.earlier 1);
      with_rows : l.rows_before ≡ list_any (λ s. is_rows file s.header) (sections_from file l.earlier 1);
      left : first_true (sections_tests file [] (sections file))
          ≡ first_true (sections_tests file (sections_from file l.earlier 1) (sections_from file (section_count file - 1 - l.earlier) (l.earlier + 1)));
    }
