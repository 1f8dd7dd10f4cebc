use Rattle.std.proofs.Common.{◌≡◌, ◌+◌, ◌*◌, ◌-◌, drop}
use Rattle.std.specs.Prelude.{flat_map}
use Rattle.rv_elf_laws.specs.FirstFault.{first_true}
use Rattle.rv_elf_laws.specs.Records.{symbol_at}
use Rattle.rv_elf_laws.specs.Sections.{records, symbols_in}
use Rattle.rv_object_file_laws.specs.FirstFault.{symbol_tests}
use Rattle.rv_object_reader.proofs.symbol_checks.check_table.Given as goal

-- the first fault of all symbols is that of those that are left
abbrev pub invariant-loop-earlier : goal.invariant-loop-earlier
invariant-loop-earlier l =
    first_true (flat_map (symbol_tests l.view.file.now l.names.table.now) (drop 1 (symbols_in l.bytes)))
    ≡ first_true (flat_map (symbol_tests l.view.file.now l.names.table.now) (records symbol_at 24 (l.others - l.earlier) (24 * (l.earlier + 1)) l.bytes))
