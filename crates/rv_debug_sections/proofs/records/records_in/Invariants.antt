use Rattle.std.proofs.Common.{◌≡◌, ◌+◌, ◌*◌, ◌-◌, ◌++◌, drop}
use Rattle.rv_elf_laws.specs.Records.{symbol_at}
use Rattle.rv_elf_laws.specs.Sections.{records, symbols_in}
use Rattle.rv_debug_sections.proofs.records.records_in.Given as goal

-- the symbols so far, and those of the records that are left
abbrev pub invariant-loop-earlier : goal.invariant-loop-earlier
invariant-loop-earlier l =
    l.symbols.items ++ records symbol_at 24 (l.others - l.earlier) (24 * (l.earlier + 1)) l.bytes
    ≡ drop 1 (symbols_in l.bytes)
