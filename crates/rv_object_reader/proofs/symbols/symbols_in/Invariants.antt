use Rattle.std.proofs.Common.{◌≡◌, ◌+◌, ◌*◌, ◌-◌, map, drop, None}
use Rattle.rv_elf_laws.specs.FirstFault.{first_true}
use Rattle.rv_elf_laws.specs.Records.{symbol_at}
use Rattle.rv_elf_laws.specs.Sections.{records, symbols_in}
use Rattle.rv_object_types.specs.Parts.{symbol_of}
use Rattle.rv_object_file_laws.specs.FirstFault.{symbol_tests}
use Rattle.rv_object_file_laws.specs.ObjectOf.{symbol_in}
use Rattle.rv_object_reader.proofs.MadeLemmas.{SoFar}
use Rattle.rv_object_reader.proofs.symbols.symbols_in.Given as goal

-- the symbols so far, and those of the records that are left
abbrev pub invariant-loop-earlier : goal.invariant-loop-earlier
invariant-loop-earlier l =
    let file = l.checked.view.file.now in
    SoFar (λ s. first_true (symbol_tests file l.names.table.now s) ≡ None) (symbol_in file) (drop 1 (symbols_in l.bytes)) (map symbol_of l.symbols.items)
    (records symbol_at 24 (l.others - l.earlier) (24 * (l.earlier + 1)) l.bytes)
