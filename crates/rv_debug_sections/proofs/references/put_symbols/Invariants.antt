use Rattle.std.proofs.Common.{◌≡◌, ◌*◌, ◌-◌, ◌/◌, ◌++◌, length, map}
use Rattle.rv_elf_laws.specs.declared.rela.Rela.{Rela}
use Rattle.rv_elf_laws.specs.Records.{rela_at}
use Rattle.rv_elf_laws.specs.Sections.{records, relas_in}
use Rattle.rv_debug_sections.proofs.references.put_symbols.Given as goal

abbrev pub invariant-loop-index : goal.invariant-loop-index
invariant-loop-index l =
    l.numbers.items ++ map (λ (r : Rela). r.r_sym) (records rela_at 24 (length l.records / 24 - l.index) (24 * l.index) l.records)
    ≡ l.initial.numbers.items ++ map (λ (r : Rela). r.r_sym) (relas_in l.records)
