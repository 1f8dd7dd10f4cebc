use Rattle.std.proofs.Common.{◌≡◌, map, take}
use Rattle.rv_elf_laws.specs.declared.symbol.Symbol.{Symbol}
use Rattle.rv_table_names.proofs.sizes.symbol_sizes.Given as goal

abbrev pub invariant-loop-symbol : goal.invariant-loop-symbol
invariant-loop-symbol l = l.sizes.items ≡ map (λ (r : Symbol). r.st_size) (take l.symbol-index l.records)
