use Rattle.std.proofs.Common.{◌≡◌, ◌++◌, ℕ, List, map, drop, take, replicate, All}
use Rattle.std.specs.Prelude.{flat_map}
use Rattle.rv_elf_laws.specs.Fields.{symbol_size}
use Rattle.rv_elf_laws.specs.Records.{symbol_bytes}
use Rattle.rv_object_types.specs.Parts.{symbol_of}
use Rattle.rv_object_file_laws.specs.Known.{IsSymbol}
use Rattle.rv_object_file_laws.specs.Written.{strings_of, symbol_record}
use Rattle.rv_object_writer.specs.Strings.{IsStringTable}
use Rattle.rv_object_writer.proofs.tables.symbols_table.Given as goal

abbrev pub invariant-loop-symbol : goal.invariant-loop-symbol
invariant-loop-symbol l =
    ((ns : List (List ℕ)) → IsStringTable (strings_of ns) l.names
    → l.out ++ flat_map (λ s. symbol_bytes (symbol_record ns l.last s)) (map symbol_of (drop l.symbol-index l.symbols))
    ≡ replicate symbol_size 0 ++ flat_map (λ s. symbol_bytes (symbol_record ns l.last s)) (map symbol_of l.symbols))
    × All (λ s. IsSymbol (symbol_of s)) (take l.symbol-index l.symbols)
