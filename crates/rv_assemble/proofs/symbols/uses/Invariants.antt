use Rattle.std.proofs.Common.{◌≡◌, ◌++◌, drop}
use Rattle.std.specs.Prelude.{flat_map}
use Rattle.rv_symbols.specs.SymbolUse.{uses_of}
use Rattle.rv_assemble.specs.Tabled.{open_field_use}
use Rattle.rv_assemble.proofs.symbols.uses.Given as goal

-- the symbols so far, and those of what is left, are all symbols
abbrev pub invariant-loop-index : goal.invariant-loop-index
invariant-loop-index l = uses_of l.uses.items ++ flat_map open_field_use (drop l.index l.fields) ≡ flat_map open_field_use l.fields
