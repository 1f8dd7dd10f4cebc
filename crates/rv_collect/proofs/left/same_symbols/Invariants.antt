-- The symbols so far, with what is left, are all of them.
use Rattle.std.proofs.Common.{◌≡◌, ◌++◌, map, drop}
use Rattle.rv_object_types.specs.Parts.{symbol_of}
use Rattle.rv_collect.proofs.left.same_symbols.Given as goal

abbrev pub invariant-loop-symbol : goal.invariant-loop-symbol
invariant-loop-symbol l = map symbol_of l.same.items ++ map symbol_of (drop l.symbol-index l.symbols) ≡ map symbol_of l.symbols
