use Rattle.std.proofs.Common.{map, take}
use Rattle.rv_object_types.specs.Parts.{symbol_of}
use Rattle.rv_symbols.specs.Indices.{AreNameIndices}
use Rattle.rv_symbols.proofs.numbers.name_indices.Given as goal

abbrev pub invariant-loop-i : goal.invariant-loop-i
invariant-loop-i l = AreNameIndices l.names (map symbol_of (take l.i l.symbols))
