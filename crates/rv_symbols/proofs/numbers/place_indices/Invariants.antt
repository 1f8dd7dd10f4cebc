use Rattle.std.proofs.Common.{map, take}
use Rattle.rv_object_types.specs.Parts.{symbol_of}
use Rattle.rv_symbols.specs.Indices.{ArePlaceIndices}
use Rattle.rv_symbols.proofs.numbers.place_indices.Given as goal

abbrev pub invariant-loop-i : goal.invariant-loop-i
invariant-loop-i l = ArePlaceIndices l.places (map symbol_of (take l.i l.symbols))
