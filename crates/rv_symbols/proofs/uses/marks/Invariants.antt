use Rattle.std.proofs.Common.{◌≡◌, length, map, take}
use Rattle.std.specs.Prelude.{option_map}
use Rattle.rv_unit_laws.specs.Tables.{Tables}
use Rattle.rv_unit.specs.Unit.{definition_of}
use Rattle.rv_symbols.specs.SymbolUse.{uses_of}
use Rattle.rv_symbols.specs.Found.{definition_in, AreMarks}
use Rattle.rv_symbols.proofs.uses.marks.Given as goal

abbrev pub invariant-loop-i : goal.invariant-loop-i
invariant-loop-i l = record {
  len : length l.meant.items ≡ l.count;
  marks : (t : Tables) → map (option_map definition_of) l.definitions ≡ map (definition_in t) (uses_of l.uses)
      → AreMarks t (take l.i (uses_of l.uses)) l.meant.items l.count;
}
