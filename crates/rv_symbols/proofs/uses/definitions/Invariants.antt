use Rattle.std.proofs.Common.{◌≡◌, ◌≤◌, ◌+◌, ◌-◌, ◌++◌, length, map, drop}
use Rattle.std.specs.Prelude.{option_map}
use Rattle.rv_unit_laws.specs.Tables.{tables}
use Rattle.rv_unit.specs.Unit.{said, definition_of, IsFilled, IsScope}
use Rattle.rv_symbols.specs.SymbolUse.{uses_of}
use Rattle.rv_symbols.specs.Found.{definition_in, Rises}
use Rattle.rv_symbols.proofs.uses.definitions.Given as goal

-- the definitions so far, and those of the uses that are left, are all of them; the scope stands before the statement of the last use
abbrev pub invariant-loop-symbol_use : goal.invariant-loop-symbol_use
invariant-loop-symbol_use l = record {
  len : length l.found.items ≡ l.symbol_use-index;
  unit : l.scope.unit.now ≡ l.unit;
  low : IsFilled l.unit → Rises 1 (length (said l.unit)) (uses_of l.uses) → 1 ≤ l.ordinal;
  within : IsFilled l.unit → Rises 1 (length (said l.unit)) (uses_of l.uses) → l.ordinal ≤ length (said l.unit) + 1;
  rises : IsFilled l.unit → Rises 1 (length (said l.unit)) (uses_of l.uses) → Rises l.ordinal (length (said l.unit)) (drop l.symbol_use-index (uses_of l.uses));
  scope : IsFilled l.unit → Rises 1 (length (said l.unit)) (uses_of l.uses) → IsScope l.scope (l.ordinal - 1);
  found : IsFilled l.unit → Rises 1 (length (said l.unit)) (uses_of l.uses)
      → map (option_map definition_of) l.found.items ++ map (definition_in (tables (said l.unit))) (drop l.symbol_use-index (uses_of l.uses))
      ≡ map (definition_in (tables (said l.unit))) (uses_of l.uses);
}
