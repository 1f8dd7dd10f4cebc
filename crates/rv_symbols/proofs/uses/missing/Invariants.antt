use Rattle.std.proofs.Common.{◌≡◌, ◌≤◌, ◌+◌, true, [], length, map, drop}
use Rattle.std.specs.Prelude.{option_map, flat_map}
use Rattle.rv_statement.specs.View.{now_of}
use Rattle.rv_unit_laws.specs.Tables.{Tables}
use Rattle.rv_unit.specs.Unit.{definition_of}
use Rattle.rv_assemble_laws.specs.Symbols.{missing_name}
use Rattle.rv_assemble_laws.specs.ShownNames.{are_shown, used_names, AreShown}
use Rattle.rv_symbols.specs.SymbolUse.{uses_of}
use Rattle.rv_symbols.specs.Found.{definition_in, with_names}
use Rattle.rv_symbols.proofs.uses.missing.Given as goal

-- the names so far, with those of the uses that are left, are all of them
abbrev pub invariant-loop-i : goal.invariant-loop-i
invariant-loop-i l = record {
  names : (t : Tables) → map (option_map definition_of) l.definitions ≡ map (definition_in t) (uses_of l.uses)
      → with_names (map now_of l.names.keys) (flat_map (λ r. missing_name t r.ordinal r.symbol) (drop l.i (uses_of l.uses)))
      ≡ with_names [] (flat_map (λ r. missing_name t r.ordinal r.symbol) (uses_of l.uses));
  few : length l.names.keys + length (used_names (drop l.i (uses_of l.uses))) ≤ length (used_names (uses_of l.uses));
  shown : AreShown (uses_of l.uses) → are_shown (map now_of l.names.keys) ≡ true;
}
