use Rattle.std.proofs.Common.{◌≡◌, List, ◌++◌, map, drop}
use Rattle.std.specs.Prelude.{option_map}
use Rattle.rv_statement.specs.View.{now_of}
use Rattle.rv_unit_laws.specs.Tables.{Tables}
use Rattle.rv_unit.specs.Unit.{definition_of}
use Rattle.rv_object_types.specs.Parts.{symbol_of}
use Rattle.rv_assemble_laws.specs.LaidStatements.{LaidStatement}
use Rattle.rv_symbols.specs.SymbolUse.{uses_of}
use Rattle.rv_symbols.specs.Source.{IsSource}
use Rattle.rv_symbols.specs.Numbers.{number_by}
use Rattle.rv_symbols.specs.Found.{definition_in}
use Rattle.rv_symbols.proofs.numbers.numbers.Given as goal

-- the numbers so far, and those of the uses that are left, are all of them
abbrev pub invariant-loop-i : goal.invariant-loop-i
invariant-loop-i l = (laid : List LaidStatement) (t : Tables) → IsSource l.fn.source laid → map (option_map definition_of) l.definitions ≡ map (definition_in t) (uses_of l.uses)
    → l.numbers.items ++ map (λ r. number_by (map symbol_of l.fn.own) (map now_of l.fn.missing.keys) laid r.symbol (definition_in t r)) (drop l.i (uses_of l.uses))
    ≡ map (λ r. number_by (map symbol_of l.fn.own) (map now_of l.fn.missing.keys) laid r.symbol (definition_in t r)) (uses_of l.uses)
