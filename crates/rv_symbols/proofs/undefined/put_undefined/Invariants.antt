use Rattle.std.proofs.Common.{◌≡◌, ◌++◌, List, map, drop}
use Rattle.rv_statement.specs.View.{now_of}
use Rattle.rv_object_laws.specs.declared.symbol.Definition.TheVariants.{Undefined}
use Rattle.rv_object_types.specs.Parts.{symbol_of}
use Rattle.rv_assemble_laws.specs.LaidStatements.{LaidStatement}
use Rattle.rv_assemble_laws.specs.Symbols.{shared_symbol}
use Rattle.rv_symbols.specs.Source.{tables_of, IsSource}
use Rattle.rv_symbols.proofs.undefined.put_undefined.Given as goal

abbrev pub invariant-loop-name : goal.invariant-loop-name
invariant-loop-name l = (laid : List LaidStatement) → IsSource l.source laid
    → map symbol_of l.symbols.items ++ map (λ name. shared_symbol (tables_of l.source) name Undefined) (drop l.name-index (map now_of l.names))
    ≡ map symbol_of l.fn.symbols.items ++ map (λ name. shared_symbol (tables_of l.source) name Undefined) (map now_of l.names)
