-- The symbols of an object with the numbers that stand for them.

use Rattle.std.specs.Prelude.{◌≡◌, ℕ, List, map}
use Rattle.std.specs.List.{AllByRecursion}
use Rattle.rv_statement_laws.specs.Statement.{Statement}
use Rattle.rv_unit_laws.specs.Tables.{Tables, at_start, tables}
use Rattle.rv_source_laws.specs.Located.{located_from}
use Rattle.rv_object_types.specs.Parts.{symbol_of}
use Rattle.rv_assemble_laws.specs.LaidStatements.{LaidStatement}
use Rattle.rv_assemble_laws.specs.Symbols.{SymbolUse, references, symbols_of}
use Rattle.rv_assemble_laws.specs.IsObjectOf.{Numbering, IsNumbered}
use Rattle.rv_symbols.specs.declared.table.SymbolTable.{SymbolTable}

-- the statements of a source stand at these offsets, and their relocations name these symbols
pub record AreLaid (ss : List Statement) (offsets : List ℕ) (rs : List SymbolUse)
    (laid : List LaidStatement) : Type 0 where
  pub located : map (λ s. s.located) laid ≡ located_from 1 1 (at_start ss) ss
  pub at : map (λ s. s.offset) laid ≡ offsets
  pub named : references (tables ss) laid ≡ rs

-- the symbols of a source's object, and for each use the index of the symbol that stands for it
pub record HasSymbols (t : Tables) (laid : List LaidStatement) (rs : List SymbolUse)
    (x : SymbolTable) : Type 0 where
  pub symbols : map symbol_of x.symbols.items ≡ symbols_of t laid
  pub number : Numbering
  pub numbers : map (λ r. number r.ordinal r.symbol) rs ≡ x.numbers.items
  -- each stands for its use
  pub numbered : AllByRecursion (IsNumbered t laid number (symbols_of t laid)) rs
