-- What the symbols that relocations name are.

use Rattle.std.specs.Prelude.{◌≡◌, Bool, true, not, ◌||◌, List, map, is_some}
use Rattle.std.specs.List.{list_all}
use Rattle.rv_expression.specs.Nodes.{symbol_of}
use Rattle.rv_unit_laws.specs.Tables.{Tables, definition}
use Rattle.rv_assemble_laws.specs.Symbols as laws
use Rattle.rv_symbols.specs.declared.symbol_use.SymbolUse.{SymbolUse}

abbrev pub use_of : SymbolUse → laws.SymbolUse
use_of u = record { ordinal = u.ordinal; symbol = symbol_of u.symbol }

abbrev pub uses_of : List SymbolUse → List laws.SymbolUse
uses_of us = map use_of us

-- `.` and numeric references have a definition in their file
abbrev pub is_meant_use : Tables → laws.SymbolUse → Bool
is_meant_use t r = not (laws.is_unnamed r.symbol) || is_some (definition t r.ordinal r.symbol)

abbrev pub AreMeant : Tables → List laws.SymbolUse → Type 0
AreMeant t rs = list_all (is_meant_use t) rs ≡ true
