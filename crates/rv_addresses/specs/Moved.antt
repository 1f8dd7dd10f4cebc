-- The symbols of an object of which calls are cut short, as the code has them.

use Rattle.std.specs.Prelude.{List, map}
use Rattle.std.specs.Borrow.{Bor}
use Rattle.rv_object_laws.specs.declared.symbol.Definition.{Definition}
use Rattle.rv_object_types.specs.declared.symbol.Symbol.{Symbol as DeclaredSymbol}
use Rattle.rv_object_laws.specs.Object.{Symbol}
use Rattle.rv_object_types.specs.Parts.{symbol_of}
use Rattle.rv_shorten.specs.declared.object.ShortObject.{ShortObject}
use Rattle.rv_cut_laws.specs.Cutting.{cut_symbol}
use Rattle.rv_shorten.specs.View.{moves_by_section}

-- one of its symbols, as it has moved
abbrev pub moved_in : ShortObject → DeclaredSymbol → Symbol
moved_in o s = cut_symbol (moves_by_section o) (symbol_of s)

-- all of them
abbrev pub short_symbols : ShortObject → List Symbol
short_symbols o = map (moved_in o) o.whole.now.symbols.items

-- a symbol, with its definition as it has moved
abbrev pub with_definition : Bor DeclaredSymbol × Definition → Symbol
with_definition p = record (symbol_of p.0.now) { definition = p.1 }
