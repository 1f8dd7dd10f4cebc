-- The symbols of a draft.

use Rattle.std.specs.Prelude.{List, flat_map, option_map}
use Rattle.rv_expression.specs.Nodes.{symbol_of}
use Rattle.rv_statement_laws.specs.Statement.{Statement}
use Rattle.rv_unit_laws.specs.Tables.{tables}
use Rattle.rv_unit.specs.Items.{offsets_of}
use Rattle.rv_assemble_laws.specs.LaidStatements.{LaidStatement}
use Rattle.rv_assemble_laws.specs.Symbols.{SymbolUse, use_of as field_use}
use Rattle.rv_draft.specs.declared.field.OpenField.{OpenField}
use Rattle.rv_draft.specs.declared.draft.Draft.{Draft}
use Rattle.rv_symbols.specs.declared.table.SymbolTable.{SymbolTable}
use Rattle.rv_symbols.specs.HasSymbols.{AreLaid, HasSymbols}

-- the symbol that a field names, if there is one
abbrev pub open_field_use : OpenField → List SymbolUse
open_field_use f = field_use f.ordinal (option_map symbol_of f.symbol)

abbrev pub uses_in : Draft → List SymbolUse
uses_in d = flat_map open_field_use d.fields.items

-- the symbols of the object of a draft, with a number for each field
abbrev pub HasTable : List Statement → Draft → SymbolTable → Type 0
HasTable ss d x =
    (laid : List LaidStatement) → AreLaid ss (offsets_of d.items.items) (uses_in d) laid →
    HasSymbols (tables ss) laid (uses_in d) x
