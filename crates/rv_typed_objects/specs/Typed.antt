-- Files of objects whose symbols have the types and the sizes that directives of the source say
-- (gABI, "Symbol Table", st_info, st_size; GNU as, ".type", ".size").

use Rattle.std.specs.Prelude.{ℕ, suc, ◌+◌, ◌-◌, ◌*◌, ◌/◌, ◌^◌, min, List, [], ◌∷◌, ◌++◌, length, take, drop, flat_map, Option, Some, None, option_map}
use Rattle.std.specs.List.{slice_get}
use Rattle.rv_elf_laws.specs.declared.symbol.Symbol.{Symbol as SymbolRecord}
use Rattle.rv_elf_laws.specs.Fields.{symbol_size}
use Rattle.rv_elf_laws.specs.Records.{symbol_bytes}
use Rattle.rv_elf_laws.specs.Sections.{section_header_of}
use Rattle.rv_object_laws.specs.declared.row.Row.{Row}
use Rattle.rv_object_laws.specs.declared.symbol.Definition.{Definition}
use Rattle.rv_object_laws.specs.declared.symbol.Definition.TheVariants.{Undefined, Absolute, InSection, Skipped}
use Rattle.rv_object_laws.specs.Object.{Object, Symbol}
use Rattle.rv_object_file_laws.specs.Parts.{is_symbol_table}
use Rattle.rv_debug_laws.specs.declared.mark.NameSaid.{NameSaid}
use Rattle.rv_debug_laws.specs.declared.mark.SaidSize.{SaidSize}
use Rattle.rv_debug_laws.specs.declared.mark.SaidSize.TheVariants.{NoSize, UpTo, Bytes}
use Rattle.rv_debug_laws.specs.Carried.{carried_section}
use Rattle.rv_debug_laws.specs.Labels.{Mark, last_before, said_of, size_to}
use Rattle.rv_debug_laws.specs.Symbols.{type_number}
use Rattle.rv_debug_sections.specs.Records.{symbol_records}

-- ---- sizes in the object

-- where a statement ends in its section
abbrev pub row_end : Row → ℕ
row_end r = min (r.offset + r.bytes) (2 ^ 64 - 1)

-- up to a statement, what stands at an offset of a section ends with the last one of that section in
-- front of it
abbrev pub size_up_to : List Row → (section offset ordinal : ℕ) → ℕ
size_up_to rows section offset ordinal =
    size_to offset (option_map row_end (last_before section ordinal rows))

abbrev pub place_size : List Row → (section offset : ℕ) → SaidSize → ℕ
place_size rows section offset NoSize = 0
place_size rows section offset (UpTo ordinal) = size_up_to rows section offset ordinal
place_size rows section offset (Bytes size) = size

abbrev pub said_bytes : List Row → Definition → SaidSize → ℕ
said_bytes rows (InSection section offset) size = place_size rows section offset size
said_bytes rows Undefined size = 0
said_bytes rows (Absolute n) size = 0
said_bytes rows (Skipped n) size = 0

-- ---- the table

-- a record of a symbol of which this is said
abbrev pub typed_by : List Row → Definition → NameSaid → SymbolRecord → SymbolRecord
typed_by rows definition said r = record r {
  st_info = r.st_info / 16 * 16 + type_number said.kind;
  st_size = said_bytes rows definition said.size;
}

-- by the symbol of the object, if it has one
abbrev pub typed_record : Object → List Mark → SymbolRecord → Option Symbol → SymbolRecord
typed_record o ms r None = r
typed_record o ms r (Some s) = typed_by o.rows s.definition (said_of ms s.name) r

-- of symbols from an index on
abbrev pub typed_records : Object → List Mark → (index : ℕ) → List SymbolRecord → List SymbolRecord
typed_records o ms index [] = []
typed_records o ms index (r ∷ rs) =
    typed_record o ms r (slice_get o.symbols index) ∷ typed_records o ms (suc index) rs

-- ---- the file

-- with the symbols that stand from a place on, all but symbol 0: all else is as it was
abbrev pub typed_at : Object → List Mark → List ℕ → (place : ℕ) → List ℕ
typed_at o ms file place = take place file
    ++ (flat_map symbol_bytes (typed_records o ms 0 (symbol_records file))
    ++ drop (place + symbol_size * length (symbol_records file)) file)

-- where the table has them; none begins behind the file
abbrev pub table_place : List ℕ → (section : ℕ) → ℕ
table_place file i = min (section_header_of file i).sh_offset (length file) + symbol_size

abbrev pub typed_in : Object → List Mark → List ℕ → Option ℕ → List ℕ
typed_in o ms file None = file
typed_in o ms file (Some i) = typed_at o ms file (table_place file i)

-- a file whose symbols have the types and the sizes that directives say of the symbols of the
-- object
abbrev pub typed : Object → List Mark → List ℕ → List ℕ
typed o ms file = typed_in o ms file (carried_section is_symbol_table file)
