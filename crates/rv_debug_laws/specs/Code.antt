-- The code of each source: its rows in the map, and the addresses between which they lie.

use Rattle.std.specs.Prelude.{ℕ, ◌+◌, ◌==◌, min, max, nat_le, nat_lt, Bool, true, ◌&&◌, List, [], ◌∷◌, map, filter}
use Rattle.rv_map_laws.specs.declared.map.Region.{Region}
use Rattle.rv_map_laws.specs.declared.map.Row.{Row}
use Rattle.rv_debug_laws.specs.declared.line_row.LineRow.{LineRow}
use Rattle.rv_debug_laws.specs.LineTable.{code_end}

-- a row of the source of this number that has instructions in the text
abbrev pub is_code_of : Region → ℕ → Row → Bool
is_code_of text source row =
    row.file == source && nat_lt 0 row.instructions && nat_le text.start row.address
    && nat_le (row.address + row.bytes) text.end

-- the row in a line table; in the unit of its source it is of file 1
abbrev pub line_row : Row → LineRow
line_row row =
    record { address = row.address; bytes = row.bytes; file = 1; line = row.line }

-- the rows of code of a source, in the map's order
abbrev pub code_of : Region → ℕ → List Row → List LineRow
code_of text source rows = map line_row (filter (is_code_of text source) rows)

-- from the lowest address of some code to the highest end; none where there is none
abbrev pub widened : Region → List LineRow → Region
widened r [] = r
widened r (row ∷ rows) =
    widened (record { start = min r.start row.address; end = max r.end (code_end row) }) rows

abbrev pub code_extent : List LineRow → Region
code_extent [] = record { start = 0; end = 0 }
code_extent (row ∷ rows) = widened (record { start = row.address; end = code_end row }) rows

-- the rows stand by their files, which begin with this one
abbrev pub are_by_file : ℕ → List Row → Bool
are_by_file file [] = true
are_by_file file (row ∷ rows) = nat_le file row.file && are_by_file row.file rows
