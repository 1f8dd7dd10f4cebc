-- Rows of an object, less what is cut of its calls.

use Rattle.std.specs.Prelude.{List, map}
use Rattle.rv_object_laws.specs.declared.row.Row.{Row}
use Rattle.rv_shorten.specs.declared.object.ShortObject.{ShortObject}
use Rattle.rv_cut_laws.specs.Cutting.{cut_row_of}
use Rattle.rv_shorten.specs.View.{moves_by_section}

-- where a row stands afterwards
abbrev pub moved_row : ShortObject → Row → Row
moved_row o = cut_row_of (moves_by_section o)

abbrev pub moved_rows : ShortObject → List Row → List Row
moved_rows o rows = map (moved_row o) rows
