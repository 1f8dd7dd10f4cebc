-- The fields of a section of code, wherever they are kept.

use Rattle.std.specs.Prelude.{ℕ, List, ◌++◌}
use Rattle.rv_object_reader.specs.declared.places.Places.{Places}

abbrev pub fields_of : Places → List (ℕ × ℕ)
fields_of places = places.recent.spans.items ++ places.fields.by_start.entries
