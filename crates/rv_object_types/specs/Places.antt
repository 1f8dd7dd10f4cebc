-- What a place of the code stands for.

use Rattle.std.specs.Prelude.{◌+◌}
use Rattle.rv_link_laws.specs.Names.{Place}
use Rattle.rv_object_types.specs.declared.place.Place.{Place as DeclaredPlace}

-- the code counts files from 0
abbrev pub place_of : DeclaredPlace → Place
place_of p = record { file = p.file.0 + 1; section = p.section.0; offset = p.offset }
