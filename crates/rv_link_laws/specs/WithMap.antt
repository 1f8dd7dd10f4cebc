-- Programs with the details of their maps or without: the global names and the rows, which people
-- read and executables do not have.

use Rattle.std.specs.Prelude.{◌≡◌, Bool, false, List, [], if◌then◌else◌}
use Rattle.rv_image_laws.specs.Linked.{Linked}
use Rattle.rv_object_laws.specs.Object.{Object}
use Rattle.rv_link_laws.specs.declared.bounds.Ground.{Ground}
use Rattle.rv_link_laws.specs.IsProgramOf.{IsProgramOf}

abbrev pub listed_where : {A : Type 0} → Bool → List A → List A
listed_where with_map all = if with_map then all else []

-- with the names and the rows of its map, or without
abbrev pub map_where : Bool → Linked → Linked
map_where with_map l =
    record l {
      map = record l.map {
        globals = listed_where with_map l.map.globals;
        rows = listed_where with_map l.map.rows;
      };
    }

-- the program of objects, relaxed or not, collected or not, with the details of its map or without
pub record IsProgramWith (os : List Object) (g : Ground) (relax gc with_map : Bool)
    (l : Linked) : Type 0 where
  pub whole : Linked
  pub program : IsProgramOf os g relax gc whole
  pub shown : l ≡ map_where with_map whole

-- without them: what it has besides is the whole program's
abbrev pub IsProgramWithoutMap : List Object → Ground → Bool → Bool → Linked → Type 0
IsProgramWithoutMap os g relax gc l = IsProgramWith os g relax gc false l
