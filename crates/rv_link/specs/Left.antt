-- The link of what relaxation leaves of objects.

use Rattle.std.specs.Prelude.{◌≡◌, ℕ, Bool, List}
use Rattle.rv_image_laws.specs.Linked.{Linked}
use Rattle.rv_map_laws.specs.declared.map.SectionId.{SectionId}
use Rattle.rv_object_laws.specs.Object.{Object}
use Rattle.rv_link_laws.specs.declared.bounds.Ground.{Ground}
use Rattle.rv_link_laws.specs.IsLinkOf.{IsLinkOf}
use Rattle.rv_link_laws.specs.Shortened.{Relaxes}
use Rattle.rv_link_laws.specs.Refusals.{IsUnlinked}
use Rattle.rv_fault.specs.declared.link_fault.LinkFault.{LinkFault}
use Rattle.rv_link_laws.specs.WithMap.{map_where}

-- objects are linked, to a map that says that these sections were dropped before, with its details
-- or without
pub record IsLinkWith (os : List Object) (bounds : Ground) (drops : List SectionId)
    (with_map : Bool) (l : Linked) : Type 0 where
  pub whole : Linked
  pub linked : IsLinkOf os bounds whole
  pub dropped : whole.map.drops ≡ drops
  pub shown : l ≡ map_where with_map whole

pub record IsLinkOfLeft (os : List Object) (bounds : Ground) (relax : Bool) (drops : List SectionId)
    (with_map : Bool) (l : Linked) : Type 0 where
  pub left : List Object
  pub relaxed : Relaxes relax os left
  pub linked : IsLinkWith left bounds drops with_map l

-- it cannot be
pub record HasNoLink (os : List Object) (bounds : Ground) (relax : Bool) (fault : LinkFault) :
    Type 0 where
  pub left : List Object
  pub relaxed : Relaxes relax os left
  pub unlinked : IsUnlinked left bounds fault
