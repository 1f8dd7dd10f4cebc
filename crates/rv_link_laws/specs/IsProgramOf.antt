-- The program of objects: sections are collected, calls are shortened, and what is left is linked
-- (GNU ld, "--gc-sections"; RISC-V ELF psABI, "Linker Relaxation").

use Rattle.std.specs.Prelude.{Bool, List}
use Rattle.rv_image_laws.specs.Linked.{Linked}
use Rattle.rv_map_laws.specs.declared.map.SectionId.{SectionId}
use Rattle.rv_object_laws.specs.Object.{Object}
use Rattle.rv_link_laws.specs.declared.bounds.Ground.{Ground}
use Rattle.rv_link_laws.specs.Collects.{Collects}
use Rattle.rv_link_laws.specs.IsLinkOf.{IsLinkOf}
use Rattle.rv_link_laws.specs.Shortened.{Relaxes}
use Rattle.rv_link_laws.specs.Without.{without}

-- what the linker links of objects: what relaxation leaves of the sections that collection keeps
pub record Leaves (os : List Object) (relax gc : Bool) (drops : List SectionId)
    (left : List Object) : Type 0 where
  pub collected : Collects gc os drops
  pub relaxed : Relaxes relax (without drops os) left

-- the map says what was dropped
pub record IsProgramOf (os : List Object) (g : Ground) (relax gc : Bool) (l : Linked) :
    Type 0 where
  pub left : List Object
  pub leaves : Leaves os relax gc l.map.drops left
  pub linked : IsLinkOf left g l
