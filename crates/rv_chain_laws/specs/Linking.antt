-- What a link makes of objects, and of the files that hold them.

use Rattle.std.specs.Prelude.{◌≡◌, ℕ, Bool, List, length, None}
use Rattle.rv_map_laws.specs.Text.{map_text}
use Rattle.rv_image_laws.specs.Linked.{Linked}
use Rattle.rv_image_laws.specs.Executable.{exe_of, linked_image}
use Rattle.rv_image_laws.specs.ImageOf.{ImageOf}
use Rattle.rv_image_laws.specs.FirstFault.{first_fault}
use Rattle.rv_object_laws.specs.Object.{Object}
use Rattle.rv_link_laws.specs.declared.bounds.Ground.{Ground}
use Rattle.rv_link_laws.specs.IsProgramOf.{IsProgramOf}
use Rattle.rv_link_laws.specs.TextStart.{AreWithin}
use Rattle.rv_link_laws.specs.WithMap.{IsProgramWith}
use Rattle.rv_chain_laws.specs.Objects.{AreObjectsFrom, AreObjectsIn}

-- the bytes of the executable of the program of these objects, relaxed or not, and the text of its
-- map
pub record IsBuiltOf (os : List Object) (g : Ground) (relax gc : Bool)
    (file text : List ℕ) : Type 0 where
  pub linked : Linked
  pub links : IsProgramOf os g relax gc linked
  pub written : file ≡ exe_of linked
  pub shown : text ≡ map_text linked.map
  -- a loader takes the executable, as what was linked
  pub accepted : first_fault file ≡ None
  pub loads : ImageOf file (linked_image linked)

-- those of the program of the objects in files, which have no fault
abbrev pub AreLinked : List (List ℕ) → Ground → Bool → Bool → List ℕ → List ℕ → Type 0
AreLinked files g relax gc executable text =
    AreWithin (length files) g
    × ((os : List Object) × AreObjectsIn files os × IsBuiltOf os g relax gc executable text)

-- the bytes of the executable alone: some text shows its map
abbrev pub IsLinkedAs : List (List ℕ) → Ground → Bool → Bool → List ℕ → Type 0
IsLinkedAs files g relax gc executable =
    (text : List ℕ) × AreLinked files g relax gc executable text

-- the program of the objects in files, with the names and the rows of its map or without
abbrev pub IsProgramWithOf : List (List ℕ) → Ground → Bool → Bool → Bool → Linked → Type 0
IsProgramWithOf files g relax gc with_map l =
    AreWithin (length files) g
    × ((os : List Object) × AreObjectsIn files os × IsProgramWith os g relax gc with_map l)

-- the program of the objects of texts
abbrev pub IsProgramOfObjectsFrom : List (List ℕ) → Ground → Bool → Bool → Linked → Type 0
IsProgramOfObjectsFrom texts g relax gc l =
    (os : List Object) × AreObjectsFrom texts os × IsProgramOf os g relax gc l

-- what is written of the program of the objects of texts
abbrev pub AreBuilt : List (List ℕ) → Ground → Bool → Bool → List ℕ → List ℕ → Type 0
AreBuilt texts g relax gc executable text =
    (os : List Object) × AreObjectsFrom texts os × IsBuiltOf os g relax gc executable text
