-- Why files are not linked, by their bytes and the ground of the program: memory runs
-- out, or a fault names its cause.

use Rattle.std.specs.Prelude.{◌≡◌, ℕ, ◌+◌, Bool, ⊤, ◌⊎◌, List, ◌∷◌, ◌++◌, length, Some, None}
use Rattle.std.specs.List.{AllByRecursion}
use Rattle.rv_fault.specs.declared.file_fault.FileFault.{FileFault}
use Rattle.rv_object_laws.specs.Object.{Object}
use Rattle.rv_object_file_laws.specs.FirstFault.{first_fault}
use Rattle.rv_fault.specs.declared.link_fault.LinkFault.{LinkFault}
use Rattle.rv_link_laws.specs.declared.bounds.Ground.{Ground}
use Rattle.rv_link_laws.specs.TextStart.{AreWithin}
use Rattle.rv_link_laws.specs.Refusals.{ArePast, HasNoProgram}
use Rattle.rv_fault.specs.declared.fault.Fault.{Fault}
use Rattle.rv_fault.specs.declared.fault.Fault.TheVariants.{Source, File, Link, Memory}
use Rattle.rv_fault.specs.Fault.{IsNamed}
use Rattle.rv_chain_laws.specs.Objects.{AreObjectsIn}

-- a file of this number is refused, by its first fault; memory may run out
abbrev pub IsUnreadAt : ℕ → List ℕ → Fault → Type 0
IsUnreadAt place file (Source number fault) = ⊥
IsUnreadAt place file (File number fault) =
    IsNamed (File number fault) × (number ≡ place) × (first_fault file ≡ Some fault)
IsUnreadAt place file (Link fault) = ⊥
IsUnreadAt place file Memory = ⊤

-- the first file with a fault
pub record IsFirstUnread (files : List (List ℕ)) (number : ℕ) (fault : FileFault) : Type 0 where
  pub before : List (List ℕ)
  pub file : List ℕ
  pub after : List (List ℕ)
  pub whole : files ≡ before ++ file ∷ after
  pub number_is : number ≡ length before + 1
  pub sound : AllByRecursion (λ other. first_fault other ≡ None) before
  pub refused : first_fault file ≡ Some fault

abbrev pub AreUnread : List (List ℕ) → Fault → Type 0
AreUnread files (Source number fault) = ⊥
AreUnread files (File number fault) =
    IsNamed (File number fault) × IsFirstUnread files number fault
AreUnread files (Link fault) = ⊥
AreUnread files Memory = ⊤

-- no file has a fault, and their objects have no program
abbrev pub AreReadUnlinked : List (List ℕ) → Ground → Bool → Bool → LinkFault → Type 0
AreReadUnlinked files bounds relax gc fault =
    (os : List Object) × AreObjectsIn files os × HasNoProgram os bounds relax gc fault

-- first the count of the files, then the ground, then the files, and then the link
abbrev pub AreUnlinkable : List (List ℕ) → Ground → Bool → Bool → Fault → Type 0
AreUnlinkable files bounds relax gc (Source number fault) = ⊥
AreUnlinkable files bounds relax gc (File number fault) =
    IsNamed (File number fault)
    × AreWithin (length files) bounds × IsFirstUnread files number fault
AreUnlinkable files bounds relax gc (Link fault) =
    IsNamed (Link fault)
    × (ArePast (length files) bounds fault ⊎ AreReadUnlinked files bounds relax gc fault)
AreUnlinkable files bounds relax gc Memory = ⊤
