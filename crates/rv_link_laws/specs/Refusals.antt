-- Why objects cannot be linked, in the order in which that is tested (this project's linker; GNU
-- ld's diagnostics are of the same kinds).

use Rattle.std.specs.Prelude.{◌≡◌, ◌⊎◌, ⊤, ℕ, ◌%◌, ◌<◌, ◌≤◌, Bool, true, false, List, length, Some, None, []}
use Rattle.rv_map_laws.specs.Globals.{AreDistinct}
use Rattle.rv_map_laws.specs.declared.map.SectionId.{SectionId}
use Rattle.rv_object_laws.specs.Object.{Object}
use Rattle.rv_link_laws.specs.Inputs.{Starts, goes_to_text, inputs, Stand}
use Rattle.rv_link_laws.specs.Names.{global_names, entry_of}
use Rattle.rv_link_laws.specs.IsLinkOf.{most_files, is_loaded}
use Rattle.rv_link_laws.specs.IsProgramOf.{Leaves}
use Rattle.rv_link_laws.specs.Layout.{Layout, IsLayout, AreRoomy, IsTooLarge, HasRoom}
use Rattle.rv_link_laws.specs.Entry.{has_entry}
use Rattle.rv_link_laws.specs.Exports.{first_duplicate}
use Rattle.rv_link_laws.specs.Undefined.{first_undefined}
use Rattle.rv_fault.specs.declared.link_fault.LinkFault.{LinkFault}
use Rattle.rv_fault.specs.declared.link_fault.LinkFault.TheVariants.{Overflow, OddTarget, DanglingPcrel, AlignmentShort, Undefined, Duplicate, EntryMissing, ImageTooLarge, BadTextStart, TooManyFiles, OutOfMemory}
use Rattle.rv_link_laws.specs.declared.bounds.Ground.{Ground}
use Rattle.rv_link_laws.specs.Ground.{IsGround}
use Rattle.rv_link_laws.specs.TextStart.{AreWithin}
use Rattle.rv_link_laws.specs.Untaken.{IsFirstUntaken}
use Rattle.rv_fault.specs.LinkFault.{link_fault_number}

-- ---- limits

-- why others cannot: the count of files comes first
abbrev pub ArePast : ℕ → Ground → LinkFault → Type 0
ArePast files g TooManyFiles = most_files < files
ArePast files g BadTextStart = (files ≤ most_files) × (IsGround g → ⊥)
ArePast files g _ = ⊥

-- ---- names

-- a name that has two global definitions
abbrev pub AreDoubled : List Object → LinkFault → Type 0
AreDoubled os (Duplicate name) = first_duplicate os ≡ Some name.items
AreDoubled os OutOfMemory = ⊤
AreDoubled os _ = ⊥

-- and then one that has none
abbrev pub AreUnnamed : List Object → LinkFault → Type 0
AreUnnamed os (Duplicate name) = first_duplicate os ≡ Some name.items
AreUnnamed os (Undefined name) =
    AreDistinct (global_names os) × (first_undefined os ≡ Some name.items)
AreUnnamed os OutOfMemory = ⊤
AreUnnamed os _ = ⊥

abbrev pub AreNamed : List Object → Type 0
AreNamed os = AreDistinct (global_names os) × (first_undefined os ≡ None)

-- ---- places

-- where the text's sections stand, one has a padding without room
abbrev pub LacksRoom : List Object → ℕ → Type 0
LacksRoom os start =
    (starts : Starts) × Stand starts start (inputs goes_to_text os) × (AreRoomy os starts → ⊥)

-- paddings come before what is too large, where each has room
abbrev pub AreUnplaced : List Object → Ground → LinkFault → Type 0
AreUnplaced os g AlignmentShort = LacksRoom os g.text
AreUnplaced os g ImageTooLarge = IsTooLarge os g × HasRoom os g.text
AreUnplaced os g OutOfMemory = ⊤
AreUnplaced os g _ = ⊥

-- where sections stand, the entry has no even address
abbrev pub IsOddEntry : List Object → Layout → Type 0
IsOddEntry os l = (a : ℕ) → entry_of l.starts os ≡ Some a → a % 2 ≡ 0 → ⊥

-- `_start` means no even place of a section of text
abbrev pub LacksEntry : List Object → Ground → Type 0
LacksEntry os g =
    (has_entry os ≡ false) ⊎ ((l : Layout) × IsLayout os g l × IsOddEntry os l)

-- ---- the whole

-- what a link has come to when it looks at the entry, and when it looks at places
abbrev pub ComesToEntry : List Object → Ground → Type 0
ComesToEntry os g = AreWithin (length os) g × AreNamed os

abbrev pub ComesToPlaces : List Object → Ground → Type 0
ComesToPlaces os g = ComesToEntry os g × (has_entry os ≡ true)

-- at last a relocation that cannot be applied, the first by file, section and relocation
abbrev pub IsUnapplied : List Object → Ground → LinkFault → Type 0
IsUnapplied os g fault =
    ComesToPlaces os g
    × ((l : Layout) × IsLayout os g l × AreRoomy os l.starts
    × IsFirstUntaken os l fault (inputs is_loaded os))

abbrev pub IsUnlinked : List Object → Ground → LinkFault → Type 0
IsUnlinked os g TooManyFiles = ArePast (length os) g TooManyFiles
IsUnlinked os g BadTextStart = ArePast (length os) g BadTextStart
IsUnlinked os g (Duplicate name) =
    AreWithin (length os) g × AreUnnamed os (Duplicate name)
IsUnlinked os g (Undefined name) =
    AreWithin (length os) g × AreUnnamed os (Undefined name)
IsUnlinked os g EntryMissing = ComesToEntry os g × LacksEntry os g
IsUnlinked os g AlignmentShort =
    ComesToPlaces os g × AreUnplaced os g AlignmentShort
IsUnlinked os g ImageTooLarge =
    ComesToPlaces os g × AreUnplaced os g ImageTooLarge
IsUnlinked os g Overflow = IsUnapplied os g Overflow
IsUnlinked os g OddTarget = IsUnapplied os g OddTarget
IsUnlinked os g DanglingPcrel = IsUnapplied os g DanglingPcrel
IsUnlinked os g OutOfMemory = ⊤

-- objects have no program, as what collection and relaxation leave of them cannot be linked;
-- where no run can begin, collection leaves no reference, and so the missing entry comes first
pub record HasNoProgram (os : List Object) (g : Ground) (relax gc : Bool) (fault : LinkFault) :
    Type 0 where
  pub drops : List SectionId
  pub left : List Object
  pub leaves : Leaves os relax gc drops left
  pub unlinked : IsUnlinked left g fault

-- ---- one fault

-- the name that a fault tells
abbrev pub name_in : LinkFault → List ℕ
name_in (Undefined name) = name.items
name_in (Duplicate name) = name.items
name_in _ = []

-- two faults are the same: they have one number and tell one name
abbrev pub IsSameFault : LinkFault → LinkFault → Type 0
IsSameFault f g = (link_fault_number f ≡ link_fault_number g) × (name_in f ≡ name_in g)
