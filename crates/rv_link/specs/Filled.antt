-- What regions hold, section by section (gABI, "Relocation").

use Rattle.std.specs.Prelude.{◌≡◌, ℕ, ◌+◌, ◌<◌, ◌≤◌, IsTrue, List, map, Some}
use Rattle.std.specs.List.{AllByRecursion, list_all}
use Rattle.rv_isa.specs.Kinds.{width_of}
use Rattle.rv_object_laws.specs.Object.{Relocation, Section, Object}
use Rattle.rv_link_laws.specs.Moves.{Move, moves, new_offset, has_room}
use Rattle.rv_link_laws.specs.Inputs.{InputSection}
use Rattle.rv_link_laws.specs.Names.{object_at}
use Rattle.rv_link_laws.specs.Values.{linked_bytes}
use Rattle.rv_link_laws.specs.Layout.{object_section, outer_in}
use Rattle.rv_link_laws.specs.Untaken.{IsTaken}
use Rattle.rv_shorten.specs.Sections.{short_section_of}
use Rattle.rv_shorten.specs.View.{short_object_of}
use Rattle.rv_relax.specs.Kept.{moves_of}
use Rattle.rv_placement.specs.declared.placement.Placement.{Placement}
use Rattle.rv_placement.specs.Placement.{starts_of, layout_of}
use Rattle.rv_link.specs.declared.fixed.PlacedInput.{PlacedInput}
use Rattle.rv_link.specs.declared.fixed.Fixed.{Fixed}

abbrev pub objects_of : Fixed → List Object
objects_of f = map short_object_of f.objects.now

-- a section at an index of a file, both from 0
abbrev pub input_at : List Object → ℕ → ℕ → Section → InputSection
input_at os file index s =
    record { file = file + 1; object = object_at os (file + 1); index = index; section = s }

abbrev pub input_of : Fixed → PlacedInput → InputSection
input_of f x = input_at (objects_of f) x.file.0 x.index.0 (short_section_of x.section.now)

-- the section is one of the objects, and what is placed for it is where it starts, with room for
-- its paddings
pub record IsPlacedInput (os : List Object) (p : Placement) (x : PlacedInput) : Type 0 where
  pub stands : object_section os x.file.0 x.index.0 ≡ Some (short_section_of x.section.now)
  pub start : starts_of p (x.file.0 + 1) x.index.0 ≡ x.placed.now.start
  pub planned : moves_of x.placed.now.plan.now
      ≡ moves x.placed.now.start (short_section_of x.section.now)
  pub room : IsTrue (list_all has_room (moves_of x.placed.now.plan.now))

abbrev pub IsInputOf : Fixed → PlacedInput → Type 0
IsInputOf f x = IsPlacedInput (objects_of f) f.placement.now x

-- a relocation's field lies in so many bytes that are kept
abbrev pub IsInside : List Move → ℕ → Relocation → Type 0
IsInside ms size r = 0 < width_of r.kind → new_offset ms r.place + width_of r.kind ≤ size

-- the bytes of a section in the program
abbrev pub linked_in : List Object → Placement → InputSection → List ℕ
linked_in os p i = linked_bytes (outer_in os (layout_of p)) (starts_of p) os i

abbrev pub input_bytes : Fixed → PlacedInput → List ℕ
input_bytes f x = linked_in (objects_of f) f.placement.now (input_of f x)

-- the fields of a section take their values
abbrev pub AreTakenOf : Fixed → PlacedInput → Type 0
AreTakenOf f x =
    AllByRecursion (IsTaken (objects_of f) (layout_of f.placement.now) (input_of f x))
    (short_section_of x.section.now).relocations
