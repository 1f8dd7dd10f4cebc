-- The high parts of distances, by where they stand in what is kept of sections (RISC-V ELF psABI,
-- "PC-Relative Symbol Addresses").

use Rattle.std.specs.Prelude.{◌≡◌, ℕ, ◌==◌, ◌&&◌, List, Option, Some, None, option_map, if◌then◌else◌}
use Rattle.std.specs.List.{find}
use Rattle.std.specs.BTreeMap.{get}
use Rattle.std.specs.Ordering.{nat_cmp, ordering_then}
use Rattle.std.specs.declared.cmp.Ordering.{Ordering}
use Rattle.rv_object_laws.specs.Object.{Relocation, Section, Object}
use Rattle.rv_object_types.specs.declared.place.Place.{Place}
use Rattle.rv_object_types.specs.Parts.{relocation_of}
use Rattle.rv_link_laws.specs.Moves.{new_offset}
use Rattle.rv_link_laws.specs.Values.{is_high}
use Rattle.rv_link_laws.specs.Layout.{object_section}
use Rattle.rv_relax.specs.Kept.{moves_of}
use Rattle.rv_placement.specs.declared.placement.PlacedSection.{PlacedSection}
use Rattle.rv_placement.specs.declared.placement.Placement.{Placement}
use Rattle.rv_placement.specs.Placement.{placed_at}
use Rattle.rv_link_values.specs.declared.high.Highs.{Highs}

-- the first of the two that is there
abbrev pub else_found : Option Relocation → Option Relocation → Option Relocation
else_found None other = other
else_found (Some r) other = Some r

-- by file, section and offset
abbrev pub place_cmp : Place → Place → Ordering
place_cmp p q =
    ordering_then (nat_cmp p.file.0 q.file.0)
    (ordering_then (nat_cmp p.section.0 q.section.0) (nat_cmp p.offset q.offset))

-- the place of an offset of a section, by their numbers from 0
abbrev pub place_at : ℕ → ℕ → ℕ → Place
place_at file section offset =
    record { file = record { 0 = file }; section = record { 0 = section }; offset = offset }

-- what the code has there
abbrev pub found : Highs → ℕ → ℕ → ℕ → Option Relocation
found h file section offset =
    option_map relocation_of
    (get place_cmp h.by_place (place_at file section offset))

-- the first PCREL_HI20 that has moved to an offset
abbrev pub high_to : (ℕ → ℕ) → ℕ → List Relocation → Option Relocation
high_to new offset rs = find (λ r. is_high r.kind && (new r.place == offset)) rs

-- of a section by its place, if it has one
abbrev pub high_in : Option PlacedSection → Option Section → ℕ → Option Relocation
high_in None s offset = None
high_in (Some q) None offset = None
high_in (Some q) (Some s) offset = high_to (new_offset (moves_of q.plan.now)) offset s.relocations

-- of placed objects, both counted from 0
abbrev pub high_of : Placement → List Object → ℕ → ℕ → ℕ → Option Relocation
high_of p os file section offset =
    high_in (placed_at p file section) (object_section os file section) offset

-- ---- what is added

-- the new index has these at the offsets of a section, and else what the old one has
abbrev pub HasBefore : Highs → Highs → ℕ → ℕ → (ℕ → Option Relocation) → Type 0
HasBefore old new file section highs =
    (f s offset : ℕ) →
    found new f s offset
    ≡ (if (file == f) && (section == s)
    then else_found (highs offset) (found old f s offset)
    else found old f s offset)

-- the same for all sections of a file
abbrev pub HasFileBefore : Highs → Highs → ℕ → (ℕ → ℕ → Option Relocation) → Type 0
HasFileBefore old new file highs =
    (f s offset : ℕ) →
    found new f s offset
    ≡ (if file == f
    then else_found (highs s offset) (found old f s offset)
    else found old f s offset)
