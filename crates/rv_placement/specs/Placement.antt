-- When sections stand where the layout of objects puts them.

use Rattle.std.specs.Prelude.{◌≡◌, ℕ, ◌-◌, ◌≤◌, ⊤, Bool, List, length, map, Option, Some, None}
use Rattle.std.specs.List.{list_all, slice_get}
use Rattle.std.specs.Global.{Vec}
use Rattle.rv_size_laws.specs.Alignment.{aligned}
use Rattle.rv_map_laws.specs.declared.map.Region.{Region}
use Rattle.rv_object_laws.specs.Object.{Section, Object}
use Rattle.rv_image_laws.specs.Free.{free_until}
use Rattle.rv_link_laws.specs.declared.bounds.Ground.{Ground}
use Rattle.rv_link_laws.specs.Moves.{moves, has_room}
use Rattle.rv_link_laws.specs.Inputs.{Starts, goes_to_text, goes_to_rodata, goes_to_data, goes_to_bss, inputs, Holds, greatest}
use Rattle.rv_link_laws.specs.Layout.{Layout, IsLayout, object_section, IsTooLarge, HasRoom}
use Rattle.rv_relax.specs.Kept.{moves_of}
use Rattle.rv_placement.specs.declared.fault.PlacementFault.{PlacementFault}
use Rattle.rv_placement.specs.declared.fault.PlacementFault.TheVariants.{TooLarge, OutOfMemory}
use Rattle.rv_placement.specs.declared.placement.PlacedSection.{PlacedSection}
use Rattle.rv_placement.specs.declared.placement.Placement.{Placement}

-- what is placed at an index of a file, both from 0
abbrev pub placed_in : Option (Vec PlacedSection) → ℕ → Option PlacedSection
placed_in None index = None
placed_in (Some f) index = slice_get f.items index

abbrev pub placed_at : Placement → ℕ → ℕ → Option PlacedSection
placed_at p file index = placed_in (slice_get p.files.items file) index

abbrev pub start_in : Option PlacedSection → ℕ
start_in None = 0
start_in (Some q) = q.start

-- where each section starts, by its file, from 1, and its index there; 0 where there is none
abbrev pub starts_of : Placement → Starts
starts_of p file index = start_in (placed_at p (file - 1) index)

-- where its sections stand, as plain data
abbrev pub layout_of : Placement → Layout
layout_of p = record {
  starts = starts_of p;
  text = p.text;
  rodata = p.rodata;
  «data» = p.data;
  bss = p.bss;
  gaps = p.gaps.items;
}

pub record IsPlacement (os : List Object) (g : Ground) (p : Placement) : Type 0 where
  -- memory is free up to the ceiling
  pub free : g.ceiling ≤ free_until g.text
  -- a place for each section of each object
  pub each : map (λ f. length f.items) p.files.items ≡ map (λ o. length o.sections) os
  -- with what is kept where it starts
  pub planned : (file index : ℕ) (s : Section) (q : PlacedSection)
      → object_section os file index ≡ Some s → placed_at p file index ≡ Some q
      → moves_of q.plan.now ≡ moves q.start s
  -- and the sections stand where the layout puts them
  pub laid : IsLayout os g (layout_of p)

-- whether each padding that is placed has room for what is kept of it
abbrev pub are_roomy_in : List PlacedSection → Bool
are_roomy_in qs = list_all (λ q. list_all has_room (moves_of q.plan.now)) qs

abbrev pub are_roomy : Placement → Bool
are_roomy p = list_all (λ f. are_roomy_in f.items) p.files.items

-- why sections cannot be placed
abbrev pub IsUnplaced : List Object → Ground → PlacementFault → Type 0
IsUnplaced os g TooLarge = IsTooLarge os g × HasRoom os g.text
IsUnplaced os g OutOfMemory = ⊤

-- sections have a layout, however large it is
abbrev pub HasLayout : List Object → ℕ → Type 0
HasLayout os text_start =
    (starts : Starts) × (text : Region) × (rodata : Region) × (variables : Region) × (bss : Region)
    × Holds starts text text_start (inputs goes_to_text os)
    × Holds starts rodata (aligned 4096 text.end) (inputs goes_to_rodata os)
    × Holds starts variables (aligned 4096 rodata.end) (inputs goes_to_data os)
    × Holds starts bss (aligned (greatest (inputs goes_to_bss os)) variables.end)
    (inputs goes_to_bss os)
