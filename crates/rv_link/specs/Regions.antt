-- How far the regions of a program are filled.

use Rattle.std.specs.Prelude.{◌≡◌, ℕ, suc, ◌+◌, Bool, true, List, ◌++◌, drop, length, None}
use Rattle.std.specs.List.{AllByRecursion}
use Rattle.rv_map_laws.specs.Globals.{AreDistinct}
use Rattle.rv_map_laws.specs.declared.map.Region.{Region}
use Rattle.rv_object_laws.specs.Object.{Section, Object}
use Rattle.rv_link_laws.specs.declared.bounds.Ground.{Ground}
use Rattle.rv_link_laws.specs.Inputs.{Starts, InputSection, goes_to_text, goes_to_rodata, goes_to_data, inputs_from, inputs_of, inputs, Stand, sections_end, contents}
use Rattle.rv_link_laws.specs.Untaken.{AreTaken, IsFirstUntaken}
use Rattle.rv_map_laws.specs.Map.{Map}
use Rattle.rv_link_laws.specs.Names.{object_at, outer_address, globals_of, global_names, shown_linker_symbols}
use Rattle.rv_addresses.specs.Resolved.{AreResolved}
use Rattle.rv_link_laws.specs.Undefined.{first_undefined}
use Rattle.rv_link_laws.specs.IsLinkOf.{is_loaded}
use Rattle.rv_placement.specs.declared.placement.Placement.{Placement}
use Rattle.rv_placement.specs.Placement.{starts_of, are_roomy, IsPlacement, layout_of}
use Rattle.rv_link_values.specs.Values.{IsValues}
use Rattle.rv_link.specs.declared.fixed.Fixed.{Fixed}
use Rattle.rv_link.specs.declared.regions.Regions.{Regions}
use Rattle.rv_fault.specs.declared.link_fault.LinkFault.{LinkFault}
use Rattle.rv_link.specs.Filled.{objects_of, linked_in}

-- where the sections of objects stand, with room for their paddings, and what their relocations are
-- worth
pub record IsFixed (f : Fixed) : Type 0 where
  pub first : Ground
  pub placed : IsPlacement (objects_of f) first f.placement.now
  pub roomy : are_roomy f.placement.now ≡ true
  pub valued : IsValues (objects_of f) f.placement.now f.values.now

-- the sections of a file, from 0, from an index on, and those of the files after it
abbrev pub left_from : List Object → ℕ → ℕ → (Section → Bool) → List InputSection
left_from os file index goes =
    let o = object_at os (file + 1) in
    inputs_from goes (file + 1) o index (drop index o.sections)
    ++ inputs_of goes (suc (file + 1)) (drop (file + 1) os)

-- those of the files from one on
abbrev pub left_files : List Object → ℕ → (Section → Bool) → List InputSection
left_files os file goes = inputs_of goes (file + 1) (drop file os)

-- a region has the bytes of all its sections but for those that are left, which stand from its end
-- on
pub record IsGrown (bytes : InputSection → List ℕ) (starts : Starts) (region : Region)
    (whole left : List InputSection) (out : List ℕ) : Type 0 where
  pub stand : Stand starts (region.start + length out) left
  pub ends : sections_end starts (region.start + length out) left ≡ region.end
  pub holds : out ++ contents bytes starts (region.start + length out) left
      ≡ contents bytes starts region.start whole

-- the regions of placed objects, but for the sections that are left of each kind
pub record AreGrown (os : List Object) (p : Placement)
    (left : (Section → Bool) → List InputSection) (r : Regions) : Type 0 where
  pub text : IsGrown (linked_in os p) (starts_of p) p.text (inputs goes_to_text os)
      (left goes_to_text) r.text.items
  pub rodata : IsGrown (linked_in os p) (starts_of p) p.rodata (inputs goes_to_rodata os)
      (left goes_to_rodata) r.rodata.items
  pub «data» : IsGrown (linked_in os p) (starts_of p) p.data (inputs goes_to_data os)
      (left goes_to_data) r.data.items
  pub taken : AllByRecursion (AreTaken os (layout_of p)) (left is_loaded)
      → AllByRecursion (AreTaken os (layout_of p)) (inputs is_loaded os)
  -- so the first that fails of those that are left is the first of all
  pub first : (fault : LinkFault) → IsFirstUntaken os (layout_of p) fault (left is_loaded)
      → IsFirstUntaken os (layout_of p) fault (inputs is_loaded os)

-- ---- passes

-- names that have one definition for all files at most, and a meaning wherever they are referred to
pub record HasLinkNames (os : List Object) : Type 0 where
  pub once : AreDistinct (global_names os)
  pub meant : first_undefined os ≡ None
  pub resolved : (starts : Starts) (m : Map)
      → m.globals ≡ globals_of starts os ++ shown_linker_symbols os m
      → AreResolved starts os (outer_address os m.globals)

-- objects whose sections stand on some ground
pub record IsPlaced (os : List Object) (p : Placement) : Type 0 where
  pub first : Ground
  pub placed : IsPlacement os first p

-- and have room for their paddings
pub record IsReady (os : List Object) (p : Placement) : Type 0 where
  pub first : Ground
  pub placed : IsPlacement os first p
  pub roomy : are_roomy p ≡ true
