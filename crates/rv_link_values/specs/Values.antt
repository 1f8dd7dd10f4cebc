-- What the values of placed objects answer (`rv_link_laws`, specs/Values), and which relocations
-- have none (RISC-V ELF psABI, "PC-Relative Symbol Addresses").

use Rattle.std.specs.Prelude.{◌≡◌, ℕ, ◌+◌, List, Some}
use Rattle.std.specs.List.{slice_get}
use Rattle.rv_object_laws.specs.Object.{Object}
use Rattle.rv_link_laws.specs.declared.bounds.Ground.{Ground}
use Rattle.rv_link_laws.specs.Inputs.{InputSection}
use Rattle.rv_addresses.specs.Resolution.{all}
use Rattle.rv_placement.specs.declared.placement.Placement.{Placement}
use Rattle.rv_placement.specs.Placement.{IsPlacement}
use Rattle.rv_link_values.specs.declared.values.Values.{Values}
use Rattle.rv_link_values.specs.Highs.{found, high_of}

-- the section at an index of a file, both from 0
pub record IsInputAt (os : List Object) (file index : ℕ) (i : InputSection) : Type 0 where
  pub numbered : i.file ≡ file + 1
  pub at : slice_get os file ≡ Some i.object
  pub indexed : i.index ≡ index
  pub there : slice_get i.object.sections index ≡ Some i.section

-- these are the values of objects that are placed so
pub record IsValues (os : List Object) (p : Placement) (v : Values) : Type 0 where
  pub objects : all v.resolution.now ≡ os
  pub placement : v.placement.now ≡ p
  -- the text begins anywhere
  pub bounds : Ground
  pub placed : IsPlacement os bounds p
  -- the high parts are found by where they stand
  pub highs : (file section offset : ℕ) →
      found v.highs file section offset ≡ high_of p os file section offset
