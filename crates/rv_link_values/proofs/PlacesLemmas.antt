-- Where sections stand, and what their offsets become.

use Rattle.std.proofs.Common.{◌≡◌, ◌+◌, ◌-◌, ℕ, Some, List, sym, ap, ◌∙◌, arith}
use Rattle.rv_object_laws.specs.Object.{Object}
use Rattle.rv_link_laws.specs.declared.bounds.Ground.{Ground}
use Rattle.rv_link_laws.specs.Moves.{new_offset}
use Rattle.rv_link_laws.specs.Inputs.{InputSection}
use Rattle.rv_link_laws.specs.Values.{moved}
use Rattle.rv_link_laws.specs.Layout.{section_in, object_section}
use Rattle.rv_relax.specs.Kept.{moves_of}
use Rattle.rv_placement.specs.declared.placement.PlacedSection.{PlacedSection}
use Rattle.rv_placement.specs.declared.placement.Placement.{Placement}
use Rattle.rv_placement.specs.Placement.{starts_of, start_in, placed_at, IsPlacement}
use Rattle.rv_link_values.specs.Values.{IsInputAt}

-- ---- what offsets become

pub section_of_input : (os : List Object) (file index : ℕ) (i : InputSection) → IsInputAt os file index i → object_section os file index ≡ Some i.section
section_of_input os file index i at = ap (λ o. section_in o index) at.at ∙ at.there

pub start_of_input : (os : List Object) (p : Placement) (file index : ℕ) (i : InputSection) → IsInputAt os file index i → (q : PlacedSection) → placed_at p file index ≡ Some q
    → starts_of p i.file i.index ≡ q.start
start_of_input os p file index i at q there =
    let same : i.file - 1 ≡ file = omega (arith, at.numbered) in
    ap (λ n. start_in (placed_at p n i.index)) same ∙ ap (λ k. start_in (placed_at p file k)) at.indexed ∙ ap start_in there

pub moved_is : (os : List Object) (bounds : Ground) (p : Placement) → IsPlacement os bounds p → (file index : ℕ) (i : InputSection) → IsInputAt os file index i
    → (q : PlacedSection) → placed_at p file index ≡ Some q → (offset : ℕ) → moved (starts_of p i.file i.index) i.section offset ≡ q.start + new_offset (moves_of q.plan.now) offset
moved_is os bounds p is file index i at q there offset =
    ap (λ a. moved a i.section offset) (start_of_input os p file index i at q there)
    ∙ ap (λ ms. q.start + new_offset ms offset) (sym (is.planned file index i.section q (section_of_input os file index i at) there))
