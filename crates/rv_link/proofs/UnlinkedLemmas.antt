-- Why a link ends: what each pass says of it.

use Rattle.std.proofs.Common.{◌≡◌, ℕ, List, [], ◌∷◌, length, true, inl, inr, refl, subst, sym}
use Rattle.rv_object_laws.specs.Object.{Relocation, Object}
use Rattle.rv_link_laws.specs.declared.bounds.Ground.{Ground}
use Rattle.rv_link_laws.specs.Inputs.{InputSection, inputs}
use Rattle.rv_link_laws.specs.IsLinkOf.{is_loaded}
use Rattle.rv_link_laws.specs.Layout.{AreRoomy}
use Rattle.rv_link_laws.specs.Untaken.{IsTaken, IsFirst, IsUntaken, AreTaken, AreUntaken, IsFirstUntaken}
use Rattle.rv_link_laws.specs.Refusals.{AreUnnamed, AreUnplaced, ComesToPlaces, IsUnlinked}
use Rattle.rv_placement.specs.declared.fault.PlacementFault.{PlacementFault}
use Rattle.rv_placement.specs.declared.fault.PlacementFault.TheVariants as placements
use Rattle.rv_placement.specs.declared.placement.Placement.{Placement}
use Rattle.rv_placement.specs.Placement.{starts_of, are_roomy, IsPlacement, IsUnplaced, layout_of}
use Rattle.rv_fault.specs.declared.link_fault.LinkFault.{LinkFault}
use Rattle.rv_fault.specs.declared.link_fault.LinkFault.TheVariants.{Overflow, OddTarget, DanglingPcrel, AlignmentShort, Undefined, Duplicate, EntryMissing, ImageTooLarge, BadTextStart, TooManyFiles, OutOfMemory}
use Rattle.rv_placement.specs.Fault.{of_placement}
use Rattle.rv_placement.proofs.RoomsLemmas.{are_rooms}
use Rattle.rv_link.specs.Untaken.{AreUnfilled}
use Rattle.rv_link_laws.specs.TextStart.{AreWithin}

-- why sections cannot be placed
pub unplaced : (os : List Object) (bounds : Ground) (fault : PlacementFault) → IsUnplaced os bounds fault → AreUnplaced os bounds (of_placement fault)
unplaced os bounds placements.TooLarge h = h
unplaced os bounds placements.OutOfMemory h = tt

-- what is told of names, and then of places
pub unnamed : (os : List Object) (bounds : Ground) (fault : LinkFault) → AreWithin (length os) bounds → AreUnnamed os fault → IsUnlinked os bounds fault
unnamed os bounds Overflow within h = absurd h
unnamed os bounds OddTarget within h = absurd h
unnamed os bounds DanglingPcrel within h = absurd h
unnamed os bounds AlignmentShort within h = absurd h
unnamed os bounds (Undefined name) within h = (within, h)
unnamed os bounds (Duplicate name) within h = (within, h)
unnamed os bounds EntryMissing within h = absurd h
unnamed os bounds ImageTooLarge within h = absurd h
unnamed os bounds BadTextStart within h = absurd h
unnamed os bounds TooManyFiles within h = absurd h
unnamed os bounds OutOfMemory within h = tt

pub not_placed : (os : List Object) (bounds : Ground) (fault : LinkFault) → ComesToPlaces os bounds → AreUnplaced os bounds fault → IsUnlinked os bounds fault
not_placed os bounds Overflow so h = absurd h
not_placed os bounds OddTarget so h = absurd h
not_placed os bounds DanglingPcrel so h = absurd h
not_placed os bounds AlignmentShort so h = (so, h)
not_placed os bounds (Undefined name) so h = absurd h
not_placed os bounds (Duplicate name) so h = absurd h
not_placed os bounds EntryMissing so h = absurd h
not_placed os bounds ImageTooLarge so h = (so, h)
not_placed os bounds BadTextStart so h = absurd h
not_placed os bounds TooManyFiles so h = absurd h
not_placed os bounds OutOfMemory so h = tt

-- what nothing can be, is first of no list
none_first : {X : Type 0} (Passes Fails : X → Type 0) → ((x : X) → Fails x → ⊥) → (xs : List X) → IsFirst Passes Fails xs → ⊥
none_first Passes Fails none [] h = h
none_first Passes Fails none (x ∷ xs) (inl h) = none x h
none_first Passes Fails none (x ∷ xs) (inr h) = none_first Passes Fails none xs h.1

module _ (os : List Object) (bounds : Ground) (p : Placement) (so : ComesToPlaces os bounds) (placed : IsPlacement os bounds p) (roomy : are_roomy p ≡ true) where
  rooms : AreRoomy os (starts_of p)
  rooms = (are_rooms os bounds p placed (are_roomy p) refl).0 roomy

  -- no relocation is refused for another reason
  never : {A : Type 0} (fault : LinkFault) → ((i : InputSection) (r : Relocation) → IsUntaken os (layout_of p) i fault r → ⊥) → IsFirstUntaken os (layout_of p) fault (inputs is_loaded os) → A
  never fault none h =
      absurd (none_first (AreTaken os (layout_of p)) (AreUntaken os (layout_of p) fault) (λ i. none_first (IsTaken os (layout_of p) i) (IsUntaken os (layout_of p) i fault) (none i) i.section.relocations) (inputs is_loaded os) h)

  told : (fault : LinkFault) → IsFirstUntaken os (layout_of p) fault (inputs is_loaded os) → IsUnlinked os bounds fault
  told Overflow h = (so, (layout_of p, placed.laid, rooms, h))
  told OddTarget h = (so, (layout_of p, placed.laid, rooms, h))
  told DanglingPcrel h = (so, (layout_of p, placed.laid, rooms, h))
  told AlignmentShort h = never AlignmentShort (λ i r n. n) h
  told (Undefined name) h = never (Undefined name) (λ i r n. n) h
  told (Duplicate name) h = never (Duplicate name) (λ i r n. n) h
  told EntryMissing h = never EntryMissing (λ i r n. n) h
  told ImageTooLarge h = never ImageTooLarge (λ i r n. n) h
  told BadTextStart h = never BadTextStart (λ i r n. n) h
  told TooManyFiles h = never TooManyFiles (λ i r n. n) h
  told OutOfMemory h = tt

  pub unfilled : (fault : LinkFault) → AreUnfilled os p fault → IsUnlinked os bounds fault
  unfilled fault (inl e) = subst (IsUnlinked os bounds) (sym e) tt
  unfilled fault (inr h) = told fault h
