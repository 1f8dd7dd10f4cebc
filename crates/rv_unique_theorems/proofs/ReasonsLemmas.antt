-- Objects are refused for one reason: the first test of a link that they fail.

use Rattle.std.proofs.Common.{◌≡◌, ℕ, ◌<◌, ◌≤◌, Bool, true, false, refl, sym, ◌∙◌, arith, Option, Some, None, List, [], length, inl, inr}
use Rattle.std.specs.Prelude.{◌⊎◌}
use Rattle.rv_map_laws.specs.Globals.{AreDistinct}
use Rattle.rv_object_laws.specs.Object.{Object}
use Rattle.rv_link_laws.specs.declared.bounds.Ground.{Ground}
use Rattle.rv_link_laws.specs.Inputs.{inputs}
use Rattle.rv_link_laws.specs.Names.{global_names}
use Rattle.rv_link_laws.specs.IsLinkOf.{most_files, is_loaded}
use Rattle.rv_link_laws.specs.Layout.{Layout, IsLayout, memory_of, IsTooLarge, HasRoom}
use Rattle.rv_link_laws.specs.Untaken.{IsFirstUntaken}
use Rattle.rv_link_laws.specs.Refusals.{LacksRoom, LacksEntry, ComesToEntry, ComesToPlaces, IsUnapplied, IsUnlinked, name_in, IsSameFault}
use Rattle.rv_isa_laws.specs.Platform.{memory_limit}
use Rattle.rv_link_laws.specs.Entry.{has_entry}
use Rattle.rv_link_laws.specs.Exports.{first_duplicate}
use Rattle.rv_link_laws.specs.Undefined.{first_undefined}
use Rattle.rv_fault.specs.declared.link_fault.LinkFault.{LinkFault}
use Rattle.rv_fault.specs.declared.link_fault.LinkFault.TheVariants.{Overflow, OddTarget, DanglingPcrel, AlignmentShort, Undefined, Duplicate, EntryMissing, ImageTooLarge, BadTextStart, TooManyFiles, OutOfMemory}
use Rattle.rv_fault.specs.LinkFault.{link_fault_number}
use Rattle.rv_link_laws.specs.Ground.{IsGround}
use Rattle.rv_link_laws.specs.TextStart.{AreWithin}
use Rattle.rv_unique_theorems.specs.Asked.{BeginsEven}
use Rattle.rv_unique_theorems.proofs.DistinctLemmas.{no_duplicate}
use Rattle.rv_unique_theorems.proofs.EnteredLemmas.{entry_there}
use Rattle.rv_unique_theorems.proofs.RefusedLemmas.{none_some}
use Rattle.rv_unique_theorems.proofs.UntakenLemmas.{roomy_same, first_once}

-- ---- tests one after another

-- a test fails with these faults, or passes, and later tests have others
abbrev Stage : (Fails Passes : Type 0) → (Here Later : LinkFault → Type 0) → LinkFault → Type 0
Stage Fails Passes Here Later f = (Fails × Here f) ⊎ (Passes × Later f)

abbrev AreOnce : (LinkFault → Type 0) → Type 0
AreOnce Told = (f g : LinkFault) → Told f → Told g → IsSameFault f g

at_stage : (Fails Passes : Type 0) (Here Later : LinkFault → Type 0) → (Fails → Passes → ⊥) → AreOnce Here → AreOnce Later → AreOnce (Stage Fails Passes Here Later)
at_stage Fails Passes Here Later apart here later f g (inl h) (inl k) = here f g h.1 k.1
at_stage Fails Passes Here Later apart here later f g (inl h) (inr k) = absurd (apart h.0 k.0)
at_stage Fails Passes Here Later apart here later f g (inr h) (inl k) = absurd (apart k.0 h.0)
at_stage Fails Passes Here Later apart here later f g (inr h) (inr k) = later f g h.1 k.1

-- a fault of this number that tells this name
abbrev Tells : ℕ → Option (List ℕ) → LinkFault → Type 0
Tells number name f = (link_fault_number f ≡ Some number) × (name ≡ Some (name_in f))

tells_once : (number : ℕ) (name : Option (List ℕ)) → AreOnce (Tells number name)
tells_once number name f g (a, e) (b, k) =
    let both : ◌≡◌ {A = Option (List ℕ)} (Some (name_in f)) (Some (name_in g)) = sym e ∙ k in
    (a ∙ sym b, cc)

module _ (os : List Object) (bounds : Ground) where
  -- ---- the tests of a link

  abbrev IsPlaced : Type 0
  IsPlaced = (p : Layout) × IsLayout os bounds p

  abbrev Applies : LinkFault → Type 0
  Applies f = (first_undefined os ≡ None) × ((p : Layout) × IsLayout os bounds p × IsFirstUntaken os p f (inputs is_loaded os))

  abbrev Fits : LinkFault → Type 0
  Fits = Stage (IsTooLarge os bounds) IsPlaced (Tells 8 (Some [])) Applies

  abbrev Pads : LinkFault → Type 0
  Pads = Stage (LacksRoom os bounds.text) (HasRoom os bounds.text) (Tells 4 (Some [])) Fits

  abbrev Enters : LinkFault → Type 0
  Enters = Stage (has_entry os ≡ false) (has_entry os ≡ true) (Tells 7 (Some [])) Pads

  abbrev Refers : LinkFault → Type 0
  Refers = Stage ((name : List ℕ) × (first_undefined os ≡ Some name)) (first_undefined os ≡ None) (Tells 5 (first_undefined os)) Enters

  abbrev Names : LinkFault → Type 0
  Names = Stage ((name : List ℕ) × (first_duplicate os ≡ Some name)) (AreDistinct (global_names os)) (Tells 6 (first_duplicate os)) Refers

  abbrev Begins : LinkFault → Type 0
  Begins = Stage (IsGround bounds → ⊥) (IsGround bounds) (Tells 9 (Some [])) Names

  abbrev Counts : LinkFault → Type 0
  Counts = Stage (most_files < length os) (length os ≤ most_files) (Tells 10 (Some [])) Begins

  -- ---- each fails for one reason

  too_large : IsTooLarge os bounds → IsPlaced → ⊥
  too_large large (p, placed) = by (large p.starts p.text p.rodata p.data p.bss placed.text placed.rodata placed.data placed.bss)
    where
      by : (bounds.ceiling < p.bss.end) ⊎ (memory_limit < memory_of p.text p.rodata p.data p.bss) → ⊥
      by (inl high) = let low = placed.below in absurd (omega (arith, high, low))
      by (inr much) = let few = placed.memory in absurd (omega (arith, much, few))

  lacks : LacksRoom os bounds.text → HasRoom os bounds.text → ⊥
  lacks (starts, stand, cramped) roomy = cramped (roomy starts stand)

  entered : has_entry os ≡ false → has_entry os ≡ true → ⊥
  entered a b = let t : false ≡ true = sym a ∙ b in absurd (cc)

  applies_once : AreOnce Applies
  applies_once f g (none, (p, placed, first)) (same, (q, again, other)) = first_once os bounds p q f g placed again none first other

  fits_once : AreOnce Fits
  fits_once = at_stage (IsTooLarge os bounds) IsPlaced (Tells 8 (Some [])) Applies too_large (tells_once 8 (Some [])) applies_once

  pads_once : AreOnce Pads
  pads_once = at_stage (LacksRoom os bounds.text) (HasRoom os bounds.text) (Tells 4 (Some [])) Fits lacks (tells_once 4 (Some [])) fits_once

  enters_once : AreOnce Enters
  enters_once = at_stage (has_entry os ≡ false) (has_entry os ≡ true) (Tells 7 (Some [])) Pads entered (tells_once 7 (Some [])) pads_once

  refers_once : AreOnce Refers
  refers_once =
      at_stage ((name : List ℕ) × (first_undefined os ≡ Some name)) (first_undefined os ≡ None) (Tells 5 (first_undefined os)) Enters (λ found none. none_some (first_undefined os) found.0 none found.1)
      (tells_once 5 (first_undefined os)) enters_once

  names_once : AreOnce Names
  names_once =
      at_stage ((name : List ℕ) × (first_duplicate os ≡ Some name)) (AreDistinct (global_names os)) (Tells 6 (first_duplicate os)) Refers
      (λ found distinct. none_some (first_duplicate os) found.0 (no_duplicate os distinct) found.1) (tells_once 6 (first_duplicate os)) refers_once

  begins_once : AreOnce Begins
  begins_once = at_stage (IsGround bounds → ⊥) (IsGround bounds) (Tells 9 (Some [])) Names (λ bad good. bad good) (tells_once 9 (Some [])) names_once

  counts_once : AreOnce Counts
  counts_once = at_stage (most_files < length os) (length os ≤ most_files) (Tells 10 (Some [])) Begins (λ many few. absurd (omega (arith, many, few))) (tells_once 10 (Some [])) begins_once

  -- ---- where each fault stands

  past_limits : (f : LinkFault) → AreWithin (length os) bounds → Names f → Counts f
  past_limits f within h = inr (within.0, inr (within.1, h))

  past_names : (f : LinkFault) → ComesToEntry os bounds → Enters f → Counts f
  past_names f come h = past_limits f come.0 (inr (come.1.0, inr (come.1.1, h)))

  past_entry : (f : LinkFault) → ComesToPlaces os bounds → Pads f → Counts f
  past_entry f come h = past_names f come.0 (inr (come.1, h))

  module _ (even : BeginsEven os bounds.text) where
    entry_missing : LacksEntry os bounds → has_entry os ≡ false
    entry_missing (inl none) = none
    entry_missing (inr (p, placed, odd)) = by (has_entry os) refl
      where
        by : (b : Bool) → has_entry os ≡ b → b ≡ false
        by false e = refl
        by true e =
            let (a, is) = entry_there p.starts os e in
            absurd (odd a is (even p.starts placed.text.1 a is))

    unapplied : (f : LinkFault) → IsUnapplied os bounds f → Counts f
    unapplied f (come, (p, placed, roomy, first)) =
        past_entry f come
        (inr ((λ starts stand. roomy_same p.starts starts os bounds.text placed.text.1 stand roomy), inr ((p, placed), (come.0.1.1, (p, placed, first)))))

    stands : (f : LinkFault) → IsUnlinked os bounds f → (f ≡ OutOfMemory → ⊥) → Counts f
    stands TooManyFiles u known = inl (u, (refl, refl))
    stands BadTextStart u known = inr (u.0, inl (u.1, (refl, refl)))
    stands (Duplicate name) u known = past_limits (Duplicate name) u.0 (inl ((name.items, u.1), (refl, u.1)))
    stands (Undefined name) u known = past_limits (Undefined name) u.0 (inr (u.1.0, inl ((name.items, u.1.1), (refl, u.1.1))))
    stands EntryMissing u known = past_names EntryMissing u.0 (inl (entry_missing u.1, (refl, refl)))
    stands AlignmentShort u known = past_entry AlignmentShort u.0 (inl (u.1, (refl, refl)))
    stands ImageTooLarge u known = past_entry ImageTooLarge u.0 (inr (u.1.1, inl (u.1.0, (refl, refl))))
    stands Overflow u known = unapplied Overflow u
    stands OddTarget u known = unapplied OddTarget u
    stands DanglingPcrel u known = unapplied DanglingPcrel u
    stands OutOfMemory u known = absurd (known refl)

    pub one_reason : (f g : LinkFault) → IsUnlinked os bounds f → (f ≡ OutOfMemory → ⊥) → IsUnlinked os bounds g → (g ≡ OutOfMemory → ⊥) → IsSameFault f g
    one_reason f g u known v same = counts_once f g (stands f u known) (stands g v same)
