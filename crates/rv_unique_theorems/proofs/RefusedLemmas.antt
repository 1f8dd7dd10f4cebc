-- Objects that have a linked program are refused for want of memory alone.

use Rattle.std.proofs.Common.{◌≡◌, ℕ, ◌<◌, true, false, refl, sym, ap, ◌∙◌, arith, Option, Some, None, List, inl, inr}
use Rattle.std.specs.Prelude.{◌⊎◌, is_some}
use Rattle.rv_image_laws.specs.Linked.{Linked}
use Rattle.rv_object_laws.specs.Object.{Object}
use Rattle.rv_link_laws.specs.declared.bounds.Ground.{Ground}
use Rattle.rv_link_laws.specs.IsLinkOf.{IsLinkOf}
use Rattle.rv_link_laws.specs.Layout.{memory_of, IsTooLarge}
use Rattle.rv_link_laws.specs.Refusals.{LacksRoom, LacksEntry, IsUnapplied, IsUnlinked}
use Rattle.rv_isa_laws.specs.Platform.{memory_limit}
use Rattle.rv_link_laws.specs.Exports.{first_duplicate}
use Rattle.rv_link_laws.specs.Undefined.{first_undefined}
use Rattle.rv_link_laws.proofs.EntryLemmas.{entry_some}
use Rattle.rv_fault.specs.declared.link_fault.LinkFault.{LinkFault}
use Rattle.rv_fault.specs.declared.link_fault.LinkFault.TheVariants.{Overflow, OddTarget, DanglingPcrel, AlignmentShort, Undefined, Duplicate, EntryMissing, ImageTooLarge, BadTextStart, TooManyFiles, OutOfMemory}
use Rattle.rv_unique_theorems.proofs.AddressesLemmas.{all_entries}
use Rattle.rv_unique_theorems.proofs.DistinctLemmas.{no_duplicate}
use Rattle.rv_unique_theorems.proofs.ProgramLemmas.{linked_meant}
use Rattle.rv_unique_theorems.proofs.UntakenLemmas.{roomy_same, linked_one, linked_taken}

pub none_some : (f : Option (List ℕ)) (name : List ℕ) → f ≡ None → f ≡ Some name → ⊥
none_some f name a b = let t : ◌≡◌ {A = Option (List ℕ)} None (Some name) = sym a ∙ b in absurd (cc)

module _ (os : List Object) (bounds : Ground) (l : Linked) (h : IsLinkOf os bounds l) where
  has_its_entry : LacksEntry os bounds → ⊥
  has_its_entry (inl none) = let t : false ≡ true = sym none ∙ sym (entry_some h.starts os) ∙ ap is_some h.entry in absurd (cc)
  has_its_entry (inr (p, placed, odd)) =
      odd l.map.entry (sym (all_entries h.starts p.starts os (linked_one os bounds l p OutOfMemory h placed).agreed) ∙ h.entry) h.even

  has_its_room : LacksRoom os bounds.text → ⊥
  has_its_room (starts, stand, cramped) = cramped (roomy_same h.starts starts os bounds.text h.text.1 stand h.room)

  fits : IsTooLarge os bounds → ⊥
  fits large = by (large h.starts l.map.text l.map.rodata l.map.data l.map.bss h.text h.rodata h.data h.bss)
    where
      by : (bounds.ceiling < l.map.bss.end) ⊎ (memory_limit < memory_of l.map.text l.map.rodata l.map.data l.map.bss) → ⊥
      by (inl high) = let low = h.below in absurd (omega (arith, high, low))
      by (inr much) = let few = h.memory in absurd (omega (arith, much, few))

  taken : (fault : LinkFault) → IsUnapplied os bounds fault → ⊥
  taken fault (so, (p, placed, roomy, first)) = linked_taken os bounds l p fault h placed first

  pub refused : (fault : LinkFault) → IsUnlinked os bounds fault → fault ≡ OutOfMemory
  refused TooManyFiles u = let few = h.few in absurd (omega (arith, u, few))
  refused BadTextStart u = absurd (u.1 (h.page, h.low, h.free))
  refused (Duplicate name) u = absurd (none_some (first_duplicate os) name.items (no_duplicate os h.once) u.1)
  refused (Undefined name) u = absurd (none_some (first_undefined os) name.items (linked_meant os bounds l h) u.1.1)
  refused EntryMissing u = absurd (has_its_entry u.1)
  refused AlignmentShort u = absurd (has_its_room u.1)
  refused ImageTooLarge u = absurd (fits u.1.0)
  refused Overflow u = absurd (taken Overflow u)
  refused OddTarget u = absurd (taken OddTarget u)
  refused DanglingPcrel u = absurd (taken DanglingPcrel u)
  refused OutOfMemory u = refl
