-- Relocations that are refused, where sections stand as they do in a program.

use Rattle.std.proofs.Common.{◌≡◌, ℕ, ℤ, List, sym, ap, ◌∙◌, subst, Option, None}
use Rattle.std.specs.Prelude.{IsTrue}
use Rattle.std.specs.List.{AllByRecursion, list_all}
use Rattle.rv_list_laws.proofs.EachLemmas.{each_from_both}
use Rattle.rv_image_laws.specs.Linked.{Linked}
use Rattle.rv_object_laws.specs.Object.{Relocation, Object}
use Rattle.rv_link_laws.specs.declared.bounds.Ground.{Ground}
use Rattle.rv_link_laws.specs.Moves.{moves, has_room}
use Rattle.rv_link_laws.specs.Inputs.{Starts, InputSection, goes_to_text, inputs, start_of, Stand}
use Rattle.rv_link_laws.specs.Names.{outer_address}
use Rattle.rv_link_laws.specs.Values.{value, IsRelocated}
use Rattle.rv_link_laws.specs.IsLinkOf.{IsLinkOf, outer_of, is_loaded}
use Rattle.rv_link_laws.specs.Undefined.{first_undefined}
use Rattle.rv_link_laws.specs.Layout.{Layout, IsLayout, AreRoomy, regions_of, outer_in}
use Rattle.rv_link_laws.specs.Untaken.{IsTaken, IsUntaken, AreTaken, AreUntaken, IsFirstUntaken}
use Rattle.rv_link_laws.specs.Refusals.{IsSameFault}
use Rattle.rv_fault.specs.declared.link_fault.LinkFault.{LinkFault}
use Rattle.rv_fault.specs.declared.link_fault.LinkFault.TheVariants.{Overflow, OddTarget, DanglingPcrel, AlignmentShort, Undefined, Duplicate, EntryMissing, ImageTooLarge, BadTextStart, TooManyFiles, OutOfMemory}
use Rattle.rv_unique_theorems.proofs.AgreedLemmas.{StartsSame, stand_same, AreLaid, AreOne, laid_same}
use Rattle.rv_unique_theorems.proofs.ProgramLemmas.{every_same, values_between, linked_laid, linked_meant}
use Rattle.rv_unique_theorems.proofs.JudgedLemmas.{all_first, one_first, IsHeld, IsRefusedFor, refused_once, held_apart}

-- ---- room

-- sections that start the same have the same room
pub roomy_same : (s t : Starts) (os : List Object) (start : ℕ) → Stand s start (inputs goes_to_text os) → Stand t start (inputs goes_to_text os) → AreRoomy os s → AreRoomy os t
roomy_same s t os start h k roomy =
    each_from_both (StartsSame s t) (λ i. IsTrue (list_all has_room (moves (start_of s i) i.section))) (λ i. IsTrue (list_all has_room (moves (start_of t i) i.section)))
    (λ i same room. subst (λ n. IsTrue (list_all has_room (moves n i.section))) same room) (inputs goes_to_text os) (stand_same s t start (inputs goes_to_text os) h k).0 roomy

module _ (os : List Object) (bounds : Ground) (p : Layout) (placed : IsLayout os bounds p) where
  pub placed_laid : AreLaid os bounds.text p.starts p.text p.rodata p.data p.bss
  placed_laid = record { in_text = placed.text; in_rodata = placed.rodata; in_data = placed.data; in_bss = placed.bss }

-- ---- relocations

refused_by : (os : List Object) (p : Layout) (i : InputSection) (f : LinkFault) (r : Relocation) → IsUntaken os p i f r → IsRefusedFor f (value (outer_in os p) p.starts os i r) r
refused_by os p i Overflow r h = h
refused_by os p i OddTarget r h = h
refused_by os p i DanglingPcrel r h = h
refused_by os p i AlignmentShort r h = h
refused_by os p i (Undefined name) r h = h
refused_by os p i (Duplicate name) r h = h
refused_by os p i EntryMissing r h = h
refused_by os p i ImageTooLarge r h = h
refused_by os p i BadTextStart r h = h
refused_by os p i TooManyFiles r h = h
refused_by os p i OutOfMemory r h = h

held_by : (os : List Object) (p : Layout) (i : InputSection) (r : Relocation) → IsTaken os p i r → IsHeld (value (outer_in os p) p.starts os i r) r
held_by os p i r h = record { found = h.found; alone = h.alone; takes = h.takes }

module _ (os : List Object) (bounds : Ground) (l : Linked) (p : Layout) (f : LinkFault) (h : IsLinkOf os bounds l) (placed : IsLayout os bounds p) where
  pub linked_one : AreOne os h.starts p.starts l.map.text p.text l.map.rodata p.rodata l.map.data p.data l.map.bss p.bss
  linked_one = laid_same os bounds.text h.starts p.starts l.map.text p.text l.map.rodata p.rodata l.map.data p.data l.map.bss p.bss (linked_laid os bounds l h) (placed_laid os bounds p placed)

  same_names : outer_of os l ≡ outer_in os p
  same_names = ap (outer_address os) (h.globals ∙ every_same h.starts p.starts os linked_one.agreed l.map (regions_of p) linked_one.same_text linked_one.same_data linked_one.same_bss)

  abbrev here : InputSection → Relocation → Option ℤ
  here i r = value (outer_of os l) h.starts os i r

  abbrev there : InputSection → Relocation → Option ℤ
  there i r = value (outer_in os p) p.starts os i r

  apart_at : (i : InputSection) (r : Relocation) → here i r ≡ there i r → IsRelocated (outer_of os l) h.starts os i r → IsUntaken os p i f r → ⊥
  apart_at i r same is un =
      held_apart f (there i r) r (subst (λ v. IsHeld v r) same (record { found = is.found; alone = is.alone; takes = is.takes })) (refused_by os p i f r un)

  -- what a program has taken is not refused
  pub linked_taken : IsFirstUntaken os p f (inputs is_loaded os) → ⊥
  linked_taken first =
      all_first ⊥ (λ i. AllByRecursion (λ r. here i r ≡ there i r) i.section.relocations) (λ i. AllByRecursion (IsRelocated (outer_of os l) h.starts os i) i.section.relocations) (AreTaken os p) (AreUntaken os p f)
      (λ i. all_first ⊥ (λ r. here i r ≡ there i r) (IsRelocated (outer_of os l) h.starts os i) (IsTaken os p i) (IsUntaken os p i f) (apart_at i) i.section.relocations)
      (inputs is_loaded os) (values_between h.starts p.starts (outer_of os l) (outer_in os p) os linked_one.agreed same_names (linked_meant os bounds l h)) h.relocated first

module _ (os : List Object) (bounds : Ground) (p q : Layout) (f g : LinkFault) (placed : IsLayout os bounds p) (again : IsLayout os bounds q) where
  two : AreOne os p.starts q.starts p.text q.text p.rodata q.rodata p.data q.data p.bss q.bss
  two = laid_same os bounds.text p.starts q.starts p.text q.text p.rodata q.rodata p.data q.data p.bss q.bss (placed_laid os bounds p placed) (placed_laid os bounds q again)

  both_names : outer_in os p ≡ outer_in os q
  both_names = ap (outer_address os) (every_same p.starts q.starts os two.agreed (regions_of p) (regions_of q) two.same_text two.same_data two.same_bss)

  abbrev one : InputSection → Relocation → Option ℤ
  one i r = value (outer_in os p) p.starts os i r

  abbrev other : InputSection → Relocation → Option ℤ
  other i r = value (outer_in os q) q.starts os i r

  abbrev Alike : InputSection → Relocation → Type 0
  Alike i r = one i r ≡ other i r

  abbrev AllAlike : InputSection → Type 0
  AllAlike i = AllByRecursion (Alike i) i.section.relocations

  both_at : (i : InputSection) (r : Relocation) → Alike i r → IsUntaken os p i f r → IsUntaken os q i g r → IsSameFault f g
  both_at i r same h k = refused_once f g (other i r) r (subst (λ v. IsRefusedFor f v r) same (refused_by os p i f r h)) (refused_by os q i g r k)

  left_at : (i : InputSection) (r : Relocation) → Alike i r → IsTaken os p i r → IsUntaken os q i g r → IsSameFault f g
  left_at i r same h k = absurd (held_apart g (other i r) r (subst (λ v. IsHeld v r) same (held_by os p i r h)) (refused_by os q i g r k))

  right_at : (i : InputSection) (r : Relocation) → Alike i r → IsTaken os q i r → IsUntaken os p i f r → IsSameFault f g
  right_at i r same h k = absurd (held_apart f (one i r) r (subst (λ v. IsHeld v r) (sym same) (held_by os q i r h)) (refused_by os p i f r k))

  left_in : (i : InputSection) → AllAlike i → AreTaken os p i → AreUntaken os q g i → IsSameFault f g
  left_in i = all_first (IsSameFault f g) (Alike i) (IsTaken os p i) (IsTaken os q i) (IsUntaken os q i g) (left_at i) i.section.relocations

  right_in : (i : InputSection) → AllAlike i → AreTaken os q i → AreUntaken os p f i → IsSameFault f g
  right_in i = all_first (IsSameFault f g) (Alike i) (IsTaken os q i) (IsTaken os p i) (IsUntaken os p i f) (right_at i) i.section.relocations

  both_in : (i : InputSection) → AllAlike i → AreUntaken os p f i → AreUntaken os q g i → IsSameFault f g
  both_in i =
      one_first (IsSameFault f g) (Alike i) (IsTaken os p i) (IsTaken os q i) (IsUntaken os p i f) (IsUntaken os q i g) (both_at i) (left_at i) (λ r same h k. right_at i r same k h) i.section.relocations

  -- the first that is refused is refused for one reason
  pub first_once : first_undefined os ≡ None → IsFirstUntaken os p f (inputs is_loaded os) → IsFirstUntaken os q g (inputs is_loaded os) → IsSameFault f g
  first_once none =
      one_first (IsSameFault f g) AllAlike (AreTaken os p) (AreTaken os q) (AreUntaken os p f) (AreUntaken os q g) both_in left_in (λ i same h k. right_in i same k h) (inputs is_loaded os)
      (values_between p.starts q.starts (outer_in os p) (outer_in os q) os two.agreed both_names none)
