-- Why objects are not linked: they are past the limits, or have no program. Either is one reason.

use Rattle.std.proofs.Common.{◌≡◌, ℕ, Bool, ◌<◌, ◌≤◌, ◌⊎◌, inl, inr, List, length, refl, sym, ap, subst, ◌∙◌, arith}
use Rattle.std.specs.List.{AllByRecursion}
use Rattle.rv_map_laws.specs.declared.map.SectionId.{SectionId}
use Rattle.rv_image_laws.specs.Linked.{Linked}
use Rattle.rv_object_laws.specs.Object.{Object}
use Rattle.rv_link_laws.specs.declared.bounds.Ground.{Ground}
use Rattle.rv_link_laws.specs.IsLinkOf.{most_files}
use Rattle.rv_link_laws.specs.IsProgramOf.{Leaves, IsProgramOf}
use Rattle.rv_link_laws.specs.Without.{without}
use Rattle.rv_link_laws.specs.Refusals.{ArePast, HasNoProgram, name_in, IsSameFault}
use Rattle.rv_link_laws.proofs.WithoutLemmas.{as_many_objects}
use Rattle.rv_fault.specs.declared.link_fault.LinkFault.{LinkFault}
use Rattle.rv_fault.specs.declared.link_fault.LinkFault.TheVariants as links
use Rattle.rv_fault.specs.LinkFault.{link_fault_number}
use Rattle.rv_link_laws.specs.TextStart.{AreWithin}
use Rattle.rv_link.proofs.LeftLemmas.{alike, past_unlinked}
use Rattle.rv_unique_theorems.specs.Asked.{IsSound}
use Rattle.rv_unique_theorems.specs.Same.{OneProgram, RefusedForMemory, RefusedForOne, RowsArePlaced, RunsBeginEven}
use Rattle.rv_fault.specs.declared.fault.Fault.TheVariants.{Link}
use Rattle.rv_fault.specs.Fault.{IsNamed}

-- a fault that names its cause is not want of memory
not_memory : (fault : LinkFault) → IsNamed (Link fault) → fault ≡ links.OutOfMemory → ⊥
not_memory fault named is = subst (λ f. IsNamed (Link f)) is named

-- ---- limits

pub within_past : (n : ℕ) (bounds : Ground) (fault : LinkFault) → AreWithin n bounds → ArePast n bounds fault → ⊥
within_past n bounds links.TooManyFiles (few, at) many = let under : n ≤ most_files = few in let over : most_files < n = many in absurd (omega (arith, under, over))
within_past n bounds links.BadTextStart (few, at) (same, bad) = bad at
within_past n bounds links.Overflow within past = past
within_past n bounds links.OddTarget within past = past
within_past n bounds links.DanglingPcrel within past = past
within_past n bounds links.AlignmentShort within past = past
within_past n bounds (links.Undefined name) within past = past
within_past n bounds (links.Duplicate name) within past = past
within_past n bounds links.EntryMissing within past = past
within_past n bounds links.ImageTooLarge within past = past
within_past n bounds links.OutOfMemory within past = past

-- which limit it is
abbrev IsPastBy : ℕ → LinkFault → Type 0
IsPastBy n fault = ((fault ≡ links.TooManyFiles) × (most_files < n)) ⊎ ((fault ≡ links.BadTextStart) × (n ≤ most_files))

past_by : (n : ℕ) (bounds : Ground) (fault : LinkFault) → ArePast n bounds fault → IsPastBy n fault
past_by n bounds links.TooManyFiles h = inl (refl, h)
past_by n bounds links.BadTextStart (few, h) = inr (refl, few)
past_by n bounds links.Overflow h = absurd h
past_by n bounds links.OddTarget h = absurd h
past_by n bounds links.DanglingPcrel h = absurd h
past_by n bounds links.AlignmentShort h = absurd h
past_by n bounds (links.Undefined name) h = absurd h
past_by n bounds (links.Duplicate name) h = absurd h
past_by n bounds links.EntryMissing h = absurd h
past_by n bounds links.ImageTooLarge h = absurd h
past_by n bounds links.OutOfMemory h = absurd h

same_fault : (f g : LinkFault) → f ≡ g → IsSameFault f g
same_fault f g e = (ap link_fault_number e, ap name_in e)

one_past : (n : ℕ) (f g : LinkFault) → IsPastBy n f → IsPastBy n g → IsSameFault f g
one_past n f g (inl (is, many)) (inl (was, more)) = same_fault f g (is ∙ sym was)
one_past n f g (inl (is, many)) (inr (was, few)) = absurd (let over : most_files < n = many in let under : n ≤ most_files = few in omega (arith, over, under))
one_past n f g (inr (is, few)) (inl (was, many)) = absurd (let over : most_files < n = many in let under : n ≤ most_files = few in omega (arith, over, under))
one_past n f g (inr (is, few)) (inr (was, fewer)) = same_fault f g (is ∙ sym was)

pub past_once : (n : ℕ) (bounds : Ground) (f g : LinkFault) → ArePast n bounds f → ArePast n bounds g → IsSameFault f g
past_once n bounds f g h k = one_past n f g (past_by n bounds f h) (past_by n bounds g k)

-- ---- objects

-- objects past the limits have no program, whatever collection and relaxation leave of them
past_is : (os : List Object) (bounds : Ground) (relax gc : Bool) (drops : List SectionId) (left : List Object) (fault : LinkFault) → Leaves os relax gc drops left → ArePast (length os) bounds fault
    → HasNoProgram os bounds relax gc fault
past_is os bounds relax gc drops left fault leaves h =
    let many : length left ≡ length os = (alike relax (without drops os) left leaves.relaxed).many ∙ as_many_objects drops os in
    record {
      drops = drops;
      left = left;
      leaves = leaves;
      unlinked = past_unlinked left bounds fault (subst (λ n. ArePast n bounds fault) (sym many) h);
    }

-- why objects are refused
abbrev pub IsRefusal : List Object → Ground → Bool → Bool → LinkFault → Type 0
IsRefusal os bounds relax gc fault = ArePast (length os) bounds fault ⊎ HasNoProgram os bounds relax gc fault

told : (os : List Object) (bounds : Ground) (relax gc : Bool) (drops : List SectionId) (left : List Object) (fault : LinkFault) → Leaves os relax gc drops left → IsRefusal os bounds relax gc fault → HasNoProgram os bounds relax gc fault
told os bounds relax gc drops left fault leaves (inl past) = past_is os bounds relax gc drops left fault leaves past
told os bounds relax gc drops left fault leaves (inr h) = h

-- the laws of a link
pub record LinkLaws : Type 0 where
  pub one_linked : OneProgram
  pub for_memory : RefusedForMemory
  pub for_one : RefusedForOne
  pub placed : RowsArePlaced
  pub even : RunsBeginEven

module _ (laws : LinkLaws) where
  -- objects with a program are not refused
  pub no_refusal : (os : List Object) (bounds : Ground) (relax gc : Bool) (l : Linked) (fault : LinkFault) → IsProgramOf os bounds relax gc l → IsNamed (Link fault) → IsRefusal os bounds relax gc fault → ⊥
  no_refusal os bounds relax gc l fault links named h =
      not_memory fault named (laws.for_memory os bounds relax gc l fault links (told os bounds relax gc l.map.drops links.left fault links.leaves h))

  by_law : (os : List Object) (bounds : Ground) (relax gc : Bool) (fault other : LinkFault) → AllByRecursion IsSound os → IsNamed (Link fault) → IsNamed (Link other)
      → HasNoProgram os bounds relax gc fault → HasNoProgram os bounds relax gc other → IsSameFault fault other
  by_law os bounds relax gc fault other sound named called h k =
      laws.for_one os bounds relax gc fault other (laws.even os bounds.text relax gc sound) h (not_memory fault named) k (not_memory other called)

  pub one_reason : (os : List Object) (bounds : Ground) (relax gc : Bool) (fault other : LinkFault) → AllByRecursion IsSound os → IsNamed (Link fault) → IsNamed (Link other)
      → IsRefusal os bounds relax gc fault → IsRefusal os bounds relax gc other → IsSameFault fault other
  one_reason os bounds relax gc fault other sound named called (inl h) (inl k) = past_once (length os) bounds fault other h k
  one_reason os bounds relax gc fault other sound named called (inl h) (inr k) =
      by_law os bounds relax gc fault other sound named called (past_is os bounds relax gc k.drops k.left fault k.leaves h) k
  one_reason os bounds relax gc fault other sound named called (inr h) k =
      by_law os bounds relax gc fault other sound named called h (told os bounds relax gc h.drops h.left other h.leaves k)
