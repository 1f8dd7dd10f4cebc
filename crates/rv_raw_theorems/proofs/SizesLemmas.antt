-- A branch to `.` and a distance in its range has four bytes: all together have their smallest sizes.

use Rattle.std.proofs.Common.{◌≡◌, ℕ, ◌<◌, ℤ, pos, negsuc, List, sym, subst, arith}
use Rattle.std.specs.Prelude.{slice_index, ◌-ℤ◌, ◌+ℤ◌}
use Rattle.std.proofs.lemmas.List.{length-map}
use Rattle.std.proofs.lemmas.Int.{ints}
use Rattle.rv_size_laws.specs.declared.item.Forms.{Forms}
use Rattle.rv_size_laws.specs.declared.item.Forms.TheVariants.{Settled, CompressedBranch, Branch, CompressedJump}
use Rattle.rv_size_laws.specs.declared.item.Item.{Item}
use Rattle.rv_size_laws.specs.Offsets.{offset, IsImmediate, Reaches}
use Rattle.rv_size_laws.specs.Branches.{Offers, smallest, largest, half, item_at, of_section, IsGood, IsLeastGood, smallest_sizes}
use Rattle.rv_size_laws.proofs.WideningLemmas.{smallest_at, offers_smallest as offered, smallest_least}
use Rattle.rv_raw_theorems.specs.Meaning.{LeadsFrom, LeadsFromItself}

nowhere : (x : ℕ) (z : ℤ) → (pos x -ℤ pos x) +ℤ z ≡ z
nowhere x (pos n) = omega (arith, ints)
nowhere x (negsuc n) = omega (arith, ints)

reached : (xs : List ℕ) (i size : ℕ) (f : Forms) (target : ℕ) (addend : ℤ) → size ≡ smallest f → LeadsFrom i f target addend → size < largest f
    → Reaches (half f size) addend (pos (offset xs target) -ℤ pos (offset xs i))
reached xs i size (Settled bytes) target addend e leads lt = absurd (omega (arith, e, lt))
reached xs i size Branch target addend e (at, within) lt =
    subst (λ t. Reaches 4096 addend (pos (offset xs t) -ℤ pos (offset xs i))) (sym at)
    (record { alone = within; added = subst (IsImmediate 4096) (sym (nowhere (offset xs i) addend)) within })
reached xs i size CompressedBranch target addend e leads lt = absurd leads
reached xs i size CompressedJump target addend e leads lt = absurd leads

smallest_good : (items : List Item) → ((i : ℕ) → LeadsFromItself i (item_at items i)) → IsGood items (smallest_sizes items)
smallest_good items leads = record {
  family = record {
    same_length = length-map items (λ (item : Item). smallest item.forms);
    offered = λ i. subst (Offers (item_at items i).forms) (sym (smallest_at items i)) (offered (item_at items i).forms);
  };
  reaching = λ i lt. reached (of_section (item_at items i).section items (smallest_sizes items)) i (slice_index (smallest_sizes items) i) (item_at items i).forms (item_at items i).target (item_at items i).addend (smallest_at items i) (leads i) lt;
}

-- the least sizes are the smallest
pub sizes_are : (items : List Item) (sizes : List ℕ) → ((i : ℕ) → LeadsFromItself i (item_at items i)) → IsLeastGood items sizes → (i : ℕ) → slice_index sizes i ≡ smallest (item_at items i).forms
sizes_are items sizes leads least i =
    let low = smallest_least (item_at items i).forms (slice_index sizes i) (least.good.family.offered i) in
    let high = least.least (smallest_sizes items) (smallest_good items leads) i in
    omega (arith, low, high, smallest_at items i)
