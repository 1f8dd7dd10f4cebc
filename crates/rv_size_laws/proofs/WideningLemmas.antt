-- Widening what does not reach, in any order, ends at the one least good family.

use Rattle.std.proofs.Common.{◌≡◌, ◌⊎◌, inl, inr, ℕ, zero, suc, ◌*◌, ◌/◌, ◌≤◌, ◌<◌, ◌==◌, Bool, true, false, cond, if◌then◌else◌, List, [], ◌∷◌, length, slice_index, refl, ap, subst, sym, ◌∙◌, arith}
use Rattle.std.proofs.lemmas.Bool.{cases_lt, cases_Bool}
use Rattle.std.proofs.lemmas.List.{length-map, get_or_past}
use Rattle.std.proofs.Math.ListN.{get_or-map}
use Rattle.rv_size_laws.specs.declared.item.Forms.{Forms}
use Rattle.rv_size_laws.specs.declared.item.Forms.TheVariants.{Settled, CompressedBranch, Branch, CompressedJump}
use Rattle.rv_size_laws.specs.declared.item.Item.{Item}
use Rattle.rv_size_laws.specs.Offsets.{AtMost, GrowsEvenly, AllGrowEvenly}
use Rattle.rv_size_laws.specs.Branches.{Offers, smallest, largest, half, is_branch, item_at, of_section, distance_of, ReachesBy, IsFamily, IsGood, IsLeastGood, branches, MayWiden, Widenings, smallest_sizes}
use Rattle.rv_size_laws.proofs.StepsLemmas.{AreSteps, steps_hold, steps_end, weights_most, all_or_one, at_most_both}
use Rattle.rv_size_laws.proofs.JumpSizesLemmas.{IsJumpSize, jump_grows, quarter_grows, quarter_most, jump_between}
use Rattle.rv_size_laws.proofs.ReachingLemmas.{Nearer, distance_nearer, reaches_nearer, reaches, reaches_tested, reaches_passes}

-- ---- the forms

jump_size : (forms : Forms) (size : ℕ) → is_branch forms ≡ true → Offers forms size → IsJumpSize size
jump_size (Settled bytes) size e h = (cc)
jump_size CompressedBranch size e h = grind arith
jump_size Branch size e h = grind arith
jump_size CompressedJump size e h = grind arith

one_size : (forms : Forms) (a b : ℕ) → is_branch forms ≡ false → Offers forms a → Offers forms b → a ≡ b
one_size (Settled bytes) a b e x y = x ∙ sym y
one_size CompressedBranch a b e x y = absurd (cc)
one_size Branch a b e x y = absurd (cc)
one_size CompressedJump a b e x y = absurd (cc)

offered_grows : (forms : Forms) (a b : ℕ) → Offers forms a → Offers forms b → a ≤ b → GrowsEvenly a b
offered_grows forms a b x y le = elim (cases_Bool (is_branch forms)) [
  | inl e ↦ jump_grows a b (jump_size forms a e x) (jump_size forms b e y) le
  | inr e ↦ (0, omega (arith, one_size forms a b e x y))
]

pub offers_smallest : (forms : Forms) → Offers forms (smallest forms)
offers_smallest (Settled bytes) = refl
offers_smallest CompressedBranch = inl refl
offers_smallest Branch = inl refl
offers_smallest CompressedJump = inl refl

pub smallest_least : (forms : Forms) (size : ℕ) → Offers forms size → smallest forms ≤ size
smallest_least (Settled bytes) size h = omega arith
smallest_least CompressedBranch size h = grind arith
smallest_least Branch size h = grind arith
smallest_least CompressedJump size h = grind arith

largest_greatest : (forms : Forms) (size : ℕ) → Offers forms size → size ≤ largest forms
largest_greatest (Settled bytes) size h = omega arith
largest_greatest CompressedBranch size h = grind arith
largest_greatest Branch size h = grind arith
largest_greatest CompressedJump size h = grind arith

-- below the largest, twice the size is the next
pub doubled : (forms : Forms) (size : ℕ) → Offers forms size → size < largest forms → Offers forms (2 * size)
doubled (Settled bytes) size h lt = absurd (omega arith)
doubled CompressedBranch size h lt = grind arith
doubled Branch size h lt = grind arith
doubled CompressedJump size h lt = grind arith

settled_is_largest : (forms : Forms) (size : ℕ) → is_branch forms ≡ false → Offers forms size → size ≡ largest forms
settled_is_largest (Settled bytes) size e h = h
settled_is_largest CompressedBranch size e h = absurd (cc)
settled_is_largest Branch size e h = absurd (cc)
settled_is_largest CompressedJump size e h = absurd (cc)

pub is_branch_below : (forms : Forms) (size : ℕ) → Offers forms size → size < largest forms → is_branch forms ≡ true
is_branch_below forms size h lt = elim (cases_Bool (is_branch forms)) [ inl branch ↦ branch | inr settled ↦ absurd (omega (arith, lt, settled_is_largest forms size settled h)) ]

-- ---- families

chosen_grows : (b : Bool) (small large : ℕ) → GrowsEvenly small large → GrowsEvenly (if b then small else 0) (if b then large else 0)
chosen_grows true small large g = g
chosen_grows false small large g = (0, refl)

section_grows : (section : ℕ) (items : List Item) (small large : List ℕ) → AllGrowEvenly small large → AllGrowEvenly (of_section section items small) (of_section section items large)
section_grows section items [] [] grows i = (0, refl)
section_grows section [] [] (l ∷ large) grows i = (0, refl)
section_grows section [] (s ∷ small) [] grows i = (0, refl)
section_grows section [] (s ∷ small) (l ∷ large) grows i = (0, refl)
section_grows section (item ∷ items) [] (l ∷ large) grows zero = elim (item.section == section) as (λ b. GrowsEvenly 0 (if b then l else 0)) [ true ↦ grows zero | false ↦ (0, refl) ]
section_grows section (item ∷ items) [] (l ∷ large) grows (suc i) = section_grows section items [] large (λ k. grows (suc k)) i
section_grows section (item ∷ items) (s ∷ small) [] grows zero = elim (item.section == section) as (λ b. GrowsEvenly (if b then s else 0) 0) [ true ↦ grows zero | false ↦ (0, refl) ]
section_grows section (item ∷ items) (s ∷ small) [] grows (suc i) = section_grows section items small [] (λ k. grows (suc k)) i
section_grows section (item ∷ items) (s ∷ small) (l ∷ large) grows zero = chosen_grows (item.section == section) s l (grows zero)
section_grows section (item ∷ items) (s ∷ small) (l ∷ large) grows (suc i) = section_grows section items small large (λ k. grows (suc k)) i

-- what reaches still does where all sizes shrink by even numbers
pub reaches_shrunk : (items : List Item) (small large : List ℕ) → AllGrowEvenly small large
    → (i size : ℕ) → ReachesBy items large i size → ReachesBy items small i size
reaches_shrunk items small large grows i size r =
    let section : ℕ = (item_at items i).section in
    let near : Nearer (distance_of items small i) (distance_of items large i) =
    distance_nearer (of_section section items small) (of_section section items large) (section_grows section items small large grows) i (item_at items i).target in
    reaches_nearer (half (item_at items i).forms size) (item_at items i).addend (distance_of items small i) (distance_of items large i) near r

-- ---- widening

pub smallest_at : (items : List Item) (i : ℕ) → slice_index (smallest_sizes items) i ≡ smallest (item_at items i).forms
smallest_at items i = get_or-map (λ item. smallest item.forms) items i _

smallest_below : (items : List Item) (others : List ℕ) → IsFamily items others → AtMost (smallest_sizes items) others
smallest_below items others f i = omega (arith, smallest_at items i, smallest_least (item_at items i).forms (slice_index others i) (f.offered i))

-- how often a statement has been widened, at most
abbrev weight : Forms → ℕ → ℕ
weight forms size = cond (is_branch forms) (size / 4) 0

weight_adds : (forms : Forms) (a b : ℕ) → Offers forms a → Offers forms b → a < b → weight forms a < weight forms b
weight_adds (Settled bytes) a b x y lt = absurd (omega arith)
weight_adds CompressedBranch a b x y lt = quarter_grows a b (jump_size CompressedBranch a refl x) (jump_size CompressedBranch b refl y) lt
weight_adds Branch a b x y lt = quarter_grows a b (jump_size Branch a refl x) (jump_size Branch b refl y) lt
weight_adds CompressedJump a b x y lt = quarter_grows a b (jump_size CompressedJump a refl x) (jump_size CompressedJump b refl y) lt

weight_most : (forms : Forms) (size : ℕ) → Offers forms size → weight forms size ≤ 2 * cond (is_branch forms) 1 0
weight_most (Settled bytes) size h = omega arith
weight_most CompressedBranch size h = quarter_most size (jump_size CompressedBranch size refl h)
weight_most Branch size h = quarter_most size (jump_size Branch size refl h)
weight_most CompressedJump size h = quarter_most size (jump_size CompressedJump size refl h)

-- what is widened is there
widened_within : (items : List Item) (sizes : List ℕ) (i wider : ℕ) → MayWiden items sizes i wider → i < length items
widened_within items sizes i wider may =
    elim (cases_lt i (length items)) [
      | inl within ↦ within
      | inr past ↦
          let grows : slice_index sizes i < wider = may.grows in
          let none : wider ≡ 0 = subst (λ item. Offers item.forms wider) (get_or_past items i _ past) may.offered in
          absurd (omega arith)
    ]

pub widening : (items : List Item) → AreSteps (length items) (λ i. Offers (item_at items i).forms) (MayWiden items) (smallest_sizes items) (λ i. weight (item_at items i).forms) (2 * branches items)
widening items = record {
  begins = record {
    same_length = length-map items (λ item. smallest item.forms);
    offered = λ i. subst (Offers (item_at items i).forms) (sym (smallest_at items i)) (offers_smallest (item_at items i).forms);
  };
  offered = λ sizes i wider may. may.offered;
  within = λ sizes i wider f may. widened_within items sizes i wider may;
  adds = λ sizes i wider f may. weight_adds (item_at items i).forms (slice_index sizes i) wider (f.offered i) may.offered may.grows;
  bounded = λ sizes f. weights_most (λ item. is_branch item.forms) items _ (λ i. weight (item_at items i).forms) sizes f.same_length (λ i. weight_most (item_at items i).forms (slice_index sizes i) (f.offered i));
}

-- ---- where it ends

-- no widening passes a good family
stays_below : (items : List Item) (others : List ℕ) → IsGood items others → (sizes : List ℕ) (i wider : ℕ) → IsFamily items sizes → AtMost sizes others → MayWiden items sizes i wider → wider ≤ slice_index others i
stays_below items others good sizes i wider f below may = elim (cases_lt (slice_index others i) wider) [
  | inr le ↦ le
  | inl short ↦
      let most : wider ≤ largest (item_at items i).forms = largest_greatest (item_at items i).forms wider may.offered in
      let far : ReachesBy items others i (slice_index others i) = good.reaching i (omega arith) in
      let grows : AllGrowEvenly sizes others = λ k. offered_grows (item_at items k).forms (slice_index sizes k) (slice_index others k) (f.offered k) (good.family.offered k) (below k) in
      absurd (may.short (slice_index others i) (good.family.offered i) (below i) short (reaches_shrunk items sizes others grows i (slice_index others i) far))
]

pub widened_least : (items : List Item) (sizes : List ℕ) (n : ℕ) → Widenings items (smallest_sizes items) sizes n → IsGood items sizes → IsLeastGood items sizes
widened_least items sizes n widenings good = record {
  good = good;
  least = λ others other. steps_hold (widening items) (λ k size. size ≤ slice_index others k) (stays_below items others other) (smallest_below items others other.family) sizes n widenings;
}

pub one_least_good : (items : List Item) (sizes others : List ℕ) → IsLeastGood items sizes → IsLeastGood items others → sizes ≡ others
one_least_good items sizes others a b = at_most_both sizes others (a.good.family.same_length ∙ sym b.good.family.same_length) (a.least others b.good) (b.least sizes a.good)

-- a statement that does not reach below its largest size may have twice the size
pub doubles : (items : List Item) (sizes : List ℕ) (i : ℕ) → IsFamily items sizes → slice_index sizes i < largest (item_at items i).forms → (ReachesBy items sizes i (slice_index sizes i) → ⊥)
    → MayWiden items sizes i (2 * slice_index sizes i)
doubles items sizes i f below far =
    let jump : (size : ℕ) → Offers (item_at items i).forms size → IsJumpSize size = λ size. jump_size (item_at items i).forms size (is_branch_below (item_at items i).forms (slice_index sizes i) (f.offered i) below) in
    record {
      grows = grind (arith, jump (slice_index sizes i) (f.offered i));
      offered = doubled (item_at items i).forms (slice_index sizes i) (f.offered i) below;
      short = λ other o le lt r. far (subst (ReachesBy items sizes i) (jump_between (slice_index sizes i) other (jump (slice_index sizes i) (f.offered i)) (jump other o) le lt) r);
    }

-- one statement: its size stands, or twice the size may be taken
Stands : List Item → List ℕ → ℕ → Type 0
Stands items sizes i = slice_index sizes i < largest (item_at items i).forms → ReachesBy items sizes i (slice_index sizes i)

one_widens : (items : List Item) (sizes : List ℕ) → IsFamily items sizes → (i : ℕ) → Stands items sizes i ⊎ MayWiden items sizes i (2 * slice_index sizes i)
unfolding Stands
one_widens items sizes f i =
    elim (cases_lt (slice_index sizes i) (largest (item_at items i).forms)) [
      | inr top ↦ inl (λ lt. absurd (omega arith))
      | inl below ↦ elim (cases_Bool (reaches (half (item_at items i).forms (slice_index sizes i)) (item_at items i).addend (distance_of items sizes i))) [
        | inl far ↦ inl (λ lt. reaches_tested (half (item_at items i).forms (slice_index sizes i)) (item_at items i).addend (distance_of items sizes i) far)
        | inr short ↦ inr (doubles items sizes i f below (λ here.
            let passes = reaches_passes (half (item_at items i).forms (slice_index sizes i)) (item_at items i).addend (distance_of items sizes i) here in
            cc))
      ]
    ]

-- a family is good, or a statement may be widened
pub good_or_widens : (items : List Item) (sizes : List ℕ) → IsFamily items sizes → IsGood items sizes ⊎ ((i : ℕ) × MayWiden items sizes i (2 * slice_index sizes i))
unfolding Stands
good_or_widens items sizes f =
    elim (all_or_one (Stands items sizes) (λ i. MayWiden items sizes i (2 * slice_index sizes i)) (one_widens items sizes f) (length items)) [
      | inr found ↦ inr found
      | inl all ↦ inl (record {
        family = f;
        reaching = λ i lt. elim (cases_lt i (length items)) [
          | inl within ↦ all i within lt
          | inr past ↦
              let settled : largest (item_at items i).forms ≡ 0 = ap (λ item. largest item.forms) (get_or_past items i _ past) in
              absurd (omega arith)
        ];
      })
    ]

pub least_good_exists : (items : List Item) → (sizes : List ℕ) × IsLeastGood items sizes
least_good_exists items =
    let found = steps_end (widening items) (IsGood items) (λ sizes f. elim (good_or_widens items sizes f) [ inl good ↦ inl good | inr may ↦ inr (may.0, (2 * slice_index sizes may.0, may.1)) ]) in
    (found.0, widened_least items found.0 found.1.0 found.1.1.0 found.1.1.1)
