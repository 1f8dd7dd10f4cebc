-- Single steps, in any order: what each keeps all keep, so they stay on one side of what no step passes; they are as few as what each adds; and where none is left they have ended.

use Rattle.std.proofs.Common.{◌≡◌, ◌⊎◌, inl, inr, ℕ, zero, suc, ◌+◌, ◌*◌, ◌≤◌, ◌<◌, Bool, true, false, cond, List, [], ◌∷◌, length, set, slice_index, slice_index_or, count_by, refl, subst, sym, ◌∙◌, arith}
use Rattle.std.proofs.lemmas.Bool.{cases_lt, cases_eq}
use Rattle.std.proofs.lemmas.List.{length-set, get_or-set_same, get_or-set_other, set_past, ext_get_or}
use Rattle.std.proofs.lemmas.List.Sums.{sum_by-cons}
use Rattle.rv_size_laws.specs.Offsets.{AtMost}
use Rattle.rv_size_laws.specs.Steps.{IsFamilyOf, SingleSteps, Unchanged, Changes, StepRounds, Begins, Goes_on, IsLook, Changed, Kept}

-- ---- a part that changes

pub set_either : (P : ℕ → ℕ → Type 0) (sizes : List ℕ) (i v : ℕ) → i < length sizes → P i v → (k : ℕ) → ((k ≡ i → ⊥) → P k (slice_index sizes k)) → P k (slice_index (set sizes i v) k)
set_either P sizes i v lt here k others = elim (cases_eq k i) [
  | inl same ↦ subst (λ j. P j (slice_index (set sizes i v) j)) (sym same) (subst (P i) (sym (get_or-set_same sizes i v 0 lt)) here)
  | inr other ↦ subst (P k) (sym (get_or-set_other sizes i k v 0 other)) (others other)
]

pub set_holds : (P : ℕ → ℕ → Type 0) (sizes : List ℕ) (i v : ℕ) → ((k : ℕ) → P k (slice_index sizes k)) → P i v → (k : ℕ) → P k (slice_index (set sizes i v) k)
set_holds P sizes i v all one k = elim (cases_lt i (length sizes)) [
  | inl within ↦ set_either P sizes i v within one k (λ other. all k)
  | inr past ↦ subst (λ s. P k (slice_index s k)) (sym (set_past sizes i v past)) (all k)
]

pub set_family : {parts : ℕ} {Offered : ℕ → ℕ → Type 0} (sizes : List ℕ) (i new : ℕ) → IsFamilyOf parts Offered sizes → Offered i new → IsFamilyOf parts Offered (set sizes i new)
set_family {Offered = Offered} sizes i new f offered = record {
  same_length = length-set sizes i new ∙ f.same_length;
  offered = set_holds Offered sizes i new f.offered offered;
}

-- ---- what all parts weigh

abbrev pub weights : (ℕ → ℕ → ℕ) → List ℕ → ℕ
weights weight [] = 0
weights weight (size ∷ sizes) = weight 0 size + weights (λ i. weight (suc i)) sizes

weights_set : (weight : ℕ → ℕ → ℕ) (sizes : List ℕ) (i new : ℕ) → i < length sizes
    → weights weight (set sizes i new) + weight i (slice_index sizes i) ≡ weights weight sizes + weight i new
weights_set weight [] i new lt = absurd (omega arith)
weights_set weight (size ∷ sizes) zero new lt = omega arith
weights_set weight (size ∷ sizes) (suc i) new lt =
    let rest : weights (λ k. weight (suc k)) (set sizes i new) + weight (suc i) (slice_index sizes i) ≡ weights (λ k. weight (suc k)) sizes + weight (suc i) new =
    weights_set (λ k. weight (suc k)) sizes i new (omega arith) in
    omega arith

-- at most two for each part that a test counts
pub weights_most : {A : Type 0} (test : A → Bool) (parts : List A) (none : A) (weight : ℕ → ℕ → ℕ) (sizes : List ℕ) → length sizes ≡ length parts
    → ((i : ℕ) → weight i (slice_index sizes i) ≤ 2 * cond (test (slice_index_or parts i none)) 1 0) → weights weight sizes ≤ 2 * count_by test parts
weights_most test parts none weight [] same most = omega arith
weights_most test [] none weight (size ∷ sizes) same most = absurd (omega arith)
weights_most test (part ∷ parts) none weight (size ∷ sizes) same most =
    let rest : weights (λ i. weight (suc i)) sizes ≤ 2 * count_by test parts = weights_most test parts none (λ i. weight (suc i)) sizes (omega arith) (λ i. most (suc i)) in
    let one : weight 0 size ≤ 2 * cond (test part) 1 0 = most zero in
    let counted : count_by test (part ∷ parts) ≡ cond (test part) 1 0 + count_by test parts = sum_by-cons (λ x. cond (test x) 1 0) part parts in
    omega arith

-- ---- one after the other, and rounds of them

pub steps_joined : {May : List ℕ → ℕ → ℕ → Type 0} {from old : List ℕ} {m : ℕ} (sizes : List ℕ) (n : ℕ) → SingleSteps May from old m → SingleSteps May old sizes n → SingleSteps May from sizes (m + n)
steps_joined {May = May} {from = from} {old = old} _ _ a Unchanged = subst (SingleSteps May from old) (omega arith) a
steps_joined {May = May} {from = from} {m = m} _ _ a (Changes sizes n i new before may) =
    subst (SingleSteps May from (set sizes i new)) (omega arith) (Changes sizes (m + n) i new (steps_joined sizes n a before) may)

pub rounds_step : {May : List ℕ → ℕ → ℕ → Type 0} {from : List ℕ} (sizes : List ℕ) (r : ℕ) → StepRounds May from sizes r → (n : ℕ) × ((r ≤ n) × SingleSteps May from sizes n)
rounds_step _ _ Begins = (0, (omega arith, Unchanged))
rounds_step _ _ (Goes_on old new r n before more some) =
    let first = rounds_step old r before in
    let few : r ≤ first.0 = first.1.0 in
    (first.0 + n, (omega arith, steps_joined new n first.1.1 more))

pub one_round_more : {May : List ℕ → ℕ → ℕ → Type 0} {from old new : List ℕ} {r n : ℕ} → StepRounds May from old r → SingleSteps May old new n → 0 < n → StepRounds May from new (r + 1)
one_round_more {May = May} {from = from} {old = old} {new = new} {r = r} {n = n} rounds more some = subst (StepRounds May from new) (omega arith) (Goes_on old new r n rounds more some)

pub round_and_steps : {May : List ℕ → ℕ → ℕ → Type 0} {from old : List ℕ} {r : ℕ} (new : List ℕ) (n : ℕ) → StepRounds May from old r → SingleSteps May old new n → (m : ℕ) × SingleSteps May from new m
round_and_steps {old = old} {r = r} new n rounds more = let found = rounds_step old r rounds in (found.0 + n, steps_joined new n found.1.1 more)

-- ---- steps

-- steps of a family: each gives a part that is there a size that it offers, and adds to what the parts weigh
pub record AreSteps (parts : ℕ) (Offered : ℕ → ℕ → Type 0) (May : List ℕ → ℕ → ℕ → Type 0) (from : List ℕ) (weight : ℕ → ℕ → ℕ) (most : ℕ) : Type 0 where
  pub begins : IsFamilyOf parts Offered from
  pub offered : (sizes : List ℕ) (i new : ℕ) → May sizes i new → Offered i new
  pub within : (sizes : List ℕ) (i new : ℕ) → IsFamilyOf parts Offered sizes → May sizes i new → i < parts
  pub adds : (sizes : List ℕ) (i new : ℕ) → IsFamilyOf parts Offered sizes → May sizes i new → weight i (slice_index sizes i) < weight i new
  pub bounded : (sizes : List ℕ) → IsFamilyOf parts Offered sizes → weights weight sizes ≤ most

module _ {parts : ℕ} {Offered : ℕ → ℕ → Type 0} {May : List ℕ → ℕ → ℕ → Type 0} {from : List ℕ} {weight : ℕ → ℕ → ℕ} {most : ℕ} (are : AreSteps parts Offered May from weight most) where
  pub steps_family : (sizes : List ℕ) (n : ℕ) → SingleSteps May from sizes n → IsFamilyOf parts Offered sizes
  steps_family _ _ Unchanged = are.begins
  steps_family _ _ (Changes sizes n i new before may) = set_family sizes i new (steps_family sizes n before) (are.offered sizes i new may)

  -- what each step keeps
  pub steps_keep : (P : List ℕ → Type 0) → ((sizes : List ℕ) (i new : ℕ) → IsFamilyOf parts Offered sizes → P sizes → May sizes i new → P (set sizes i new))
      → P from → (sizes : List ℕ) (n : ℕ) → SingleSteps May from sizes n → P sizes
  steps_keep P keeps start _ _ Unchanged = start
  steps_keep P keeps start _ _ (Changes sizes n i new before may) = keeps sizes i new (steps_family sizes n before) (steps_keep P keeps start sizes n before) may

  -- part by part: a bound that no step passes, no sequence of them does
  pub steps_hold : (P : ℕ → ℕ → Type 0)
      → ((sizes : List ℕ) (i new : ℕ) → IsFamilyOf parts Offered sizes → ((k : ℕ) → P k (slice_index sizes k)) → May sizes i new → P i new)
      → ((k : ℕ) → P k (slice_index from k)) → (sizes : List ℕ) (n : ℕ) → SingleSteps May from sizes n → (k : ℕ) → P k (slice_index sizes k)
  steps_hold P holds = steps_keep (λ sizes. (k : ℕ) → P k (slice_index sizes k)) (λ sizes i new f before may. set_holds P sizes i new before (holds sizes i new f before may))

  steps_weigh : (sizes : List ℕ) (n : ℕ) → SingleSteps May from sizes n → n ≤ weights weight sizes
  steps_weigh _ _ Unchanged = omega arith
  steps_weigh _ _ (Changes sizes n i new before may) =
      let f : IsFamilyOf parts Offered sizes = steps_family sizes n before in
      let so_far : n ≤ weights weight sizes = steps_weigh sizes n before in
      let moved : weights weight (set sizes i new) + weight i (slice_index sizes i) ≡ weights weight sizes + weight i new =
      weights_set weight sizes i new (omega (arith, are.within sizes i new f may, f.same_length)) in
      let more : weight i (slice_index sizes i) < weight i new = are.adds sizes i new f may in
      omega arith

  pub steps_few : (sizes : List ℕ) (n : ℕ) → SingleSteps May from sizes n → n ≤ most
  steps_few sizes n steps = omega (arith, steps_weigh sizes n steps, are.bounded sizes (steps_family sizes n steps))

  pub rounds_few : (sizes : List ℕ) (r : ℕ) → StepRounds May from sizes r → r ≤ most
  rounds_few sizes r rounds = let found = rounds_step sizes r rounds in omega (arith, found.1.0, steps_few sizes found.0 found.1.1)

  -- they go on until none is left
  ends_from : (Ended : List ℕ → Type 0) → ((sizes : List ℕ) → IsFamilyOf parts Offered sizes → Ended sizes ⊎ ((i : ℕ) × ((new : ℕ) × May sizes i new)))
      → (fuel : ℕ) (sizes : List ℕ) (n : ℕ) → SingleSteps May from sizes n → most < n + fuel
      → (sizes : List ℕ) × ((n : ℕ) × (SingleSteps May from sizes n × Ended sizes))
  ends_from Ended ends_or zero sizes n steps e = absurd (omega (arith, e, steps_few sizes n steps))
  ends_from Ended ends_or (suc fuel) sizes n steps e =
      elim (ends_or sizes (steps_family sizes n steps)) [
        | inl ended ↦ (sizes, (n, (steps, ended)))
        | inr found ↦ ends_from Ended ends_or fuel (set sizes found.0 found.1.0) (suc n) (Changes sizes n found.0 found.1.0 steps found.1.1) (omega arith)
      ]

  pub steps_end : (Ended : List ℕ → Type 0) → ((sizes : List ℕ) → IsFamilyOf parts Offered sizes → Ended sizes ⊎ ((i : ℕ) × ((new : ℕ) × May sizes i new)))
      → (sizes : List ℕ) × ((n : ℕ) × (SingleSteps May from sizes n × Ended sizes))
  steps_end Ended ends_or = ends_from Ended ends_or (suc most) from 0 Unchanged (omega arith)

-- ---- a pass that looks at one part after the other

-- so many steps, and where there were none, each part from low on and below high stays
pub record Goes (May : List ℕ → ℕ → ℕ → Type 0) (Stays : List ℕ → ℕ → Type 0) (old now : List ℕ) (count low high : ℕ) : Type 0 where
  pub steps : SingleSteps May old now count
  pub settled : count ≡ 0 → (now ≡ old) × ((j : ℕ) → low ≤ j → j < high → Stays now j)

module _ {May : List ℕ → ℕ → ℕ → Type 0} {Stays : List ℕ → ℕ → Type 0} where
  pub goes_begins : (old : List ℕ) (low high : ℕ) → high ≤ low → Goes May Stays old old 0 low high
  goes_begins old low high none = record { steps = Unchanged; settled = λ e. (refl, λ j a b. absurd (omega arith)) }

  pub goes_changed : {old now new : List ℕ} {n i low high : ℕ} {told : Bool} (low' high' : ℕ) → Goes May Stays old now n low high → IsLook May Stays i now new told → told ≡ true
      → Goes May Stays old new (n + 1) low' high'
  goes_changed {old = old} {now = now} {n = n} {i = i} low' high' goes (Changed size may) e =
      record { steps = subst (SingleSteps May old (set now i size)) (omega arith) (Changes now n i size goes.steps may); settled = λ e. absurd (omega arith) }
  goes_changed low' high' goes (Kept stays) e = absurd (cc)

  pub goes_kept : {old now new : List ℕ} {n i low high : ℕ} {told : Bool} (low' high' : ℕ) → Goes May Stays old now n low high → IsLook May Stays i now new told → told ≡ false
      → ((j : ℕ) → low' ≤ j → j < high' → ((low ≤ j) × (j < high)) ⊎ (j ≡ i)) → Goes May Stays old new n low' high'
  goes_kept low' high' goes (Changed size may) e either = absurd (cc)
  goes_kept {now = now} low' high' goes (Kept stays) e either = record {
    steps = goes.steps;
    settled = λ none. let before = goes.settled none in (
      before.0,
      λ j a b. elim (either j a b) [
        | inl earlier ↦ before.1 j earlier.0 earlier.1
        | inr here ↦ subst (Stays now) (sym here) stays
      ],
    );
  }

-- ---- lists of parts

-- all parts stay, or one may change
pub all_or_one : (Stays Moves : ℕ → Type 0) → ((i : ℕ) → Stays i ⊎ Moves i) → (n : ℕ) → ((i : ℕ) → i < n → Stays i) ⊎ ((i : ℕ) × Moves i)
all_or_one Stays Moves each zero = inl (λ i lt. absurd (omega arith))
all_or_one Stays Moves each (suc n) =
    elim (all_or_one Stays Moves each n) [
      | inr found ↦ inr found
      | inl before ↦ elim (each n) [
        | inr here ↦ inr (n, here)
        | inl stays ↦ inl (λ i lt. elim (cases_eq i n) [
          | inl same ↦ subst Stays (sym same) stays
          | inr other ↦ before i (omega arith)
        ])
      ]
    ]

pub at_most_both : (a b : List ℕ) → length a ≡ length b → AtMost a b → AtMost b a → a ≡ b
at_most_both a b same up down = ext_get_or 0 a b same (λ i lt. omega (arith, up i, down i))
