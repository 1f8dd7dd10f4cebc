-- The offers at which a search looks stand in stretches of numbers, so the first number of a set in these is that of the first
-- offer that one comes to.

use Rattle.std.proofs.Common.{◌≡◌, inl, inr, ℕ, ◌+◌, ◌<◌, ◌≤◌, Bool, true, false, List, [], ◌∷◌, length, Option, Some, None, refl, subst, ◌∙◌, arith}
use Rattle.std.specs.Prelude.{◌&&◌, filter, flat_map, IfSome, MatchOption}
use Rattle.std.specs.BTreeSet.{BTreeSet, contains}
use Rattle.std.specs.List.{find, slice_get, enumerate_from}
use Rattle.std.specs.Ordering.{nat_cmp}
use Rattle.rv_list_laws.proofs.ElementsLemmas.{get_some}
use Rattle.rv_list_laws.proofs.FindLemmas.{find_both, find_front, find_join}
use Rattle.rv_archive_laws.specs.Taken as laws
use Rattle.rv_inputs.specs.Least.{HasNone, IsLeast, IsFirstIn}
use Rattle.rv_inputs.specs.Looking.{Meets, AreMet, EndBy}
use Rattle.rv_inputs.proofs.FindingLemmas.{enumerated_none, enumerated_first}

module _ (s : BTreeSet ℕ) (offers : List laws.Offer) where
  abbrev pub is_pending : ℕ × laws.Offer → Bool
  is_pending o = contains nat_cmp s o.0

  abbrev pub all_offers : List (ℕ × laws.Offer)
  all_offers = enumerate_from 0 offers

  fails_by : (a b : Bool) → (b ≡ true → a ≡ false) → (a && b) ≡ false
  fails_by true true fails = fails refl
  fails_by true false fails = refl
  fails_by false b fails = refl

  none_in : (test : ℕ × laws.Offer → Bool) (x : ℕ × ℕ) (k : ℕ) → Meets test x offers → ((q : ℕ) → x.0 ≤ q → q < k → contains nat_cmp s q ≡ false)
      → (i m : ℕ) (o : laws.Offer) → m ≡ 0 + i → i < k → slice_get offers i ≡ Some o → (is_pending (m, o) && test (m, o)) ≡ false
  none_in test x k meets none i m o at less here =
      let same : i ≡ m = omega (arith, at) in
      let there : slice_get offers m ≡ Some o = subst (λ n. slice_get offers n ≡ Some o) same here in
      fails_by (is_pending (m, o)) (test (m, o)) (λ passes.
      let within = meets.inside m o there passes in none m within.0 (omega (arith, less, same)))

  none_at_all : (test : ℕ × laws.Offer → Bool) (x : ℕ × ℕ) → Meets test x offers → HasNone s x.0 x.1
      → (i m : ℕ) (o : laws.Offer) → m ≡ 0 + i → slice_get offers i ≡ Some o → (is_pending (m, o) && test (m, o)) ≡ false
  none_at_all test x meets none i m o at here =
      let same : i ≡ m = omega (arith, at) in
      let there : slice_get offers m ≡ Some o = subst (λ n. slice_get offers n ≡ Some o) same here in
      fails_by (is_pending (m, o)) (test (m, o)) (λ passes.
      let within = meets.inside m o there passes in none m within.0 within.1)

  both_pass : (a b : Bool) → a ≡ true → b ≡ true → (a && b) ≡ true
  both_pass true true a b = refl
  both_pass true false a b = b
  both_pass false true a b = a
  both_pass false false a b = a

  stretch_none : (test : ℕ × laws.Offer → Bool) (x : ℕ × ℕ) → Meets test x offers → HasNone s x.0 x.1 → find is_pending (filter test all_offers) ≡ None
  stretch_none test x meets none =
      find_both is_pending test all_offers
      ∙ enumerated_none (λ o. is_pending o && test o) 0 offers (none_at_all test x meets none)

  stretch_first : (test : ℕ × laws.Offer → Bool) (x : ℕ × ℕ) (k : ℕ) → Meets test x offers → x.1 ≤ length offers → IsLeast s x.0 x.1 k
      → (o : laws.Offer) × (find is_pending (filter test all_offers) ≡ Some (k, o))
  stretch_first test x k meets within least =
      let there = get_some offers k (omega (arith, least.high, within)) in (
        there.0,
        find_both is_pending test all_offers
            ∙ enumerated_first (λ o. is_pending o && test o) 0 offers k k there.0 (omega arith) there.1
            (both_pass (is_pending (k, there.0)) (test (k, there.0)) least.member (meets.all k there.0 there.1 least.low least.high))
            (none_in test x k meets least.least),
      )

  abbrev pub looked : List (ℕ × laws.Offer → Bool) → List (ℕ × laws.Offer)
  looked tests = flat_map (λ test. filter test all_offers) tests

  pub all_none : (tests : List (ℕ × laws.Offer → Bool)) (xs : List (ℕ × ℕ)) → AreMet tests xs offers → IsFirstIn s xs None → find is_pending (looked tests) ≡ None
  all_none [] [] met first = refl
  all_none [] (x ∷ xs) met first = absurd met
  all_none (test ∷ tests) [] met first = absurd met
  all_none (test ∷ tests) (x ∷ xs) met first =
      find_join is_pending (filter test all_offers) (looked tests) (stretch_none test x met.0 first.0) ∙ all_none tests xs met.1 first.1

  pub all_first : (tests : List (ℕ × laws.Offer → Bool)) (xs : List (ℕ × ℕ)) (k : ℕ) → AreMet tests xs offers → EndBy xs (length offers) → IsFirstIn s xs (Some k)
      → (o : laws.Offer) × (find is_pending (looked tests) ≡ Some (k, o))
  all_first [] [] k met ends first = absurd first
  all_first [] (x ∷ xs) k met ends first = absurd met
  all_first (test ∷ tests) [] k met ends first = absurd met
  all_first (test ∷ tests) (x ∷ xs) k met ends first =
      elim first [
        | inl least ↦
            let here = stretch_first test x k met.0 ends.0 least in
            (here.0, find_front is_pending (filter test all_offers) (looked tests) (k, here.0) here.1)
        | inr behind ↦
            let there = all_first tests xs k met.1 ends.1 behind.1 in
            (there.0, find_join is_pending (filter test all_offers) (looked tests) (stretch_none test x met.0 behind.0) ∙ there.1)
      ]

-- the number that is found lies below the end of the stretches
pub first_below : (s : BTreeSet ℕ) (xs : List (ℕ × ℕ)) (n k : ℕ) → EndBy xs n → IsFirstIn s xs (Some k) → k < n
first_below s [] n k ends first = absurd first
first_below s (x ∷ xs) n k ends first =
    elim first [
      | inl least ↦ omega (arith, least.high, ends.0)
      | inr behind ↦ first_below s xs n k ends.1 behind.1
    ]

pub below_by : (s : BTreeSet ℕ) (xs : List (ℕ × ℕ)) (n : ℕ) (r : Option ℕ) → EndBy xs n → IsFirstIn s xs r → IfSome r (λ k. k < n)
below_by s xs n None ends first = tt
below_by s xs n (Some k) ends first = first_below s xs n k ends first

-- the first number of the set is that of the first offer
pub first_pending_by : (s : BTreeSet ℕ) (offers : List laws.Offer) (tests : List (ℕ × laws.Offer → Bool)) (xs : List (ℕ × ℕ)) (r : Option ℕ) → AreMet tests xs offers → EndBy xs (length offers) → IsFirstIn s xs r
    → MatchOption r (find (is_pending s offers) (looked s offers tests) ≡ None) (λ i. (o : laws.Offer) × (find (is_pending s offers) (looked s offers tests) ≡ Some (i, o)))
first_pending_by s offers tests xs None met ends first = all_none s offers tests xs met first
first_pending_by s offers tests xs (Some k) met ends first = all_first s offers tests xs k met ends first
