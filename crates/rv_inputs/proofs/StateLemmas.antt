-- What a search knows, when an object is taken, and what it comes to next.

use Rattle.std.proofs.Common.{◌≡◌, ◌⊎◌, inl, inr, ℕ, zero, suc, ◌+◌, Bool, true, false, not, List, [], ◌∷◌, ◌++◌, map, Option, Some, None, refl, sym, ap, subst, ◌∙◌, arith}
use Rattle.std.specs.Prelude.{◌||◌, ◌&&◌, nat_eq, filter, flat_map}
use Rattle.std.specs.BTreeSet.{BTreeSet, contains}
use Rattle.std.specs.List.{find, list_any, slice_get, enumerate_from, AllByRecursion}
use Rattle.std.specs.Ordering.{nat_cmp}
use Rattle.std.proofs.lemmas.Bool.{true≢false}
use Rattle.std.proofs.lemmas.List.Folds.{list_any-append}
use Rattle.rv_list_laws.proofs.TruthLemmas.{and_first, or_false_back}
use Rattle.rv_list_laws.proofs.EachLemmas.{each_append}
use Rattle.rv_list_laws.proofs.FilterLemmas.{each_filter}
use Rattle.rv_list_laws.proofs.FindLemmas.{each_found}
use Rattle.rv_archive_laws.specs.Taken as laws
use Rattle.rv_inputs.specs.declared.offer.Offer.{Offer}
use Rattle.rv_inputs.specs.Naming.{offer_name}
use Rattle.rv_inputs.specs.Plain.{plain_offer}
use Rattle.rv_inputs.proofs.FindingLemmas.{find_fewer, find_fewer_none, enumerated}
use Rattle.rv_inputs.proofs.StandingLemmas.{or_three}

-- ---- names of offers

pub name_there : (xs : List Offer) (j : ℕ) (o : laws.Offer) → slice_get (map plain_offer xs) j ≡ Some o → slice_get (map offer_name xs) j ≡ Some o.name
name_there [] j o is = cc
name_there (x ∷ xs) zero o is = let same : plain_offer x ≡ o = cc in ap (λ (p : laws.Offer). Some p.name) same
name_there (x ∷ xs) (suc j) o is = name_there xs j o is

-- ---- one object more

open_parts : (w u g d : Bool) → ((w || u) && not (g || d)) ≡ true → ((w && not g) ≡ true) ⊎ ((u ≡ true) × (w ≡ false) × ((g || d) ≡ false))
open_parts true u true d is = absurd (true≢false (sym is))
open_parts true u false true is = absurd (true≢false (sym is))
open_parts true u false false is = inl refl
open_parts false true true d is = absurd (true≢false (sym is))
open_parts false true false true is = absurd (true≢false (sym is))
open_parts false true false false is = inr (refl, refl, refl)
open_parts false false g d is = absurd (true≢false (sym is))

pub both_second : (a b : Bool) → (a && b) ≡ true → b ≡ true
both_second true b is = is
both_second false b is = absurd (true≢false (sym is))

pub both_true : (a b : Bool) → a ≡ true → b ≡ true → (a && b) ≡ true
both_true true b a here = here
both_true false b a here = absurd (true≢false (sym a))

not_either : (a b : Bool) → not (a || b) ≡ true → not a ≡ true
not_either true b is = is
not_either false b is = refl

module _ (names_of : ℕ → laws.ObjectNames) (wanted : List (List ℕ)) (taken : List ℕ) (object : ℕ) (names : laws.ObjectNames) (known : names ≡ names_of object) where
  pub given_now : (q : List ℕ) → (laws.is_given names_of wanted taken q || laws.has_name names.defined q) ≡ laws.is_given names_of wanted (taken ++ object ∷ []) q
  given_now q =
      ap (λ b. laws.is_given names_of wanted taken q || b) (ap (λ (n : laws.ObjectNames). laws.has_name n.defined q) known ∙ or_false_back (laws.has_name (names_of object).defined q))
      ∙ sym (list_any-append (λ o. laws.has_name (names_of o).defined q) taken (object ∷ []))

  pub wanted_now : (q : List ℕ) → (laws.is_wanted names_of wanted taken q || laws.has_name names.undefined q) ≡ laws.is_wanted names_of wanted (taken ++ object ∷ []) q
  wanted_now q =
      or_three (laws.has_name wanted q) (list_any (λ o. laws.has_name (names_of o).undefined q) taken) (laws.has_name names.undefined q)
      ∙ ap (λ b. laws.has_name wanted q || (list_any (λ o. laws.has_name (names_of o).undefined q) taken || b)) (ap (λ (n : laws.ObjectNames). laws.has_name n.undefined q) known ∙ or_false_back (laws.has_name (names_of object).undefined q))
      ∙ ap (λ b. laws.has_name wanted q || b) (sym (list_any-append (λ o. laws.has_name (names_of o).undefined q) taken (object ∷ [])))

  -- an offer that is due then was due, or has a name that is wanted from now on
  abbrev pub IsNew : List ℕ → Type 0
  IsNew q = (laws.has_name names.undefined q ≡ true) × (laws.is_wanted names_of wanted taken q ≡ false) × ((laws.is_given names_of wanted taken q || laws.has_name names.defined q) ≡ false)

  free_before : (o : laws.Offer) → not (list_any (nat_eq o.object) (taken ++ object ∷ [])) ≡ true → not (list_any (nat_eq o.object) taken) ≡ true
  free_before o is = not_either (list_any (nat_eq o.object) taken) (list_any (nat_eq o.object) (object ∷ [])) (ap not (sym (list_any-append (nat_eq o.object) taken (object ∷ []))) ∙ is)

  open_now : (q : List ℕ) → ((laws.is_wanted names_of wanted taken q || laws.has_name names.undefined q) && not (laws.is_given names_of wanted taken q || laws.has_name names.defined q)) ≡ laws.is_open names_of wanted (taken ++ object ∷ []) q
  open_now q = λ i. wanted_now q i && not (given_now q i)

  due_by : (o : laws.Offer) (name : Option (List ℕ)) → o.name ≡ name → (laws.is_asked names_of wanted (taken ++ object ∷ []) name && not (list_any (nat_eq o.object) (taken ++ object ∷ []))) ≡ true
      → ((laws.is_asked names_of wanted taken name && not (list_any (nat_eq o.object) taken)) ≡ true) ⊎ ((q : List ℕ) × (name ≡ Some q) × IsNew q)
  due_by o None at is = inl (free_before o (both_second true _ is))
  due_by o (Some q) at is =
      let free = free_before o (both_second (laws.is_open names_of wanted (taken ++ object ∷ []) q) _ is) in
      elim (open_parts (laws.is_wanted names_of wanted taken q) (laws.has_name names.undefined q) (laws.is_given names_of wanted taken q) (laws.has_name names.defined q) (open_now q ∙ and_first (laws.is_open names_of wanted (taken ++ object ∷ []) q) _ is)) [
        | inl open_before ↦ inl (both_true (laws.is_open names_of wanted taken q) _ open_before free)
        | inr new ↦ inr (q, refl, new)
      ]

  pub due_before : (o : laws.Offer) → laws.is_due names_of wanted (taken ++ object ∷ []) o ≡ true → (laws.is_due names_of wanted taken o ≡ true) ⊎ ((q : List ℕ) × (o.name ≡ Some q) × IsNew q)
  due_before o is = due_by o o.name refl is

-- ---- at the start

module _ (names_of : ℕ → laws.ObjectNames) (wanted : List (List ℕ)) (xs : List Offer) (pending : BTreeSet ℕ)
    (nameless : (j : ℕ) → slice_get (map offer_name xs) j ≡ Some None → contains nat_cmp pending j ≡ true)
    (named : (j : ℕ) (q : List ℕ) → slice_get (map offer_name xs) j ≡ Some (Some q) → laws.has_name wanted q ≡ true → contains nat_cmp pending j ≡ true) where
  from_start_by : (i : ℕ) (o : laws.Offer) (name : Option (List ℕ)) → slice_get (map offer_name xs) i ≡ Some name → (laws.is_asked names_of wanted [] name && not (list_any (nat_eq o.object) [])) ≡ true
      → contains nat_cmp pending i ≡ true
  from_start_by i o None here is = nameless i here
  from_start_by i o (Some q) here is =
      named i q here (or_false_back (laws.has_name wanted q) ∙ and_first (laws.has_name wanted q || false) _ (and_first ((laws.has_name wanted q || false) && true) _ is))

  pub due_from_start : (i : ℕ) (o : laws.Offer) → slice_get (map plain_offer xs) i ≡ Some o → laws.is_due names_of wanted [] o ≡ true → contains nat_cmp pending i ≡ true
  due_from_start i o here is = from_start_by i o o.name (name_there xs i o here) is

-- ---- what comes next

place_same : (i m : ℕ) → m ≡ 0 + i → i ≡ m
place_same i m is = omega (arith, is)

module _ (offers : List laws.Offer) (at : laws.Position) where
  abbrev pub looked : List (ℕ × laws.Offer)
  looked = laws.looked_at at (enumerate_from 0 offers)

  each_of : (P : ℕ × laws.Offer → Type 0) (tests : List (ℕ × laws.Offer → Bool)) → AllByRecursion P (enumerate_from 0 offers) → AllByRecursion P (flat_map (λ test. filter test (enumerate_from 0 offers)) tests)
  each_of P [] each = tt
  each_of P (test ∷ tests) each = each_append P (filter test (enumerate_from 0 offers)) (flat_map (λ t. filter t (enumerate_from 0 offers)) tests) (each_filter P test (enumerate_from 0 offers) each) (each_of P tests each)

  pub each_looked : (P : ℕ × laws.Offer → Type 0) → ((i : ℕ) (o : laws.Offer) → slice_get offers i ≡ Some o → P (i, o)) → AllByRecursion P looked
  each_looked P each =
      each_of P (laws.stretches at)
      (enumerated P 0 offers (λ i m o is here. each m o (subst (λ n. slice_get offers n ≡ Some o) (place_same i m is) here)))

  pub found_there : (p : ℕ × laws.Offer → Bool) (i : ℕ) (o : laws.Offer) → find p looked ≡ Some (i, o) → slice_get offers i ≡ Some o
  found_there p i o is = each_found (λ (y : ℕ × laws.Offer). slice_get offers y.0 ≡ Some y.1) p looked (i, o) (each_looked _ (λ j x here. here)) is

  module _ (names_of : ℕ → laws.ObjectNames) (wanted : List (List ℕ)) (taken : List ℕ) (s : BTreeSet ℕ)
      (pending : (i : ℕ) (o : laws.Offer) → slice_get offers i ≡ Some o → laws.is_due names_of wanted taken o ≡ true → contains nat_cmp s i ≡ true) where
    due_pending : AllByRecursion (λ (y : ℕ × laws.Offer). laws.is_due names_of wanted taken y.1 ≡ true → contains nat_cmp s y.0 ≡ true) looked
    due_pending = each_looked (λ (y : ℕ × laws.Offer). laws.is_due names_of wanted taken y.1 ≡ true → contains nat_cmp s y.0 ≡ true) pending

    pub next_none : find (λ (y : ℕ × laws.Offer). contains nat_cmp s y.0) looked ≡ None → laws.next_offer names_of wanted offers at taken ≡ None
    unfolding laws.next_offer
    next_none is = find_fewer_none (λ (y : ℕ × laws.Offer). contains nat_cmp s y.0) (λ (y : ℕ × laws.Offer). laws.is_due names_of wanted taken y.1) looked due_pending is

    pub next_some : (i : ℕ) (o : laws.Offer) → find (λ (y : ℕ × laws.Offer). contains nat_cmp s y.0) looked ≡ Some (i, o) → laws.is_due names_of wanted taken o ≡ true
        → laws.next_offer names_of wanted offers at taken ≡ Some (i, o)
    unfolding laws.next_offer
    next_some i o is due = find_fewer (λ (y : ℕ × laws.Offer). contains nat_cmp s y.0) (λ (y : ℕ × laws.Offer). laws.is_due names_of wanted taken y.1) looked (i, o) due_pending due is
