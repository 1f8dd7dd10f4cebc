-- The next object of a search, and the offers that it takes out on the way there.

use Rattle.std.proofs.Common.{◌≡◌, ◌⊎◌, inl, inr, ℕ, zero, suc, ◌+◌, ◌<◌, Bool, true, false, not, List, length, map, slice_index_or, Some, None, refl, sym, ap, subst, ◌∙◌, arith}
use Rattle.std.specs.Prelude.{if◌then◌else◌}
use Rattle.std.specs.BTreeSet.{BTreeSet, contains, btree_set_len, UpdatesBy}
use Rattle.std.specs.List.{slice_get}
use Rattle.std.specs.Ordering.{nat_cmp}
use Rattle.std.proofs.lemmas.Bool.{true≢false}
use Rattle.rv_list_laws.proofs.FindLemmas.{find_test}
use Rattle.rv_list_laws.proofs.ElementsLemmas.{get_index_or}
use Rattle.rv_list_laws.proofs.MapLemmas.{get_map}
use Rattle.rv_archive_laws.specs.Taken as laws
use Rattle.rv_inputs.specs.declared.offer.Offer.{Offer}
use Rattle.rv_inputs.specs.declared.search.Search.{Search}
use Rattle.rv_inputs.specs.Left.{left, passing, IsFree}
use Rattle.rv_inputs.specs.Plain.{plain_offer}
use Rattle.rv_inputs.specs.State.{position_of, IsState, IsNext, IsFirstPending}
use Rattle.rv_inputs.proofs.FindingLemmas.{fewer_left}
use Rattle.rv_inputs.proofs.SetLemmas.{remove_keeps}
use Rattle.rv_inputs.proofs.StateLemmas.{found_there, looked, next_none, next_some}

pub offer_there : (xs : List Offer) (i : ℕ) (d : Offer) → i < length xs → slice_get (map plain_offer xs) i ≡ Some (plain_offer (slice_index_or xs i d))
offer_there xs i d less = get_map plain_offer xs i (slice_index_or xs i d) (get_index_or xs i d less)

-- ---- an offer that is not due is taken out

same_or_not : (i j : ℕ) → (i ≡ j) ⊎ (i ≡ j → ⊥)
same_or_not zero zero = inl refl
same_or_not zero (suc j) = inr (λ same. absurd (omega (arith, same)))
same_or_not (suc i) zero = inr (λ same. absurd (omega (arith, same)))
same_or_not (suc i) (suc j) =
    elim (same_or_not i j) [ inl same ↦ inl (ap suc same) | inr apart ↦ inr (λ same. apart (omega (arith, same))) ]

-- what is due stays among what may be due
pub still_pending : (names_of : ℕ → laws.ObjectNames) (wanted : List (List ℕ)) (taken : List ℕ) (offers : List laws.Offer) (s n : BTreeSet ℕ) (i : ℕ) (x : laws.Offer)
    → slice_get offers i ≡ Some x → laws.is_due names_of wanted taken x ≡ false → UpdatesBy nat_cmp (nat_cmp i) s n false
    → ((j : ℕ) (o : laws.Offer) → slice_get offers j ≡ Some o → laws.is_due names_of wanted taken o ≡ true → contains nat_cmp s j ≡ true)
    → (j : ℕ) (o : laws.Offer) → slice_get offers j ≡ Some o → laws.is_due names_of wanted taken o ≡ true → contains nat_cmp n j ≡ true
still_pending names_of wanted taken offers s n i x here not_due updates pending j o there due =
    elim (same_or_not i j) [
      | inl same ↦
          let at : Some x ≡ Some o = sym here ∙ ap (slice_get offers) same ∙ there in
          let is : x ≡ o = cc in
          absurd (true≢false (sym due ∙ sym (ap (laws.is_due names_of wanted taken) is) ∙ not_due))
      | inr apart ↦ remove_keeps s n i updates j apart ∙ pending j o there due
    ]

-- ---- the next one

pub first_there : (s : Search) (i : ℕ) → IsFirstPending s (Some i) → contains nat_cmp s.pending i ≡ true
first_there s i first = find_test (λ (y : ℕ × laws.Offer). contains nat_cmp s.pending y.0) (looked (map plain_offer s.offers.now) (position_of s)) (i, first.0) first.1

fewer_by : (b : Bool) (m n : ℕ) → b ≡ true → m + (if b then 1 else 0) ≡ n → m < n
fewer_by true m n here is = omega (arith, is)
fewer_by false m n here is = absurd (true≢false (sym here))

pub fewer_pending : (b : Bool) (s : Search) (n : BTreeSet ℕ) (i : ℕ) → b ≡ contains nat_cmp s.pending i → IsFirstPending s (Some i) → btree_set_len n + (if b then 1 else 0) ≡ btree_set_len s.pending
    → btree_set_len n < btree_set_len s.pending
fewer_pending b s n i test first is = fewer_by b (btree_set_len n) (btree_set_len s.pending) (test ∙ first_there s i first) is

module _ (names_of : ℕ → laws.ObjectNames) (wanted : List (List ℕ)) (taken : List ℕ) (s : Search) (state : IsState names_of wanted s taken) where
  abbrev offers_of : List laws.Offer
  offers_of = map plain_offer s.offers.now

  abbrev NextIn : laws.Position → ℕ → laws.Position → List laws.Offer → Type 0
  NextIn at object now offers = IsNext names_of wanted offers at taken object now

  pub is_next : (offers : List laws.Offer) (at now : laws.Position) (i : ℕ) (x : Offer) → offers_of ≡ offers → position_of s ≡ at → IsFirstPending s (Some i)
      → slice_get offers_of i ≡ Some (plain_offer x) → laws.is_due names_of wanted taken (plain_offer x) ≡ true → now ≡ laws.behind_offer (i, plain_offer x)
      → IsNext names_of wanted offers at taken x.object now
  is_next offers at now i x same there first here due now_is =
      let found = found_there offers_of (position_of s) (λ (y : ℕ × laws.Offer). contains nat_cmp s.pending y.0) i first.0 first.1 in
      let both : Some first.0 ≡ Some (plain_offer x) = sym found ∙ here in
      let is : first.0 ≡ plain_offer x = cc in
      let next = next_some offers_of (position_of s) names_of wanted taken s.pending state.pending i first.0 first.1 (ap (laws.is_due names_of wanted taken) is ∙ due) in
      let mine : NextIn (position_of s) x.object now offers_of = record {
        offer = (i, plain_offer x);
        next = next ∙ ap (λ (o : laws.Offer). Some (i, o)) is;
        object_is = refl;
        behind = now_is;
      } in
      subst (NextIn at x.object now) same (subst (λ p. NextIn p x.object now offers_of) there mine)

  pub is_last : (offers : List laws.Offer) (at : laws.Position) → offers_of ≡ offers → position_of s ≡ at → IsFirstPending s None → laws.next_offer names_of wanted offers at taken ≡ None
  is_last offers at same there first =
      let mine = next_none offers_of (position_of s) names_of wanted taken s.pending state.pending first in
      subst (λ os. laws.next_offer names_of wanted os at taken ≡ None) same (subst (λ p. laws.next_offer names_of wanted offers_of p taken ≡ None) there mine)

-- ---- how much is left

not_there : (a b : Bool) → (a ≡ true → b ≡ true) → not b ≡ true → not a ≡ true
not_there true b kept is = absurd (true≢false (sym is ∙ ap not (kept refl)))
not_there false b kept is = refl

-- an object is put among those taken
pub left_falls : (s : Search) (n : BTreeSet ℕ) (offers : List laws.Offer) (object : ℕ) → offers ≡ map plain_offer s.offers.now → IsFree s object
    → ((q : ℕ) → contains nat_cmp s.taken q ≡ true → contains nat_cmp n q ≡ true) → contains nat_cmp n object ≡ true
    → passing (λ o. not (contains nat_cmp n o.object)) offers < left s
left_falls s n offers object same free kept has =
    subst (λ os. passing (λ o. not (contains nat_cmp n o.object)) os < left s) (sym same)
    (fewer_left (λ (o : laws.Offer). not (contains nat_cmp s.taken o.object)) (λ (o : laws.Offer). not (contains nat_cmp n o.object)) (map plain_offer s.offers.now) free.place free.offer
    (λ o is. not_there (contains nat_cmp s.taken o.object) (contains nat_cmp n o.object) (kept o.object) is)
    free.there
    (ap not (ap (contains nat_cmp s.taken) free.object_is ∙ free.free))
    (ap not (ap (contains nat_cmp n) free.object_is ∙ has)))
