-- Offers in the order of their files and groups: where a file or a group begins and ends.

use Rattle.std.proofs.Common.{◌≡◌, inl, inr, ℕ, ◌<◌, ◌≤◌, Bool, true, false, List, length, map, nat_lt, nat_le, slice_index_or, max, Some, sym, ap, ◌∙◌, arith}
use Rattle.std.specs.Prelude.{◌&&◌, ◌==◌}
use Rattle.std.specs.List.{slice_get}
use Rattle.std.specs.List.Sorted.{IsNonDecreasingBy, IsPartitionPoint}
use Rattle.std.proofs.lemmas.Bool.{cases_lt, ltb-true, ltb-false, leb-true, leb-false, eqb-true, eq-eqb, le-leb}
use Rattle.rv_list_laws.proofs.TruthLemmas.{and_first}
use Rattle.rv_list_laws.proofs.ElementsLemmas.{get_index_or, index_or_get}
use Rattle.rv_list_laws.proofs.MapLemmas.{get_map, get_unmap}
use Rattle.rv_archive_laws.specs.Taken as laws
use Rattle.rv_inputs.specs.declared.offer.Offer.{Offer}
use Rattle.rv_inputs.specs.Filed.{AreFiled, IsCut}
use Rattle.rv_inputs.specs.Looking.{Meets}
use Rattle.rv_inputs.specs.Plain.{plain_offer}
use Rattle.rv_inputs.proofs.ChainLemmas.{get_inside}
use Rattle.rv_inputs.proofs.StateLemmas.{both_second, both_true}

-- ---- in order

pub files_rise : (xs : List Offer) → AreFiled (map plain_offer xs) → IsNonDecreasingBy (λ (x : Offer). x.file) xs
files_rise xs filed = λ a b d le less.
    filed.files a b (plain_offer (slice_index_or xs a d)) (plain_offer (slice_index_or xs b d)) le
    (get_map plain_offer xs a (slice_index_or xs a d) (get_index_or xs a d (omega (arith, le, less)))) (get_map plain_offer xs b (slice_index_or xs b d) (get_index_or xs b d less))

pub groups_rise : (xs : List Offer) → AreFiled (map plain_offer xs) → IsNonDecreasingBy (λ (x : Offer). x.group) xs
groups_rise xs filed = λ a b d le less.
    filed.groups a b (plain_offer (slice_index_or xs a d)) (plain_offer (slice_index_or xs b d)) le
    (get_map plain_offer xs a (slice_index_or xs a d) (get_index_or xs a d (omega (arith, le, less)))) (get_map plain_offer xs b (slice_index_or xs b d) (get_index_or xs b d less))

pub cut_is : (p : laws.Offer → Bool) (xs : List Offer) (k : ℕ) → IsPartitionPoint (λ (y : Offer). p (plain_offer y) ≡ true) (λ (y : Offer). p (plain_offer y) ≡ false) xs k → IsCut p (map plain_offer xs) k
cut_is p xs k point = record {
  before = λ i x here less.
      let u = get_unmap plain_offer xs i x here in
      let at = point.0 i u.0 (omega arith) less in
      sym (ap p (ap plain_offer (index_or_get xs i u.0 u.0 u.1) ∙ u.2)) ∙ at;
  behind = λ i x here le.
      let u = get_unmap plain_offer xs i x here in
      let at = point.1 i u.0 le (get_inside xs i u.0 u.1) in
      sym (ap p (ap plain_offer (index_or_get xs i u.0 u.0 u.1) ∙ u.2)) ∙ at;
}

-- ---- where a file begins and ends, and a group

module _ (key : laws.Offer → ℕ) (bound : ℕ) (offers : List laws.Offer) (k i : ℕ) (o : laws.Offer) (here : slice_get offers i ≡ Some o) where
  pub starts_by : IsCut (λ x. nat_lt (key x) bound) offers k → bound ≤ key o → k ≤ i
  starts_by cut le =
      elim (cases_lt i k) [
        | inl less ↦ (let low = ltb-true (key o) bound (cut.before i o here less) in absurd (omega (arith, low, le)))
        | inr after ↦ after
      ]

  pub start_of : IsCut (λ x. nat_lt (key x) bound) offers k → k ≤ i → bound ≤ key o
  start_of cut le = ltb-false (key o) bound (cut.behind i o here le)

  pub ends_by : IsCut (λ x. nat_le (key x) bound) offers k → key o ≤ bound → i < k
  ends_by cut le =
      elim (cases_lt i k) [
        | inl less ↦ less
        | inr after ↦ (let high = leb-false (key o) bound (cut.behind i o here after) in absurd (omega (arith, high, le)))
      ]

  pub end_of : IsCut (λ x. nat_le (key x) bound) offers k → i < k → key o ≤ bound
  end_of cut less = leb-true (key o) bound (cut.before i o here less)

module _ (offers : List laws.Offer) (place file group fs fe gs ge : ℕ)
    (file_start : IsCut (λ o. nat_lt o.file file) offers fs) (file_end : IsCut (λ o. nat_le o.file file) offers fe)
    (group_start : IsCut (λ o. nat_lt o.group group) offers gs) (group_end : IsCut (λ o. nat_le o.group group) offers ge) where
  abbrev file_of : laws.Offer → ℕ
  file_of o = o.file

  abbrev group_of : laws.Offer → ℕ
  group_of o = o.group

  in_file : (i : ℕ) (o : laws.Offer) → slice_get offers i ≡ Some o → o.file ≡ file → (fs ≤ i) × (i < fe)
  in_file i o here same = (starts_by file_of file offers fs i o here file_start (omega (arith, same)), ends_by file_of file offers fe i o here file_end (omega (arith, same)))

  of_file : (i : ℕ) (o : laws.Offer) → slice_get offers i ≡ Some o → fs ≤ i → i < fe → o.file ≡ file
  of_file i o here low high = omega (arith, start_of file_of file offers fs i o here file_start low, end_of file_of file offers fe i o here file_end high)

  in_group : (i : ℕ) (o : laws.Offer) → slice_get offers i ≡ Some o → o.group ≡ group → (gs ≤ i) × (i < ge)
  in_group i o here same = (starts_by group_of group offers gs i o here group_start (omega (arith, same)), ends_by group_of group offers ge i o here group_end (omega (arith, same)))

  of_group : (i : ℕ) (o : laws.Offer) → slice_get offers i ≡ Some o → gs ≤ i → i < ge → o.group ≡ group
  of_group i o here low high = omega (arith, start_of group_of group offers gs i o here group_start low, end_of group_of group offers ge i o here group_end high)

  pub meets_rest : (m : ℕ) → m ≡ max place fs → Meets (λ o. nat_le place o.0 && o.1.file == file) (m, fe) offers
  meets_rest m is = record {
    inside = λ i o here test.
        let low = leb-true place i (and_first (nat_le place i) (o.file == file) test) in
        let in_it = in_file i o here (eqb-true o.file file (both_second (nat_le place i) (o.file == file) test)) in
        (omega (arith, low, in_it.0, is), in_it.1);
    all = λ i o here low high.
        both_true (nat_le place i) (o.file == file) (le-leb place i (omega (arith, low, is))) (eq-eqb o.file file (of_file i o here (omega (arith, low, is)) high));
  }

  pub meets_file : Meets (λ o. o.1.file == file) (fs, fe) offers
  meets_file = record {
    inside = λ i o here test. in_file i o here (eqb-true o.file file test);
    all = λ i o here low high. eq-eqb o.file file (of_file i o here low high);
  }

  pub meets_group_rest : (m : ℕ) → m ≡ max fs gs → Meets (λ o. nat_le file o.1.file && o.1.group == group) (m, ge) offers
  meets_group_rest m is = record {
    inside = λ i o here test.
        let low = starts_by file_of file offers fs i o here file_start (leb-true file o.file (and_first (nat_le file o.file) (o.group == group) test)) in
        let in_it = in_group i o here (eqb-true o.group group (both_second (nat_le file o.file) (o.group == group) test)) in
        (omega (arith, low, in_it.0, is), in_it.1);
    all = λ i o here low high.
        both_true (nat_le file o.file) (o.group == group) (le-leb file o.file (start_of file_of file offers fs i o here file_start (omega (arith, low, is))))
        (eq-eqb o.group group (of_group i o here (omega (arith, low, is)) high));
  }

  pub meets_group : Meets (λ o. o.1.group == group) (gs, ge) offers
  meets_group = record {
    inside = λ i o here test. in_group i o here (eqb-true o.group group test);
    all = λ i o here low high. eq-eqb o.group group (of_group i o here low high);
  }

  pub meets_left : (n : ℕ) → n ≡ length offers → Meets (λ o. nat_le group o.1.group) (gs, n) offers
  meets_left n is = record {
    inside = λ i o here test.
        (starts_by group_of group offers gs i o here group_start (leb-true group o.group test), (let within = get_inside offers i o here in omega (arith, within, is)));
    all = λ i o here low high. le-leb group o.group (start_of group_of group offers gs i o here group_start low);
  }
