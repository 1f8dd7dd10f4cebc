-- Numeric labels whose places are kept in runs.

use Rattle.std.proofs.Common.{◌≡◌, ℕ, zero, suc, ◌+◌, ◌<◌, ◌≤◌, Bool, true, false, cond, ◌&&◌, nat_lt, nat_le, List, [], ◌∷◌, ◌++◌, length, slice_index_or, refl, sym, ap, ◌∙◌, subst, arith, Some, None, option_map}
use Rattle.std.specs.Prelude.{reverse, slice_get, unwrap_or}
use Rattle.std.specs.Option.{option_map_or}
use Rattle.std.specs.List.{find, list_all, AllWithin}
use Rattle.std.specs.List.Sorted.{IsNonDecreasingBy, IsPartitionPoint}
use Rattle.std.proofs.lemmas.Bool.{eqb-true, leb-true, leb-false, le-leb, ltb-true, lt-ltb, le-ltb, and_parts}
use Rattle.std.proofs.lemmas.List.{map-id}
use Rattle.rv_list_laws.proofs.FindLemmas.{find_same}
use Rattle.rv_unit_laws.proofs.BeforeLemmas.{falls}
use Rattle.rv_unit.specs.Sections.{zeros_offset}
use Rattle.rv_unit.specs.declared.section_offset.SectionOffset.{SectionOffset}
use Rattle.rv_unit.specs.declared.tables.NumericLabel.{NumericLabel}
use Rattle.rv_unit.specs.declared.numeric_labels.Run.{Run}
use Rattle.rv_unit.specs.NumericLabels.{are_runs, place_by_runs, label_by_runs, labels_from}
use Rattle.rv_unit.proofs.OrderedLemmas.{rises_of, rising}

-- ---- the runs

-- all begin before the end
all_begin : (rs : List Run) (count end : ℕ) → are_runs rs count ≡ true → count ≤ end → list_all (λ (r : Run). nat_lt r.first end) rs ≡ true
all_begin [] count end runs within = refl
all_begin (r ∷ rs) count end runs within =
    let both = and_parts (nat_lt r.first count) (are_runs rs r.first) runs in
    let first : r.first < count = ltb-true r.first count both.0 in
    ap (λ b. b && list_all (λ (q : Run). nat_lt q.first end) rs) (lt-ltb r.first end (omega arith))
    ∙ all_begin rs r.first end both.1 (omega arith)

runs_fall : (rs : List Run) (count : ℕ) → are_runs rs count ≡ true → falls (λ (r : Run). r.first) rs ≡ true
runs_fall [] count runs = refl
runs_fall (r ∷ rs) count runs =
    let both = and_parts (nat_lt r.first count) (are_runs rs r.first) runs in
    ap (λ b. b && falls (λ (q : Run). q.first) rs) (all_begin rs r.first r.first both.1 (omega arith)) ∙ runs_fall rs r.first both.1

-- in their order, the first comes first
pub runs_rise : (rs : List Run) (count : ℕ) → are_runs (reverse rs) count ≡ true → IsNonDecreasingBy (λ (r : Run). r.first) rs
runs_rise rs count runs =
    rising (λ (r : Run). r.first) rs (rises_of (λ (r : Run). r) (λ (r : Run). r.first) rs (ap (λ l. falls (λ (r : Run). r.first) (reverse l)) (map-id rs) ∙ runs_fall (reverse rs) count runs))

-- where there is a run, there is a label
pub some_labels : (rs : List Run) (p : SectionOffset) (count : ℕ) → option_map (λ (r : Run). r.place) (slice_get rs 0) ≡ Some p → are_runs rs count ≡ true → 0 < count
some_labels [] p count is runs = absurd (cc)
some_labels (r ∷ rs) p count is runs =
    let first : r.first < count = ltb-true r.first count (and_parts (nat_lt r.first count) (are_runs rs r.first) runs).0 in
    omega arith

-- one label more, in the last run
pub runs_longer : (rs : List Run) (count : ℕ) → 0 < count → are_runs rs count ≡ true → are_runs rs (count + 1) ≡ true
runs_longer [] count some runs = let none : count ≡ 0 = eqb-true count 0 runs in absurd (omega (arith, none, some))
runs_longer (r ∷ rs) count some runs =
    let both = and_parts (nat_lt r.first count) (are_runs rs r.first) runs in
    let first : r.first < count = ltb-true r.first count both.0 in
    ap (λ b. b && are_runs rs r.first) (lt-ltb r.first (count + 1) (omega arith)) ∙ both.1

-- ---- places

-- a run that has begun
place_in : (r : Run) (rs : List Run) (index : ℕ) → r.first ≤ index → place_by_runs (r ∷ rs) index ≡ r.place
place_in r rs index begun = ap (λ b. option_map_or (λ (q : Run). q.place) (cond b (Some r) (find (λ (q : Run). nat_le q.first index) rs)) zeros_offset) (le-leb r.first index begun)

-- the last label is of the last run
pub place_last : (rs : List Run) (p : SectionOffset) (count index : ℕ) → option_map (λ (r : Run). r.place) (slice_get rs 0) ≡ Some p → are_runs rs count ≡ true → count ≤ index + 1 → place_by_runs rs index ≡ p
place_last [] p count index is runs within = absurd (cc)
place_last (r ∷ rs) p count index is runs within =
    let first : r.first < count = ltb-true r.first count (and_parts (nat_lt r.first count) (are_runs rs r.first) runs).0 in
    place_in r rs index (omega arith) ∙ ap (λ o. unwrap_or o r.place) is

-- each label is of a run
pub in_a_run : (rs : List Run) (count index : ℕ) → are_runs rs count ≡ true → index < count → find (λ (r : Run). nat_le r.first index) rs ≡ None → ⊥
in_a_run [] count index runs inside none = let ends : count ≡ 0 = eqb-true count 0 runs in omega (arith, ends, inside)
in_a_run (r ∷ rs) count index runs inside none = by (nat_le r.first index) refl none (in_a_run rs r.first index (and_parts (nat_lt r.first count) (are_runs rs r.first) runs).1)
  where
    by : (b : Bool) → nat_le r.first index ≡ b → cond b (Some r) (find (λ (q : Run). nat_le q.first index) rs) ≡ None
        → (index < r.first → find (λ (q : Run). nat_le q.first index) rs ≡ None → ⊥) → ⊥
    by true e none rest = absurd (cc)
    by false e none rest = rest (leb-false r.first index e) none

-- what begins no later than an index begins before the next
pub found_until : (rs : List Run) (index : ℕ) → find (λ (r : Run). nat_lt r.first (suc index)) (reverse rs) ≡ find (λ (r : Run). nat_le r.first index) (reverse rs)
found_until rs index = find_same (λ (r : Run). nat_lt r.first (suc index)) (λ (r : Run). nat_le r.first index) (reverse rs) (λ r. same r.first (nat_le r.first index) refl)
  where
    same : (first : ℕ) (b : Bool) → nat_le first index ≡ b → nat_lt first (suc index) ≡ b
    same first true e = let begun : first ≤ index = leb-true first index e in lt-ltb first (suc index) (omega arith)
    same first false e = let later : index < first = leb-false first index e in le-ltb first (suc index) (omega arith)

pub ends_until : (rs : List Run) (index after : ℕ) → IsPartitionPoint (λ (r : Run). nat_le r.first index ≡ true) (λ (r : Run). nat_le r.first index ≡ false) rs after
    → IsPartitionPoint (λ (r : Run). r.first < suc index) (λ (r : Run). suc index ≤ r.first) rs after
ends_until rs index after point = (
  (λ k d low high. let begun : (slice_index_or rs k d).first ≤ index = leb-true (slice_index_or rs k d).first index (point.0 k d low high) in omega arith),
  (λ k d low high. let later : index < (slice_index_or rs k d).first = leb-false (slice_index_or rs k d).first index (point.1 k d low high) in omega arith),
)

-- ---- labels

pub count_labels : (rs : List Run) (index : ℕ) (os : List ℕ) → length (labels_from rs index os) ≡ length os
count_labels rs index [] = refl
count_labels rs index (o ∷ os) = ap suc (count_labels rs (suc index) os)

labels_at : (rs : List Run) (from : ℕ) (os : List ℕ) (i : ℕ) → slice_get (labels_from rs from os) i ≡ option_map (label_by_runs rs (from + i)) (slice_get os i)
labels_at rs from [] i = refl
labels_at rs from (o ∷ os) zero = ap (λ n. Some (label_by_runs rs n o)) (let e : from ≡ from + 0 = omega arith in e)
labels_at rs from (o ∷ os) (suc i) = labels_at rs (suc from) os i ∙ ap (λ n. option_map (label_by_runs rs n) (slice_get os i)) (let e : suc from + i ≡ from + suc i = omega arith in e)

pub label_missing : (rs : List Run) (os : List ℕ) (labels : List NumericLabel) (i : ℕ) → labels_from rs 0 os ≡ labels → slice_get os i ≡ None → None ≡ slice_get labels i
label_missing rs os labels i are is = sym (ap (λ l. slice_get l i) (sym are) ∙ labels_at rs 0 os i ∙ ap (option_map (label_by_runs rs (0 + i))) is)

pub label_found : (rs : List Run) (os : List ℕ) (labels : List NumericLabel) (i o : ℕ) (p : SectionOffset) → labels_from rs 0 os ≡ labels → slice_get os i ≡ Some o → place_by_runs rs i ≡ p → Some (record { ordinal = o; place = p }) ≡ slice_get labels i
label_found rs os labels i o p are is stands =
    sym (ap (λ l. slice_get l i) (sym are) ∙ labels_at rs 0 os i ∙ ap (option_map (label_by_runs rs (0 + i))) is
    ∙ ap (λ (q : SectionOffset). Some (record { ordinal = o; place = q })) (ap (place_by_runs rs) (let e : 0 + i ≡ i = omega arith in e) ∙ stands))

-- one label more, where all others stand as they did
labels_more : (new old : List Run) (from : ℕ) (os : List ℕ) (m : NumericLabel) → ((i : ℕ) → i < from + length os → place_by_runs new i ≡ place_by_runs old i) → place_by_runs new (from + length os) ≡ m.place
    → labels_from new from (os ++ m.ordinal ∷ []) ≡ labels_from old from os ++ m ∷ []
labels_more new old from [] m others last =
    ap (λ (p : SectionOffset). record { ordinal = m.ordinal; place = p } ∷ []) (ap (place_by_runs new) (let e : from ≡ from + 0 = omega arith in e) ∙ last)
labels_more new old from (o ∷ os) m others last =
    ap (λ (p : SectionOffset). record { ordinal = o; place = p } ∷ labels_from new (suc from) (os ++ m.ordinal ∷ [])) (others from (omega arith))
    ∙ ap (λ l. label_by_runs old from o ∷ l)
    (labels_more new old (suc from) os m (λ i inside. others i (omega arith)) (ap (place_by_runs new) (let e : suc from + length os ≡ from + length (o ∷ os) = omega arith in e) ∙ last))

pub labels_added : (new old : List Run) (os : List ℕ) (m : NumericLabel) → ((i : ℕ) → i < length os → place_by_runs new i ≡ place_by_runs old i) → place_by_runs new (length os) ≡ m.place
    → labels_from new 0 (os ++ m.ordinal ∷ []) ≡ labels_from old 0 os ++ m ∷ []
labels_added new old os m others last =
    labels_more new old 0 os m (λ i inside. others i (omega (arith, inside))) (ap (place_by_runs new) (let e : 0 + length os ≡ length os = omega arith in e) ∙ last)

-- their ordinals
ordinal_at : (rs : List Run) (from : ℕ) (os : List ℕ) (i : ℕ) (d : NumericLabel) → (slice_index_or (labels_from rs from os) i d).ordinal ≡ slice_index_or os i d.ordinal
ordinal_at rs from [] i d = refl
ordinal_at rs from (o ∷ os) zero d = refl
ordinal_at rs from (o ∷ os) (suc i) d = ordinal_at rs (suc from) os i d

-- what holds of ordinals holds of the labels that have them
all_ordinals : (P : ℕ → Type 0) (rs : List Run) (from : ℕ) (os : List ℕ) (i j : ℕ) → AllWithin P os i j → AllWithin (λ (m : NumericLabel). P m.ordinal) (labels_from rs from os) i j
all_ordinals P rs from os i j all = λ k d low high. subst P (sym (ordinal_at rs from os k d)) (all k d.ordinal low high)

pub labels_until : (o : ℕ) (rs : List Run) (os : List ℕ) (k : ℕ) → IsPartitionPoint (λ (n : ℕ). n ≤ o) (λ (n : ℕ). o < n) os k
    → AllWithin (λ (m : NumericLabel). m.ordinal ≤ o) (labels_from rs 0 os) 0 k × AllWithin (λ (m : NumericLabel). o < m.ordinal) (labels_from rs 0 os) k (length (labels_from rs 0 os))
labels_until o rs os k point =
    (all_ordinals (λ n. n ≤ o) rs 0 os 0 k point.0, all_ordinals (λ n. o < n) rs 0 os k (length (labels_from rs 0 os)) (subst (AllWithin (λ n. o < n) os k) (sym (count_labels rs 0 os)) point.1))

pub labels_before : (o : ℕ) (rs : List Run) (os : List ℕ) (k : ℕ) → IsPartitionPoint (λ (n : ℕ). n < o) (λ (n : ℕ). o ≤ n) os k
    → AllWithin (λ (m : NumericLabel). m.ordinal < o) (labels_from rs 0 os) 0 k × AllWithin (λ (m : NumericLabel). o ≤ m.ordinal) (labels_from rs 0 os) k (length (labels_from rs 0 os))
labels_before o rs os k point =
    (all_ordinals (λ n. n < o) rs 0 os 0 k point.0, all_ordinals (λ n. o ≤ n) rs 0 os k (length (labels_from rs 0 os)) (subst (AllWithin (λ n. o ≤ n) os k) (sym (count_labels rs 0 os)) point.1))

pub ordinals_rise : (rs : List Run) (os : List ℕ) → IsNonDecreasingBy (λ (m : NumericLabel). m.ordinal) (labels_from rs 0 os) → IsNonDecreasingBy (λ o. o) os
ordinals_rise rs os rise = λ i j d le inside.
    let low = ordinal_at rs 0 os i (label_of d) in
    let high = ordinal_at rs 0 os j (label_of d) in
    let count : length (labels_from rs 0 os) ≡ length os = count_labels rs 0 os in
    let in_order : (slice_index_or (labels_from rs 0 os) i (label_of d)).ordinal ≤ (slice_index_or (labels_from rs 0 os) j (label_of d)).ordinal = rise i j (label_of d) le (omega arith) in
    subst (λ n. slice_index_or os i d ≤ n) high (subst (λ n. n ≤ (slice_index_or (labels_from rs 0 os) j (label_of d)).ordinal) low in_order)
  where
    label_of : ℕ → NumericLabel
    label_of o = record { ordinal = o; place = zeros_offset }
