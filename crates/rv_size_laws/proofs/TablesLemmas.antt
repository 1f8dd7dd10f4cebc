-- What a pass leaves of its table, and what it reads there.

use Rattle.std.proofs.Common.{◌≡◌, inl, inr, ℕ, ◌+◌, ◌≤◌, ◌<◌, Bool, if◌then◌else◌, List, set, slice_index, sum, pos, ◌-ℤ◌, ap, sym, ◌∙◌, arith}
use Rattle.std.proofs.lemmas.Int.{ints}
use Rattle.std.proofs.lemmas.Bool.{cases_lt, lt-ltb, le-ltb}
use Rattle.std.proofs.lemmas.List.{length-set, get_or-set_other}
use Rattle.rv_size_laws.specs.Offsets.{offset, rest, distance}
use Rattle.rv_size_laws.specs.Tables.{IsTableAt, forwards_away, backwards_away}
use Rattle.rv_size_laws.proofs.OffsetsLemmas.{whole}
use Rattle.rv_size_laws.proofs.StepsLemmas.{set_either}

-- ---- a step

-- what one part's change leaves: what lies before the parts up to it, and from those behind it on
pub record LeavesOthers (i : ℕ) (old new : ℕ → List ℕ) : Type 0 where
  pub before : (j : ℕ) → j ≤ i → offset (new j) j ≡ offset (old j) j
  pub behind : (j : ℕ) → i < j → rest (new j) j ≡ rest (old j) j

module _ {parts i : ℕ} {old new : ℕ → List ℕ} {stands : List ℕ} where
  pub forwards_table : (start : ℕ) → i < parts → LeavesOthers i old new → IsTableAt parts i old stands → start ≡ offset (old i) i → IsTableAt parts (i + 1) new (set stands i start)
  forwards_table start lt leaves table is = record {
    same_length = length-set stands i start ∙ table.same_length;
    starts = λ j before. set_either (λ k n. n ≡ offset (new k) k) stands i start (omega (arith, table.same_length, lt)) (is ∙ sym (leaves.before i (omega arith))) j
        (λ other. table.starts j (omega arith) ∙ sym (leaves.before j (omega arith)));
    rests = λ j after within. get_or-set_other stands i j start 0 (λ e. omega arith) ∙ table.rests j (omega arith) within ∙ sym (leaves.behind j (omega arith));
  }

  pub backwards_table : (left : ℕ) → i < parts → LeavesOthers i old new → IsTableAt parts (i + 1) old stands → left ≡ rest (new i) i → IsTableAt parts i new (set stands i left)
  backwards_table left lt leaves table is = record {
    same_length = length-set stands i left ∙ table.same_length;
    starts = λ j before. get_or-set_other stands i j left 0 (λ e. omega arith) ∙ table.starts j (omega arith) ∙ sym (leaves.before j (omega arith));
    rests = λ j after within. set_either (λ k n. n ≡ rest (new k) k) stands i left (omega (arith, table.same_length, lt)) is j
        (λ other. table.rests j (omega arith) within ∙ sym (leaves.behind j (omega arith)));
  }

-- ---- what is read

pub forwards_is : (parts i target start : ℕ) (amounts : ℕ → List ℕ) (stands : List ℕ) → IsTableAt parts i amounts stands → i < parts → target < parts → amounts target ≡ amounts i → start ≡ offset (amounts i) i
    → forwards_away stands start i target ≡ distance (amounts i) i target
forwards_is parts i target start amounts stands table here there same is = elim (cases_lt target i) [
  | inl behind ↦
      let at : slice_index stands target ≡ offset (amounts i) target = table.starts target behind ∙ ap (λ list. offset list target) same in
      ap (λ (b : Bool). if b then pos (slice_index stands target) -ℤ pos start else pos (slice_index stands i) -ℤ pos (slice_index stands target)) (lt-ltb target i behind) ∙ omega (arith, ints)
  | inr ahead ↦
      let at : slice_index stands target ≡ rest (amounts i) target = table.rests target ahead there ∙ ap (λ list. rest list target) same in
      let own : slice_index stands i ≡ rest (amounts i) i = table.rests i (omega arith) here in
      let first : offset (amounts i) i + rest (amounts i) i ≡ sum (amounts i) = whole (amounts i) i in
      let second : offset (amounts i) target + rest (amounts i) target ≡ sum (amounts i) = whole (amounts i) target in
      ap (λ (b : Bool). if b then pos (slice_index stands target) -ℤ pos start else pos (slice_index stands i) -ℤ pos (slice_index stands target)) (le-ltb target i ahead) ∙ omega (arith, ints)
]

pub backwards_is : (parts i target left : ℕ) (amounts : ℕ → List ℕ) (stands : List ℕ) → IsTableAt parts (i + 1) amounts stands → target < parts → amounts target ≡ amounts i → left ≡ rest (amounts i) i
    → backwards_away stands left i target ≡ distance (amounts i) i target
backwards_is parts i target left amounts stands table there same is = elim (cases_lt i target) [
  | inl ahead ↦
      let at : slice_index stands target ≡ rest (amounts i) target = table.rests target (omega arith) there ∙ ap (λ list. rest list target) same in
      let first : offset (amounts i) i + rest (amounts i) i ≡ sum (amounts i) = whole (amounts i) i in
      let second : offset (amounts i) target + rest (amounts i) target ≡ sum (amounts i) = whole (amounts i) target in
      ap (λ (b : Bool). if b then pos left -ℤ pos (slice_index stands target) else pos (slice_index stands target) -ℤ pos (slice_index stands i)) (lt-ltb i target ahead) ∙ omega (arith, ints)
  | inr behind ↦
      let at : slice_index stands target ≡ offset (amounts i) target = table.starts target (omega arith) ∙ ap (λ list. offset list target) same in
      let own : slice_index stands i ≡ offset (amounts i) i = table.starts i (omega arith) in
      ap (λ (b : Bool). if b then pos left -ℤ pos (slice_index stands target) else pos (slice_index stands target) -ℤ pos (slice_index stands i)) (le-ltb i target behind) ∙ omega (arith, ints)
]

-- no more than all
pub offset_most : (amounts : List ℕ) (i : ℕ) → offset amounts i ≤ sum amounts
offset_most amounts i = omega (arith, whole amounts i)

pub rest_most : (amounts : List ℕ) (i : ℕ) → rest amounts i ≤ sum amounts
rest_most amounts i = omega (arith, whole amounts i)

pub table_most : (parts i most : ℕ) (amounts : ℕ → List ℕ) (stands : List ℕ) → IsTableAt parts i amounts stands → ((j : ℕ) → sum (amounts j) ≤ most) → (j : ℕ) → j < parts → slice_index stands j ≤ most
table_most parts i most amounts stands table all j within = elim (cases_lt j i) [
  | inl before ↦ omega (arith, table.starts j before, offset_most (amounts j) j, all j)
  | inr after ↦ omega (arith, table.rests j after within, rest_most (amounts j) j, all j)
]
