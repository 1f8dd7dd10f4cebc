-- Distances grow with sizes, and a form that reaches far reaches near.

use Rattle.std.proofs.Common.{Bool, true, ◌&&◌, ◌==◌, int_le, int_lt, refl, ◌-◌, ◌≡◌, ℕ, zero, suc, ◌+◌, ◌*◌, ◌%◌, ◌≤◌, inl, inr, List, take, length, slice_index, sum, ℤ, pos, negsuc, ◌+ℤ◌, neg_ℤ, ◌≤ℤ◌, ◌<ℤ◌, unsigned_abs, arith, ap, ◌∙◌}
use Rattle.std.proofs.lemmas.Int.{ints}
use Rattle.std.proofs.lemmas.List.{take_all, get_or_past}
use Rattle.std.proofs.lemmas.List.Sums.{sum_by_more}
use Rattle.std.proofs.lemmas.Bool.{cases_lt, and_parts, and_from}
use Rattle.rv_size_laws.specs.Offsets.{offset, distance, GrowsEvenly, AllGrowEvenly, IsEven, IsImmediate, Reaches}

-- one part more
pub offset_more : (sizes : List ℕ) (i : ℕ) → offset sizes (i + 1) ≡ offset sizes i + slice_index sizes i
offset_more sizes i =
    elim (cases_lt i (length sizes)) [
      | inl within ↦ sum_by_more (λ x. x) sizes i 0 within
      | inr past ↦
          let whole : take i sizes ≡ sizes = take_all i sizes past in
          let same : take (i + 1) sizes ≡ sizes = take_all (i + 1) sizes (omega arith) in
          let none : slice_index sizes i ≡ 0 = get_or_past sizes i 0 past in
          let left : offset sizes (i + 1) ≡ sum sizes = ap sum same in
          let right : offset sizes i ≡ sum sizes = ap sum whole in
          omega arith
    ]

-- what lies between two parts grows, and by an even number
pub record Between (small large : List ℕ) (i j : ℕ) : Type 0 where
  pub more : ℕ
  pub grows : offset large j + offset small i ≡ offset small j + offset large i + 2 * more
  pub ordered : offset small i ≤ offset small j

between_by : (small large : List ℕ) → AllGrowEvenly small large → (i n j : ℕ) → j ≡ i + n → Between small large i j
between_by small large grows i zero j e =
    let same : j ≡ i = omega arith in
    let s : offset small j ≡ offset small i = ap (offset small) same in
    let l : offset large j ≡ offset large i = ap (offset large) same in
    record { more = 0; grows = omega arith; ordered = omega arith }
between_by small large grows i (suc n) j e =
    let same : j ≡ i + n + 1 = omega arith in
    let before : Between small large i (i + n) = between_by small large grows i n (i + n) refl in
    let one : GrowsEvenly (slice_index small (i + n)) (slice_index large (i + n)) = grows (i + n) in
    let s : offset small j ≡ offset small (i + n) + slice_index small (i + n) = ap (offset small) same ∙ offset_more small (i + n) in
    let l : offset large j ≡ offset large (i + n) + slice_index large (i + n) = ap (offset large) same ∙ offset_more large (i + n) in
    let told : offset large (i + n) + offset small i ≡ offset small (i + n) + offset large i + 2 * before.more = before.grows in
    let step : slice_index large (i + n) ≡ slice_index small (i + n) + 2 * one.0 = one.1 in
    let up : offset small i ≤ offset small (i + n) = before.ordered in
    record { more = before.more + one.0; grows = omega arith; ordered = omega arith }

pub between : (small large : List ℕ) → AllGrowEvenly small large → (i j : ℕ) → i ≤ j → Between small large i j
between small large grows i j le = between_by small large grows i (j - i) j (omega arith)

-- on the same side, no farther away, and by an even number
pub data Nearer (near far : ℤ) : Type 0 where
  Ahead : (m : ℕ) → pos 0 ≤ℤ near → far ≡ near +ℤ pos (2 * m) → Nearer near far
  Behind : (m : ℕ) → near ≤ℤ pos 0 → near ≡ far +ℤ pos (2 * m) → Nearer near far

pub distance_nearer : (small large : List ℕ) → AllGrowEvenly small large → (i j : ℕ) → Nearer (distance small i j) (distance large i j)
distance_nearer small large grows i j =
    elim (cases_lt j i) [
      | inl behind ↦
          let b : Between small large j i = between small large grows j i (omega arith) in
          let told : offset large i + offset small j ≡ offset small i + offset large j + 2 * b.more = b.grows in
          let up : offset small j ≤ offset small i = b.ordered in
          Behind b.more (omega (arith, ints)) (omega (arith, ints))
      | inr ahead ↦
          let b : Between small large i j = between small large grows i j ahead in
          let told : offset large j + offset small i ≡ offset small j + offset large i + 2 * b.more = b.grows in
          let up : offset small i ≤ offset small j = b.ordered in
          Ahead b.more (omega (arith, ints)) (omega (arith, ints))
    ]

even_below : (small large : ℤ) (m : ℕ) → large ≡ small +ℤ pos (2 * m) → IsEven large → IsEven small
even_below (pos a) (pos b) m e h = omega (arith, ints)
even_below (pos a) (negsuc b) m e h = omega (arith, ints)
even_below (negsuc a) (pos b) m e h = omega (arith, ints)
even_below (negsuc a) (negsuc b) m e h = omega (arith, ints)

even_above : (small large : ℤ) (m : ℕ) → large ≡ small +ℤ pos (2 * m) → IsEven small → IsEven large
even_above (pos a) (pos b) m e h = omega (arith, ints)
even_above (pos a) (negsuc b) m e h = omega (arith, ints)
even_above (negsuc a) (pos b) m e h = omega (arith, ints)
even_above (negsuc a) (negsuc b) m e h = omega (arith, ints)

-- the distance with the constant lies between the constant alone and the farther distance with it
pub reaches_nearer : (half : ℕ) (addend near far : ℤ) → Nearer near far → Reaches half addend far → Reaches half addend near
reaches_nearer half addend near far (Ahead m side more) r =
    let low : neg_ℤ (pos half) ≤ℤ addend = r.alone.low in
    let high : (far +ℤ addend) <ℤ pos half = r.added.high in
    record {
      alone = r.alone;
      added = record {
        even = even_below (near +ℤ addend) (far +ℤ addend) m (omega (arith, ints)) r.added.even;
        low = omega (arith, ints);
        high = omega (arith, ints);
      };
    }
reaches_nearer half addend near far (Behind m side more) r =
    let low : neg_ℤ (pos half) ≤ℤ (far +ℤ addend) = r.added.low in
    let high : addend <ℤ pos half = r.alone.high in
    record {
      alone = r.alone;
      added = record {
        even = even_above (far +ℤ addend) (near +ℤ addend) m (omega (arith, ints)) r.added.even;
        low = omega (arith, ints);
        high = omega (arith, ints);
      };
    }

-- tests of the same, for work that goes by them
abbrev pub is_immediate : ℕ → ℤ → Bool
is_immediate half z = (unsigned_abs z % 2 == 0) && (int_le (neg_ℤ (pos half)) z && int_lt z (pos half))

abbrev pub reaches : ℕ → ℤ → ℤ → Bool
reaches half addend away = is_immediate half addend && is_immediate half (away +ℤ addend)

immediate_tested : (half : ℕ) (z : ℤ) → is_immediate half z ≡ true → IsImmediate half z
immediate_tested half z h = record { even = grind (arith, ints); low = grind (arith, ints); high = grind (arith, ints) }

immediate_passes : (half : ℕ) (z : ℤ) → IsImmediate half z → is_immediate half z ≡ true
immediate_passes half z i =
    let a : unsigned_abs z % 2 ≡ 0 = i.even in
    let b : neg_ℤ (pos half) ≤ℤ z = i.low in
    let c : z <ℤ pos half = i.high in
    grind (arith, ints)

pub reaches_tested : (half : ℕ) (addend away : ℤ) → reaches half addend away ≡ true → Reaches half addend away
reaches_tested half addend away h =
    let b = and_parts (is_immediate half addend) (is_immediate half (away +ℤ addend)) h in
    record { alone = immediate_tested half addend b.0; added = immediate_tested half (away +ℤ addend) b.1 }

pub reaches_passes : (half : ℕ) (addend away : ℤ) → Reaches half addend away → reaches half addend away ≡ true
reaches_passes half addend away r =
    and_from (is_immediate half addend) (is_immediate half (away +ℤ addend)) (immediate_passes half addend r.alone) (immediate_passes half (away +ℤ addend) r.added)
