-- Stretches in a map: those found by its order, and one more.

use Rattle.std.proofs.Common.{◌≡◌, ℕ, ◌+◌, ◌++◌, length, ◌-◌, ◌<◌, ◌≤◌, Bool, true, false, ◌&&◌, ◌||◌, nat_le, nat_lt, List, [], ◌∷◌, Option, Some, None, refl, ap, sym, ◌∙◌, arith}
use Rattle.std.specs.Prelude.{◌==◌, if◌then◌else◌, Result, Ok, Err, OnOk, OnErr}
use Rattle.std.proofs.lemmas.Bool.Decides.{nat_tests}
use Rattle.std.specs.List.{list_all, list_any, filter}
use Rattle.std.specs.Ordering.{nat_cmp, is_le}
use Rattle.std.specs.declared.cmp.Ordering.TheVariants.{Less, Equal, Greater}
use Rattle.std.specs.BTreeMap.{insert_entry, is_at}
use Rattle.std.specs.Map.{lookup}
use Rattle.std.proofs.lemmas.Bool.{leb-true, ltb-true, le-leb, and_parts, and_from}
use Rattle.rv_object_reader.specs.Stretches.{ends_in, starts_in, is_spread, is_short, ends_by}

-- ---- numbers

pub from_next : (a q : ℕ) → is_le (nat_cmp (a + 1) q) ≡ nat_lt a q
from_next a q = grind (arith, nat_tests)

pub from_here : (a q : ℕ) → is_le (nat_cmp a q) ≡ nat_le a q
from_here a q = grind (arith, nat_tests)

pub data Compared (k e : ℕ) : Type 0 where
  Below : nat_cmp k e ≡ Less → k < e → Compared k e
  Same : nat_cmp k e ≡ Equal → k ≡ e → Compared k e
  Above : nat_cmp k e ≡ Greater → e < k → Compared k e

pub compared : (k e : ℕ) → Compared k e
compared k e = go (nat_lt k e) (k == e) refl refl where
  go : (x y : Bool) → nat_lt k e ≡ x → (k == e) ≡ y → Compared k e
  go true y h i = Below (grind (arith, nat_tests)) (ltb-true k e h)
  go false true h i = Same (grind (arith, nat_tests)) (grind (arith, nat_tests))
  go false false h i = Above (grind (arith, nat_tests)) (grind (arith, nat_tests))

-- ---- paddings

or_absorb : (y r : Bool) → (y ≡ false → r ≡ false) → (y || r) ≡ y
or_absorb true r h = refl
or_absorb false r h = h refl

later_apart : (es : List (ℕ × ℕ)) (a b end : ℕ) → list_all (λ x. nat_le end x.1) es ≡ true → b ≤ end → list_any (ends_in a b) es ≡ false
later_apart [] a b end h le = refl
later_apart (e ∷ es) a b end h le =
    let p : (nat_le end e.1 ≡ true) × (list_all (λ x. nat_le end x.1) es ≡ true) = and_parts (nat_le end e.1) (list_all (λ x. nat_le end x.1) es) h in
    let one : nat_lt e.1 b ≡ false = grind (arith, nat_tests, p.0, le) in
    go (nat_lt a e.0) (nat_lt e.1 b) one (later_apart es a b end p.1 le)
  where
    go : (x y : Bool) → y ≡ false → list_any (ends_in a b) es ≡ false → (x && y || list_any (ends_in a b) es) ≡ false
    go true true h i = absurd (cc)
    go true false h i = i
    go false y h i = i

pub none_met : (es : List (ℕ × ℕ)) (a b : ℕ) → length es ≡ 0 → list_any (ends_in a b) es ≡ false
none_met [] a b h = refl
none_met (e ∷ es) a b h = absurd (omega (arith, h))

-- the first of these stretches begins before b
abbrev pub first_before : ℕ → List (ℕ × ℕ) → Bool
first_before b [] = false
first_before b (e ∷ es) = nat_lt e.1 b

record Spread (e : ℕ × ℕ) (es : List (ℕ × ℕ)) : Type 0 where
  some : e.1 < e.0
  later : list_all (λ x. nat_le e.0 x.1) es ≡ true
  rest : is_spread es ≡ true

spread_parts : (e : ℕ × ℕ) (es : List (ℕ × ℕ)) → is_spread (e ∷ es) ≡ true → Spread e es
spread_parts e es h =
    let p : ((nat_lt e.1 e.0 && list_all (λ x. nat_le e.0 x.1) es) ≡ true) × (is_spread es ≡ true) = and_parts (nat_lt e.1 e.0 && list_all (λ x. nat_le e.0 x.1) es) (is_spread es) h in
    let q : (nat_lt e.1 e.0 ≡ true) × (list_all (λ x. nat_le e.0 x.1) es ≡ true) = and_parts (nat_lt e.1 e.0) (list_all (λ x. nat_le e.0 x.1) es) p.0 in
    record { some = ltb-true e.1 e.0 q.0; later = q.1; rest = p.1 }

pub first_meets : (t : ℕ × ℕ → Bool) (es : List (ℕ × ℕ)) (a b : ℕ) → ((e : ℕ × ℕ) → t e ≡ nat_lt a e.0) → is_spread es ≡ true
    → list_any (ends_in a b) es ≡ first_before b (filter t es)
first_meets t [] a b same h = refl
first_meets t (e ∷ es) a b same h =
    let s = spread_parts e es h in
    rw (same e) (go (nat_lt a e.0) (λ low. later_apart es a b e.0 s.later (at_most low s.some)) (first_meets t es a b same s.rest))
  where
    at_most : nat_lt e.1 b ≡ false → e.1 < e.0 → b ≤ e.0
    at_most low some = grind (arith, nat_tests, low, some)

    go : (x : Bool) → (nat_lt e.1 b ≡ false → list_any (ends_in a b) es ≡ false) → list_any (ends_in a b) es ≡ first_before b (filter t es)
        → (x && nat_lt e.1 b || list_any (ends_in a b) es) ≡ first_before b (if x then e ∷ filter t es else filter t es)
    go true low rest = or_absorb (nat_lt e.1 b) (list_any (ends_in a b) es) low
    go false low rest = rest

-- one more, which is met by none

record Missed (k v : ℕ) (e : ℕ × ℕ) (es : List (ℕ × ℕ)) : Type 0 where
  here : (nat_lt v e.0 && nat_lt e.1 k) ≡ false
  rest : list_any (ends_in v k) es ≡ false

missed : (k v : ℕ) (e : ℕ × ℕ) (es : List (ℕ × ℕ)) → list_any (ends_in v k) (e ∷ es) ≡ false → Missed k v e es
missed k v e es h = go (nat_lt v e.0 && nat_lt e.1 k) (list_any (ends_in v k) es) refl refl h where
  go : (x y : Bool) → (nat_lt v e.0 && nat_lt e.1 k) ≡ x → list_any (ends_in v k) es ≡ y → (x || y) ≡ false → Missed k v e es
  go false false h i j = record { here = h; rest = i }
  go false true h i j = absurd (cc)
  go true y h i j = absurd (cc)

-- the end of one that is met by none is new
not_same : (k v : ℕ) (e : ℕ × ℕ) → v < k → e.1 < e.0 → (nat_lt v e.0 && nat_lt e.1 k) ≡ false → k ≡ e.0 → ◌≡◌ {A = Bool} true false
not_same k v e some has h same = grind (arith, nat_tests)

swap_or : (x y r : Bool) → (x || (y || r)) ≡ (y || (x || r))
swap_or true true r = refl
swap_or true false r = refl
swap_or false y r = refl

pub put_meets : (es : List (ℕ × ℕ)) (k v a b : ℕ) → v < k → is_spread es ≡ true → list_any (ends_in v k) es ≡ false
    → list_any (ends_in a b) (insert_entry nat_cmp es k v) ≡ (ends_in a b (k, v) || list_any (ends_in a b) es)
put_meets [] k v a b some h apart = refl
put_meets (e ∷ es) k v a b some h apart =
    let s = spread_parts e es h in
    let m = missed k v e es apart in
    go (compared k e.0) s.some m.here (put_meets es k v a b some s.rest m.rest)
  where
    go : Compared k e.0 → e.1 < e.0 → (nat_lt v e.0 && nat_lt e.1 k) ≡ false
        → list_any (ends_in a b) (insert_entry nat_cmp es k v) ≡ (ends_in a b (k, v) || list_any (ends_in a b) es)
        → list_any (ends_in a b) (insert_entry nat_cmp (e ∷ es) k v) ≡ (ends_in a b (k, v) || list_any (ends_in a b) (e ∷ es))
    go (Below h less) has clear more = rw h refl
    go (Same h same) has clear more = let both : true ≡ false = not_same k v e some has clear same in absurd (cc)
    go (Above h less) has clear more =
        rw h (ap (λ r. ends_in a b e || r) more ∙ swap_or (ends_in a b e) (ends_in a b (k, v)) (list_any (ends_in a b) es))

-- they stay apart

all_later : (es : List (ℕ × ℕ)) (k v : ℕ) → v < k → is_spread es ≡ true → list_any (ends_in v k) es ≡ false → list_all (λ x. nat_lt k x.0) es ≡ true
    → list_all (λ x. nat_le k x.1) es ≡ true
all_later [] k v some h apart after = refl
all_later (e ∷ es) k v some h apart after =
    let s = spread_parts e es h in
    let m = missed k v e es apart in
    let p : (nat_lt k e.0 ≡ true) × (list_all (λ x. nat_lt k x.0) es ≡ true) = and_parts (nat_lt k e.0) (list_all (λ x. nat_lt k x.0) es) after in
    and_from (nat_le k e.1) (list_all (λ x. nat_le k x.1) es) (one (ltb-true k e.0 p.0) m.here) (all_later es k v some s.rest m.rest p.1)
  where
    one : k < e.0 → (nat_lt v e.0 && nat_lt e.1 k) ≡ false → nat_le k e.1 ≡ true
    one less clear = grind (arith, nat_tests)

all_ends : (es : List (ℕ × ℕ)) (k low : ℕ) → k ≤ low → is_spread es ≡ true → list_all (λ x. nat_le low x.1) es ≡ true → list_all (λ x. nat_lt k x.0) es ≡ true
all_ends [] k low le h later = refl
all_ends (e ∷ es) k low le h later =
    let s = spread_parts e es h in
    let p : (nat_le low e.1 ≡ true) × (list_all (λ x. nat_le low x.1) es ≡ true) = and_parts (nat_le low e.1) (list_all (λ x. nat_le low x.1) es) later in
    and_from (nat_lt k e.0) (list_all (λ x. nat_lt k x.0) es) (one (leb-true low e.1 p.0) s.some) (all_ends es k low le s.rest p.1)
  where
    one : low ≤ e.1 → e.1 < e.0 → nat_lt k e.0 ≡ true
    one l m = grind (arith, nat_tests)

all_put : (es : List (ℕ × ℕ)) (k v low : ℕ) → low ≤ v → list_all (λ x. nat_le low x.1) es ≡ true → list_all (λ x. nat_le low x.1) (insert_entry nat_cmp es k v) ≡ true
all_put [] k v low le h = and_from (nat_le low v) true (le-leb low v le) refl
all_put (e ∷ es) k v low le h =
    let p : (nat_le low e.1 ≡ true) × (list_all (λ x. nat_le low x.1) es ≡ true) = and_parts (nat_le low e.1) (list_all (λ x. nat_le low x.1) es) h in
    go (compared k e.0) p.0 p.1 (all_put es k v low le p.1)
  where
    here : nat_le low v ≡ true
    here = le-leb low v le

    go : Compared k e.0 → nat_le low e.1 ≡ true → list_all (λ x. nat_le low x.1) es ≡ true → list_all (λ x. nat_le low x.1) (insert_entry nat_cmp es k v) ≡ true
        → list_all (λ x. nat_le low x.1) (insert_entry nat_cmp (e ∷ es) k v) ≡ true
    go (Below c less) one others more = rw c (and_from (nat_le low v) _ here (and_from (nat_le low e.1) _ one others))
    go (Same c same) one others more = rw c (and_from (nat_le low v) _ here others)
    go (Above c less) one others more = rw c (and_from (nat_le low e.1) _ one more)

spread_from : (e : ℕ × ℕ) (es : List (ℕ × ℕ)) → e.1 < e.0 → list_all (λ x. nat_le e.0 x.1) es ≡ true → is_spread es ≡ true → is_spread (e ∷ es) ≡ true
spread_from e es some later rest =
    and_from (nat_lt e.1 e.0 && list_all (λ x. nat_le e.0 x.1) es) (is_spread es) (and_from (nat_lt e.1 e.0) (list_all (λ x. nat_le e.0 x.1) es) (grind (arith, nat_tests)) later) rest

pub put_spread : (es : List (ℕ × ℕ)) (k v : ℕ) → v < k → is_spread es ≡ true → list_any (ends_in v k) es ≡ false → is_spread (insert_entry nat_cmp es k v) ≡ true
put_spread [] k v some h apart = spread_from (k, v) [] some refl refl
put_spread (e ∷ es) k v some h apart =
    let s = spread_parts e es h in
    let m = missed k v e es apart in
    go (compared k e.0) s m.here (put_spread es k v some s.rest m.rest)
  where
    above : e.0 < k → (nat_lt v e.0 && nat_lt e.1 k) ≡ false → e.1 < e.0 → e.0 ≤ v
    above less clear has = grind (arith, nat_tests)

    go : Compared k e.0 → Spread e es → (nat_lt v e.0 && nat_lt e.1 k) ≡ false → is_spread (insert_entry nat_cmp es k v) ≡ true → is_spread (insert_entry nat_cmp (e ∷ es) k v) ≡ true
    go (Below c less) s clear more =
        rw c (spread_from (k, v) (e ∷ es) some
        (all_later (e ∷ es) k v some h apart (and_from (nat_lt k e.0) _ (grind (arith, nat_tests)) (all_ends es k e.0 (omega arith) s.rest s.later))) h)
    go (Same c same) s clear more = let both : true ≡ false = not_same k v e some s.some clear same in absurd (cc)
    go (Above c less) s clear more = rw c (spread_from e (insert_entry nat_cmp es k v) s.some (all_put es k v e.0 (above less clear s.some) s.later) more)

-- ---- fields

-- a stretch, by its start and its end, ends after a
abbrev pub ends_after : ℕ → ℕ × ℕ → Bool
ends_after a e = nat_lt a e.1

pub short_meets : (t : ℕ × ℕ → Bool) (es : List (ℕ × ℕ)) (a b : ℕ) → ((e : ℕ × ℕ) → t e ≡ (nat_le (a - 8) e.0 && nat_lt e.0 b))
    → list_all is_short es ≡ true → list_any (starts_in a b) es ≡ list_any (ends_after a) (filter t es)
short_meets t [] a b same h = refl
short_meets t (e ∷ es) a b same h =
    let p : (is_short e ≡ true) × (list_all is_short es ≡ true) = and_parts (is_short e) (list_all is_short es) h in
    rw (same e) (go (nat_le (a - 8) e.0) (nat_lt e.0 b) refl (low p.0) (short_meets t es a b same p.1))
  where
    low : nat_le e.1 (e.0 + 8) ≡ true → nat_le (a - 8) e.0 ≡ false → nat_lt a e.1 ≡ false
    low short h = grind (arith, nat_tests)

    go : (x y : Bool) → nat_le (a - 8) e.0 ≡ x → (nat_le (a - 8) e.0 ≡ false → nat_lt a e.1 ≡ false)
        → list_any (starts_in a b) es ≡ list_any (ends_after a) (filter t es)
        → (y && nat_lt a e.1 || list_any (starts_in a b) es) ≡ list_any (ends_after a) (if x && y then e ∷ filter t es else filter t es)
    go true true h low more = ap (λ r. nat_lt a e.1 || r) more
    go true false h low more = more
    go false true h low more = rw (low h) more
    go false false h low more = more

-- none is there, or one that ends at v or before
abbrev pub ends_before : ℕ → Option ℕ → Bool
ends_before v None = true
ends_before v (Some w) = nat_le w v

within : (k v w : ℕ) (a b : ℕ) → v ≤ w → (r : Bool) → (nat_lt k b && nat_lt a w || r) ≡ ((nat_lt k b && nat_lt a v) || (nat_lt k b && nat_lt a w || r))
within k v w a b le r = go (nat_lt k b) (nat_lt a v) (nat_lt a w) covers where
  covers : nat_lt a v ≡ true → nat_lt a w ≡ true
  covers h = grind (arith, nat_tests)

  go : (x y z : Bool) → (y ≡ true → z ≡ true) → (x && z || r) ≡ ((x && y) || (x && z || r))
  go true true z h = rw (h refl) refl
  go true false z h = refl
  go false y z h = refl

pub covered : (es : List (ℕ × ℕ)) (k v w a b : ℕ) → lookup (is_at (nat_cmp k)) es ≡ Some w → v ≤ w
    → list_any (starts_in a b) es ≡ (starts_in a b (k, v) || list_any (starts_in a b) es)
covered [] k v w a b h le = absurd (cc)
covered (e ∷ es) k v w a b h le = go (compared k e.0) h (λ i. covered es k v w a b i le) where
  go : Compared k e.0 → lookup (is_at (nat_cmp k)) (e ∷ es) ≡ Some w
      → (lookup (is_at (nat_cmp k)) es ≡ Some w → list_any (starts_in a b) es ≡ (starts_in a b (k, v) || list_any (starts_in a b) es))
      → list_any (starts_in a b) (e ∷ es) ≡ (starts_in a b (k, v) || list_any (starts_in a b) (e ∷ es))
  go (Below c less) h more =
      let i : lookup (is_at (nat_cmp k)) es ≡ Some w = rw c at h in
      ap (λ r. starts_in a b e || r) (more i) ∙ swap_or (starts_in a b e) (starts_in a b (k, v)) (list_any (starts_in a b) es)
  go (Same c same) h more =
      let i : Some e.1 ≡ Some w = rw c at h in
      let j : e.1 ≡ w = cc in
      rw (same) (within e.0 v e.1 a b (omega (arith, j, le)) (list_any (starts_in a b) es))
  go (Above c less) h more =
      let i : lookup (is_at (nat_cmp k)) es ≡ Some w = rw c at h in
      ap (λ r. starts_in a b e || r) (more i) ∙ swap_or (starts_in a b e) (starts_in a b (k, v)) (list_any (starts_in a b) es)

replaced : (k v w : ℕ) (a b : ℕ) → w ≤ v → (r : Bool) → (nat_lt k b && nat_lt a v || r) ≡ ((nat_lt k b && nat_lt a v) || (nat_lt k b && nat_lt a w || r))
replaced k v w a b le r = go (nat_lt k b) (nat_lt a v) (nat_lt a w) covers where
  covers : nat_lt a w ≡ true → nat_lt a v ≡ true
  covers h = grind (arith, nat_tests)

  go : (x y z : Bool) → (z ≡ true → y ≡ true) → (x && y || r) ≡ ((x && y) || (x && z || r))
  go true true z h = refl
  go true false true h = absurd (let both : false ≡ true = h refl in cc)
  go true false false h = refl
  go false y z h = refl

pub put_starts : (es : List (ℕ × ℕ)) (k v a b : ℕ) → ends_before v (lookup (is_at (nat_cmp k)) es) ≡ true
    → list_any (starts_in a b) (insert_entry nat_cmp es k v) ≡ (starts_in a b (k, v) || list_any (starts_in a b) es)
put_starts [] k v a b h = refl
put_starts (e ∷ es) k v a b h = go (compared k e.0) h (put_starts es k v a b) where
  go : Compared k e.0 → ends_before v (lookup (is_at (nat_cmp k)) (e ∷ es)) ≡ true
      → (ends_before v (lookup (is_at (nat_cmp k)) es) ≡ true → list_any (starts_in a b) (insert_entry nat_cmp es k v) ≡ (starts_in a b (k, v) || list_any (starts_in a b) es))
      → list_any (starts_in a b) (insert_entry nat_cmp (e ∷ es) k v) ≡ (starts_in a b (k, v) || list_any (starts_in a b) (e ∷ es))
  go (Below c less) h more = rw c refl
  go (Same c same) h more =
      let i : nat_le e.1 v ≡ true = rw c at h in
      let j = leb-true e.1 v i in
      rw (c, same) (replaced e.0 v e.1 a b (omega (arith, j)) (list_any (starts_in a b) es))
  go (Above c less) h more =
      let i : ends_before v (lookup (is_at (nat_cmp k)) es) ≡ true = rw c at h in
      rw c (ap (λ r. starts_in a b e || r) (more i) ∙ swap_or (starts_in a b e) (starts_in a b (k, v)) (list_any (starts_in a b) es))

-- one that ends earlier goes in and is taken back

same_place : (k : ℕ) → nat_cmp k k ≡ Equal
same_place k = go (compared k k) where
  go : Compared k k → nat_cmp k k ≡ Equal
  go (Below c less) = absurd (omega (arith, less))
  go (Same c same) = c
  go (Above c less) = absurd (omega (arith, less))

put_twice : (es : List (ℕ × ℕ)) (k v w : ℕ) → insert_entry nat_cmp (insert_entry nat_cmp es k v) k w ≡ insert_entry nat_cmp es k w
put_twice [] k v w = rw (same_place k) refl
put_twice (e ∷ es) k v w = go (compared k e.0) (put_twice es k v w) where
  go : Compared k e.0 → insert_entry nat_cmp (insert_entry nat_cmp es k v) k w ≡ insert_entry nat_cmp es k w
      → insert_entry nat_cmp (insert_entry nat_cmp (e ∷ es) k v) k w ≡ insert_entry nat_cmp (e ∷ es) k w
  go (Below c less) more = rw (c, same_place k) refl
  go (Same c same) more = rw (c, c) refl
  go (Above c less) more = rw (c, c) (ap (λ rest. e ∷ rest) more)

at_most_itself : (w : ℕ) → nat_le w w ≡ true
at_most_itself w = le-leb w w (omega arith)

pub put_back : (es : List (ℕ × ℕ)) (k v w a b : ℕ) → lookup (is_at (nat_cmp k)) es ≡ Some w → v ≤ w
    → list_any (starts_in a b) (insert_entry nat_cmp (insert_entry nat_cmp es k v) k w) ≡ (starts_in a b (k, v) || list_any (starts_in a b) es)
put_back es k v w a b found le =
    ap (list_any (starts_in a b)) (put_twice es k v w)
    ∙ put_starts es k w a b (ap (ends_before w) found ∙ at_most_itself w)
    ∙ sym (covered es k w w a b found (omega arith))
    ∙ covered es k v w a b found le

pub found_short : (es : List (ℕ × ℕ)) (k w : ℕ) → lookup (is_at (nat_cmp k)) es ≡ Some w → list_all is_short es ≡ true → w ≤ k + 8
found_short [] k w found h = absurd (cc)
found_short (e ∷ es) k w found h =
    let p : (is_short e ≡ true) × (list_all is_short es ≡ true) = and_parts (is_short e) (list_all is_short es) h in
    go (compared k e.0) found (leb-true e.1 (e.0 + 8) p.0) (λ i. found_short es k w i p.1)
  where
    go : Compared k e.0 → lookup (is_at (nat_cmp k)) (e ∷ es) ≡ Some w → e.1 ≤ e.0 + 8 → (lookup (is_at (nat_cmp k)) es ≡ Some w → w ≤ k + 8) → w ≤ k + 8
    go (Below c less) h one more = let i : lookup (is_at (nat_cmp k)) es ≡ Some w = rw c at h in more i
    go (Same c same) h one more =
        let i : Some e.1 ≡ Some w = rw c at h in
        let j : e.1 ≡ w = cc in
        omega (arith, j, same, one)
    go (Above c less) h one more = let i : lookup (is_at (nat_cmp k)) es ≡ Some w = rw c at h in more i

pub put_short : (es : List (ℕ × ℕ)) (k v : ℕ) → v ≤ k + 8 → list_all is_short es ≡ true → list_all is_short (insert_entry nat_cmp es k v) ≡ true
put_short [] k v le h = and_from (nat_le v (k + 8)) true (le-leb v (k + 8) le) refl
put_short (e ∷ es) k v le h =
    let p : (is_short e ≡ true) × (list_all is_short es ≡ true) = and_parts (is_short e) (list_all is_short es) h in
    go (compared k e.0) p.0 p.1 (put_short es k v le p.1)
  where
    go : Compared k e.0 → is_short e ≡ true → list_all is_short es ≡ true → list_all is_short (insert_entry nat_cmp es k v) ≡ true
        → list_all is_short (insert_entry nat_cmp (e ∷ es) k v) ≡ true
    go (Below c less) one others more = rw c (and_from (nat_le v (k + 8)) _ (le-leb v (k + 8) le) (and_from (is_short e) _ one others))
    go (Same c same) one others more = rw c (and_from (nat_le v (e.0 + 8)) _ (le-leb v (e.0 + 8) (omega (arith, same, le))) others)
    go (Above c less) one others more = rw c (and_from (is_short e) _ one more)

-- ---- a map after a call that may have been refused

pub by_result : {T E : Type 0} (r : Result T E) (A B P : Type 0) → OnOk r A → OnErr r B → (A → P) → (B → P) → P
by_result (Ok x) A B P a b f g = f a
by_result (Err e) A B P a b f g = g b

-- ---- recent fields

-- one more behind others
pub any_late : (t : ℕ × ℕ → Bool) (xs ys : List (ℕ × ℕ)) (x : ℕ × ℕ) → list_any t ((xs ++ x ∷ []) ++ ys) ≡ (t x || list_any t (xs ++ ys))
any_late t [] ys x = refl
any_late t (z ∷ xs) ys x = ap (λ r. t z || r) (any_late t xs ys x) ∙ swap_or (t z) (t x) (list_any t (xs ++ ys))

-- one moves from the recent ones to the others
pub any_moved : (t : ℕ × ℕ → Bool) (xs es more : List (ℕ × ℕ)) (x : ℕ × ℕ) → list_any t more ≡ (t x || list_any t es) → list_any t (xs ++ more) ≡ (t x || list_any t (xs ++ es))
any_moved t [] es more x h = h
any_moved t (z ∷ xs) es more x h = ap (λ r. t z || r) (any_moved t xs es more x h) ∙ swap_or (t z) (t x) (list_any t (xs ++ es))

-- those that end at a or before have no byte there or later
pub none_after : (es : List (ℕ × ℕ)) (furthest a b : ℕ) → list_all (ends_by furthest) es ≡ true → furthest ≤ a → list_any (starts_in a b) es ≡ false
none_after [] furthest a b h le = refl
none_after (e ∷ es) furthest a b h le =
    let p : (nat_le e.1 furthest ≡ true) × (list_all (ends_by furthest) es ≡ true) = and_parts (nat_le e.1 furthest) (list_all (ends_by furthest) es) h in
    go (nat_lt e.0 b) (nat_lt a e.1) (low p.0) (none_after es furthest a b p.1 le)
  where
    low : nat_le e.1 furthest ≡ true → nat_lt a e.1 ≡ false
    low one = grind (arith, nat_tests, le)

    go : (x y : Bool) → y ≡ false → list_any (starts_in a b) es ≡ false → (x && y || list_any (starts_in a b) es) ≡ false
    go true true h i = absurd (cc)
    go true false h i = i
    go false y h i = i

-- so only the others are met
pub met_late : (t : ℕ × ℕ → Bool) (xs ys : List (ℕ × ℕ)) → list_any t xs ≡ false → list_any t (xs ++ ys) ≡ list_any t ys
met_late t [] ys h = refl
met_late t (x ∷ xs) ys h = go (t x) (list_any t xs) refl refl h (met_late t xs ys) where
  go : (u v : Bool) → t x ≡ u → list_any t xs ≡ v → (u || v) ≡ false → (list_any t xs ≡ false → list_any t (xs ++ ys) ≡ list_any t ys)
      → (t x || list_any t (xs ++ ys)) ≡ list_any t ys
  go true v i j k more = absurd (cc)
  go false true i j k more = absurd (cc)
  go false false i j k more = ap (λ r. r || list_any t (xs ++ ys)) i ∙ more j

pub short_late : (es : List (ℕ × ℕ)) (a b : ℕ) → list_all is_short es ≡ true → b ≤ a + 8 → list_all is_short (es ++ (a, b) ∷ []) ≡ true
short_late [] a b h le = and_from (nat_le b (a + 8)) true (le-leb b (a + 8) le) refl
short_late (e ∷ es) a b h le =
    let p : (is_short e ≡ true) × (list_all is_short es ≡ true) = and_parts (is_short e) (list_all is_short es) h in
    and_from (is_short e) (list_all is_short (es ++ (a, b) ∷ [])) p.0 (short_late es a b p.1 le)

pub within_late : (es : List (ℕ × ℕ)) (furthest a b further : ℕ) → list_all (ends_by furthest) es ≡ true → furthest ≤ further → b ≤ further
    → list_all (ends_by further) (es ++ (a, b) ∷ []) ≡ true
within_late [] furthest a b further h le last = and_from (nat_le b further) true (le-leb b further last) refl
within_late (e ∷ es) furthest a b further h le last =
    let p : (nat_le e.1 furthest ≡ true) × (list_all (ends_by furthest) es ≡ true) = and_parts (nat_le e.1 furthest) (list_all (ends_by furthest) es) h in
    and_from (nat_le e.1 further) (list_all (ends_by further) (es ++ (a, b) ∷ [])) (far p.0) (within_late es furthest a b further p.1 le last)
  where
    far : nat_le e.1 furthest ≡ true → nat_le e.1 further ≡ true
    far one = grind (arith, nat_tests, le)

pub first_short : (e : ℕ × ℕ) (es all : List (ℕ × ℕ)) → all ≡ e ∷ es → list_all is_short all ≡ true → (is_short e ≡ true) × (list_all is_short es ≡ true)
first_short e es all is h = and_parts (is_short e) (list_all is_short es) (sym (ap (list_all is_short) is) ∙ h)
