-- What sites drop: never more than there is, and with smaller sizes more, by even numbers at offsets that no site holds.

use Rattle.std.proofs.Common.{◌≡◌, ◌⊎◌, inl, inr, ℕ, zero, suc, ◌+◌, ◌-◌, ◌*◌, ◌/◌, ◌%◌, ◌≤◌, min, max, List, [], ◌∷◌, length, slice_index, pos, ◌-ℤ◌, refl, arith}
use Rattle.std.proofs.lemmas.Int.{ints}
use Rattle.std.proofs.lemmas.Bool.{cases_lt}
use Rattle.rv_list_laws.proofs.NumbersLemmas.{span_within}
use Rattle.rv_size_laws.specs.declared.site.Site.{Site}
use Rattle.rv_size_laws.specs.Offsets.{GrowsEvenly, AtMost}
use Rattle.rv_size_laws.specs.Calls.{bytes_of, site_at, dropped_of, dropped, new_offset, InOrder}
use Rattle.rv_size_laws.proofs.ReachingLemmas.{Nearer, Ahead, Behind}

-- ---- numbers: a site of n bytes from o on keeps s, or l

lost : ℕ → ℕ → ℕ → ℕ → ℕ
lost o n k x = min (n - k) (x - (o + k))

spans : (o n s l a b : ℕ) → s ≤ l → l ≤ n → a ≤ b
    → min (n - s) (a - (o + s)) + min (n - l) (b - (o + l)) ≤ min (n - s) (b - (o + s)) + min (n - l) (a - (o + l))
spans o n s l a b x y z = omega arith

-- ---- lists

fits_from : (sites : List Site) (kept : List ℕ) (base a b : ℕ) → InOrder base sites → a ≤ b → dropped sites kept b ≤ dropped sites kept a + (b - max a base)
fits_from sites [] base a b order le = omega arith
fits_from [] (k ∷ kept) base a b order le = omega arith
fits_from (site ∷ sites) (k ∷ kept) base a b order le =
    let rest : dropped sites kept b ≤ dropped sites kept a + (b - max a (site.offset + bytes_of site.kind)) =
    fits_from sites kept (site.offset + bytes_of site.kind) a b order.1 le in
    span_within site.offset (bytes_of site.kind) k a b base order.0 le (dropped sites kept b) (dropped sites kept a) (site.offset + bytes_of site.kind) refl rest

none_before : (sites : List Site) (kept : List ℕ) → dropped sites kept 0 ≡ 0
none_before sites [] = refl
none_before [] (k ∷ kept) = refl
none_before (site ∷ sites) (k ∷ kept) = let rest : dropped sites kept 0 ≡ 0 = none_before sites kept in omega arith

-- between two offsets no more is dropped than lies there
pub dropped_fits : (sites : List Site) (kept : List ℕ) (a b : ℕ) → InOrder 0 sites → a ≤ b → dropped sites kept b ≤ dropped sites kept a + (b - a)
dropped_fits sites kept a b order le = let fits : dropped sites kept b ≤ dropped sites kept a + (b - max a 0) = fits_from sites kept 0 a b order le in omega arith

pub dropped_most : (sites : List Site) (kept : List ℕ) (old : ℕ) → InOrder 0 sites → dropped sites kept old ≤ old
dropped_most sites kept old order =
    let fits : dropped sites kept old ≤ dropped sites kept 0 + (old - 0) = dropped_fits sites kept 0 old order (omega arith) in
    let none : dropped sites kept 0 ≡ 0 = none_before sites kept in
    omega arith

-- the farther on, the more the smaller sizes drop beyond the larger
pub dropped_spans : (sites : List Site) (small large : List ℕ) (a b : ℕ) → length small ≡ length large → AtMost small large
    → ((i : ℕ) → slice_index large i ≤ bytes_of (site_at sites i).kind) → a ≤ b
    → dropped sites small a + dropped sites large b ≤ dropped sites small b + dropped sites large a
dropped_spans sites [] [] a b same most whole le = omega arith
dropped_spans sites [] (l ∷ large) a b same most whole le = absurd (omega arith)
dropped_spans sites (s ∷ small) [] a b same most whole le = absurd (omega arith)
dropped_spans [] (s ∷ small) (l ∷ large) a b same most whole le = omega arith
dropped_spans (site ∷ sites) (s ∷ small) (l ∷ large) a b same most whole le =
    let one : dropped_of site s a + dropped_of site l b ≤ dropped_of site s b + dropped_of site l a =
    spans site.offset (bytes_of site.kind) s l a b (most zero) (whole zero) le in
    let rest : dropped sites small a + dropped sites large b ≤ dropped sites small b + dropped sites large a =
    dropped_spans sites small large a b (omega arith) (λ i. most (suc i)) (λ i. whole (suc i)) le in
    omega arith

-- at an offset a site drops an even number of bytes more
abbrev pub DropsEvenly : Site → ℕ → ℕ → ℕ → Type 0
DropsEvenly site s l old = GrowsEvenly (dropped_of site l old) (dropped_of site s old)

pub all_drop_evenly : (sites : List Site) (small large : List ℕ) (old : ℕ) → length small ≡ length large
    → ((i : ℕ) → DropsEvenly (site_at sites i) (slice_index small i) (slice_index large i) old)
    → GrowsEvenly (dropped sites large old) (dropped sites small old)
all_drop_evenly sites [] [] old same each = (0, refl)
all_drop_evenly sites [] (l ∷ large) old same each = absurd (omega arith)
all_drop_evenly sites (s ∷ small) [] old same each = absurd (omega arith)
all_drop_evenly [] (s ∷ small) (l ∷ large) old same each = (0, refl)
all_drop_evenly (site ∷ sites) (s ∷ small) (l ∷ large) old same each =
    let one : DropsEvenly site s l old = each zero in
    let rest : GrowsEvenly (dropped sites large old) (dropped sites small old) = all_drop_evenly sites small large old (omega arith) (λ i. each (suc i)) in
    let first : dropped_of site s old ≡ dropped_of site l old + 2 * one.0 = one.1 in
    let others : dropped sites small old ≡ dropped sites large old + 2 * rest.0 = rest.1 in
    (one.0 + rest.0, omega arith)

pub drops_outside : (site : Site) (s l old : ℕ) → GrowsEvenly s l → l ≤ bytes_of site.kind → (old ≤ site.offset) ⊎ (site.offset + bytes_of site.kind ≤ old) → DropsEvenly site s l old
drops_outside site s l old grows le h =
    let even : l ≡ s + 2 * grows.0 = grows.1 in
    elim h [
      | inl before ↦ (0, omega arith)
      | inr after ↦ (grows.0, omega arith)
    ]

pub drops_same : (site : Site) (s l old : ℕ) → s ≡ l → DropsEvenly site s l old
drops_same site s l old e = (0, omega arith)

pub drops_even : (site : Site) (s l old : ℕ) → s ≤ l → l ≤ bytes_of site.kind → s % 2 ≡ 0 → l % 2 ≡ 0 → bytes_of site.kind % 2 ≡ 0 → site.offset % 2 ≡ 0 → old % 2 ≡ 0 → DropsEvenly site s l old
drops_even site s l old a b c d e f g = ((dropped_of site s old - dropped_of site l old) / 2, omega arith)

-- ---- distances

pub offsets_nearer : (sites : List Site) (small large : List ℕ) → InOrder 0 sites → length small ≡ length large → AtMost small large
    → ((i : ℕ) → slice_index large i ≤ bytes_of (site_at sites i).kind) → (from to : ℕ)
    → GrowsEvenly (dropped sites large from) (dropped sites small from) → GrowsEvenly (dropped sites large to) (dropped sites small to)
    → Nearer (pos (new_offset sites small to) -ℤ pos (new_offset sites small from)) (pos (new_offset sites large to) -ℤ pos (new_offset sites large from))
offsets_nearer sites small large order same most whole from to f t =
    let from_small : dropped sites small from ≤ from = dropped_most sites small from order in
    let from_large : dropped sites large from ≤ from = dropped_most sites large from order in
    let to_small : dropped sites small to ≤ to = dropped_most sites small to order in
    let to_large : dropped sites large to ≤ to = dropped_most sites large to order in
    let more_from : dropped sites small from ≡ dropped sites large from + 2 * f.0 = f.1 in
    let more_to : dropped sites small to ≡ dropped sites large to + 2 * t.0 = t.1 in
    elim (cases_lt to from) [
      | inl behind ↦
          let span : dropped sites small to + dropped sites large from ≤ dropped sites small from + dropped sites large to =
          dropped_spans sites small large to from same most whole (omega arith) in
          let fits : dropped sites small from ≤ dropped sites small to + (from - to) = dropped_fits sites small to from order (omega arith) in
          Behind (f.0 - t.0) (omega (arith, ints)) (omega (arith, ints))
      | inr ahead ↦
          let span : dropped sites small from + dropped sites large to ≤ dropped sites small to + dropped sites large from =
          dropped_spans sites small large from to same most whole ahead in
          let fits : dropped sites small to ≤ dropped sites small from + (to - from) = dropped_fits sites small from to order ahead in
          Ahead (t.0 - f.0) (omega (arith, ints)) (omega (arith, ints))
    ]
