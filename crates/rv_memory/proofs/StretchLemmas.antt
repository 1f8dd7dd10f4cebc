-- Stretches of segments, before and after bytes are put.

use Rattle.std.proofs.Common.{◌≡◌, ℕ, zero, suc, ◌+◌, ◌-◌, ◌%◌, ◌^◌, ◌≤◌, ◌<◌, true, subst, List, [], ◌∷◌, length, map, take, get_or, refl, ap, sym, ◌∙◌, arith}
use Rattle.rv_isa_laws.specs.Memory.{Right}
use Rattle.rv_image_laws.specs.Segment.{Segment}
use Rattle.rv_image.specs.SegmentView.{segment_of}
use Rattle.rv_image.specs.declared.segment.Segment.{Segment as DeclaredSegment}
use Rattle.rv_image_laws.specs.Memory.{gives_right}
use Rattle.std.specs.Prelude.{set}
use Rattle.rv_memory.specs.Flat.{no_segment, with_part}
use Rattle.rv_memory.specs.Stretches.{IsStretch, AreAlike}
use Rattle.rv_memory.proofs.FlatLemmas.{length-with_part}

count-set : (ss : List Segment) (i : ℕ) (t : Segment) → length (set ss i t) ≡ length ss
count-set [] i t = refl
count-set (s ∷ ss) zero t = refl
count-set (s ∷ ss) (suc i) t = ap suc (count-set ss i t)

address-set : (ss : List Segment) (i k : ℕ) (t : Segment) → t.address ≡ (get_or ss i no_segment).address →
    (get_or (set ss i t) k no_segment).address ≡ (get_or ss k no_segment).address
address-set [] i k t e = refl
address-set (s ∷ ss) zero zero t e = e
address-set (s ∷ ss) zero (suc k) t e = refl
address-set (s ∷ ss) (suc i) zero t e = refl
address-set (s ∷ ss) (suc i) (suc k) t e = address-set ss i k t e

length-set : (ss : List Segment) (i k : ℕ) (t : Segment) → length t.bytes ≡ length (get_or ss i no_segment).bytes →
    length (get_or (set ss i t) k no_segment).bytes ≡ length (get_or ss k no_segment).bytes
length-set [] i k t e = refl
length-set (s ∷ ss) zero zero t e = e
length-set (s ∷ ss) zero (suc k) t e = refl
length-set (s ∷ ss) (suc i) zero t e = refl
length-set (s ∷ ss) (suc i) (suc k) t e = length-set ss i k t e

flags-set : (ss : List Segment) (i k : ℕ) (t : Segment) → t.flags ≡ (get_or ss i no_segment).flags →
    (get_or (set ss i t) k no_segment).flags ≡ (get_or ss k no_segment).flags
flags-set [] i k t e = refl
flags-set (s ∷ ss) zero zero t e = e
flags-set (s ∷ ss) zero (suc k) t e = refl
flags-set (s ∷ ss) (suc i) zero t e = refl
flags-set (s ∷ ss) (suc i) (suc k) t e = flags-set ss i k t e

-- bytes put into a segment change no more of it
pub alike-set : (ss : List Segment) (i k : ℕ) (bs : List ℕ) → k + length bs ≤ length (get_or ss i no_segment).bytes →
    AreAlike ss (set ss i (with_part (get_or ss i no_segment) k bs))
alike-set ss i k bs fits =
    let t = with_part (get_or ss i no_segment) k bs in
    record {
      count = count-set ss i t;
      addresses = λ j. address-set ss i j t refl;
      lengths = λ j. length-set ss i j t (length-with_part (get_or ss i no_segment) k bs fits);
      flags = λ j. flags-set ss i j t refl;
    }

-- stretches stay
pub still : (before after : List Segment) (i start room bytes : ℕ) (r : Right) → AreAlike before after →
    IsStretch before i start room bytes r → IsStretch after i start room bytes r
still before after i start room bytes r alike known x low =
    let wide = known x low in
    let count = alike.count in
    let size = alike.lengths i in
    record {
      within = omega (arith, wide.within, count);
      starts = alike.addresses i ∙ wide.starts;
      fits = omega (arith, wide.fits, size);
      gives = ap (λ (f : ℕ). gives_right f r) (alike.flags i) ∙ wide.gives;
    }

-- an access that a stretch holds lies in the segment
pub record IsNear (s : Segment) (a k bytes : ℕ) (r : Right) : Type 0 where
  pub place : a ≡ s.address + k
  pub fits : k + bytes ≤ length s.bytes
  pub right : gives_right s.flags r ≡ true

pub near-is : (ss : List Segment) (i start room bytes a k : ℕ) (s : Segment) (r : Right) → IsStretch ss i start room bytes r → k < room →
    0 < bytes → get_or ss i no_segment ≡ s → k ≡ (a + (2 ^ 64 - start)) % 2 ^ 64 → a < 2 ^ 64 → start < 2 ^ 64 → s.address + length s.bytes ≤ 2 ^ 64 → IsNear s a k bytes r
near-is ss i start room bytes a k s r known low some e is small begins ends =
    let wide = known k low in
    let starts : s.address ≡ start = ap (λ (t : Segment). t.address) (sym e) ∙ wide.starts in
    let fits : k + bytes ≤ length s.bytes = subst (λ (t : Segment). k + bytes ≤ length t.bytes) e wide.fits in
    let place : a ≡ s.address + k = omega (arith, starts, fits, ends, is, small, begins, some) in
    record {
      place = place;
      fits = fits;
      right = ap (λ (t : Segment). gives_right t.flags r) (sym e) ∙ wide.gives;
    }

-- each segment ends at the end of the addresses or before
pub ends-of : (xs : List DeclaredSegment) (i : ℕ) → i < length xs →
    (get_or (map segment_of xs) i no_segment).address + length (get_or (map segment_of xs) i no_segment).bytes ≤ 2 ^ 64
ends-of [] i low = absurd (omega arith)
ends-of (x ∷ xs) zero low = x.ends
ends-of (x ∷ xs) (suc i) low = ends-of xs i (omega arith)

-- the first of bytes are bytes
pub small-take : (bs : List ℕ) (n k : ℕ) → get_or bs k 0 < 256 → get_or (take n bs) k 0 < 256
small-take bs zero k h = omega arith
small-take [] (suc n) k h = omega arith
small-take (b ∷ bs) (suc n) zero h = h
small-take (b ∷ bs) (suc n) (suc k) h = small-take bs n k h
