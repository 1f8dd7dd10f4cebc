-- What sites drop, as a list of numbers: its sums, and what is dropped before an offset.

use Rattle.std.proofs.Common.{◌≡◌, inl, inr, ⊎_elim, ℕ, zero, suc, ◌+◌, ◌-◌, ◌*◌, ◌≤◌, ◌<◌, min, false, IsTrue, List, [], ◌∷◌, length, set, take, drop, slice_index, slice_index_or, sum, pos, refl, ap, ◌∙◌, arith}
use Rattle.std.proofs.lemmas.Bool.{cases_lt}
use Rattle.std.proofs.lemmas.List.{get_or_past, drop_all}
use Rattle.std.proofs.lemmas.List.Sums.{sum_by-cons}
use Rattle.rv_size_laws.specs.declared.site.Site.{Site}
use Rattle.rv_size_laws.specs.declared.site.SiteKind.{SiteKind}
use Rattle.rv_size_laws.specs.declared.site.SiteKind.TheVariants.{Call, Padding}
use Rattle.rv_size_laws.specs.Offsets.{offset, rest}
use Rattle.rv_size_laws.specs.Calls.{bytes_of, Offers, is_call, site_at, dropped_of, dropped, whole_sizes, IsFamily, InOrder, IsOutside}
use Rattle.rv_size_laws.proofs.ShorteningLemmas.{IsOpen, before_all}
use Rattle.rv_size_laws.proofs.OffsetsLemmas.{whole as parts}
use Rattle.rv_size_laws.proofs.ReachingLemmas.{offset_more}
use Rattle.rv_size_laws.specs.Sites.{site_end}
use Rattle.rv_call_sizes.specs.Passes.{IsPlace, drops}

-- what the code has past the end of a text
abbrev pub zeros_site : Site
zeros_site = record { offset = 0; kind = Call (record { target = 0; addend = pos 0; compressed = false }) }

-- what is read there does not matter
pub site_read : (sites : List Site) (i : ℕ) → i < length sites → slice_index_or sites i zeros_site ≡ site_at sites i
site_read [] i within = absurd (omega arith)
site_read (site ∷ sites) zero within = refl
site_read (site ∷ sites) (suc i) within = site_read sites i (omega arith)

-- ---- one size set

pub take_kept : (sites : List Site) (kept : List ℕ) (i v j : ℕ) → j ≤ i → take j (drops sites (set kept i v)) ≡ take j (drops sites kept)
take_kept [] kept i v j le = refl
take_kept (site ∷ sites) [] i v j le = refl
take_kept (site ∷ sites) (k ∷ kept) zero v zero le = refl
take_kept (site ∷ sites) (k ∷ kept) zero v (suc j) le = absurd (omega arith)
take_kept (site ∷ sites) (k ∷ kept) (suc i) v zero le = refl
take_kept (site ∷ sites) (k ∷ kept) (suc i) v (suc j) le = ap (λ rest. (bytes_of site.kind - k) ∷ rest) (take_kept sites kept i v j (omega arith))

pub drop_kept : (sites : List Site) (kept : List ℕ) (i v j : ℕ) → i < j → drop j (drops sites (set kept i v)) ≡ drop j (drops sites kept)
drop_kept [] kept i v j lt = refl
drop_kept (site ∷ sites) [] i v j lt = refl
drop_kept (site ∷ sites) (k ∷ kept) zero v zero lt = absurd (omega arith)
drop_kept (site ∷ sites) (k ∷ kept) zero v (suc j) lt = refl
drop_kept (site ∷ sites) (k ∷ kept) (suc i) v zero lt = absurd (omega arith)
drop_kept (site ∷ sites) (k ∷ kept) (suc i) v (suc j) lt = drop_kept sites kept i v j (omega arith)

pub drop_at : (sites : List Site) (kept : List ℕ) (i : ℕ) → i < length sites → length kept ≡ length sites → slice_index (drops sites kept) i ≡ bytes_of (site_at sites i).kind - slice_index kept i
drop_at [] kept i lt same = absurd (omega arith)
drop_at (site ∷ sites) [] i lt same = absurd (omega arith)
drop_at (site ∷ sites) (k ∷ kept) zero lt same = refl
drop_at (site ∷ sites) (k ∷ kept) (suc i) lt same = drop_at sites kept i (omega arith) (omega arith)

pub drops_length : (sites : List Site) (kept : List ℕ) → length kept ≡ length sites → length (drops sites kept) ≡ length sites
drops_length [] kept same = refl
drops_length (site ∷ sites) [] same = absurd (omega arith)
drops_length (site ∷ sites) (k ∷ kept) same = ap suc (drops_length sites kept (omega arith))

-- what a site drops more where fewer of its bytes are kept
pub drops_set : (sites : List Site) (kept : List ℕ) (i new : ℕ) → length kept ≡ length sites → new ≤ slice_index kept i → slice_index kept i ≤ bytes_of (site_at sites i).kind
    → drops sites (set kept i new) ≡ set (drops sites kept) i (slice_index (drops sites kept) i + (slice_index kept i - new))
drops_set [] kept i new same less most = refl
drops_set (site ∷ sites) [] i new same less most = absurd (omega arith)
drops_set (site ∷ sites) (k ∷ kept) zero new same less most =
    let more : bytes_of site.kind - new ≡ (bytes_of site.kind - k) + (k - new) = omega arith in
    ap (λ n. n ∷ drops sites kept) more
drops_set (site ∷ sites) (k ∷ kept) (suc i) new same less most = ap (λ others. (bytes_of site.kind - k) ∷ others) (drops_set sites kept i new (omega arith) less most)

-- ---- sums

-- what is dropped up to the next site
pub dropped_next : (sites : List Site) (kept : List ℕ) (i : ℕ) → i < length sites → length kept ≡ length sites
    → offset (drops sites kept) (i + 1) ≡ offset (drops sites kept) i + (bytes_of (site_at sites i).kind - slice_index kept i)
dropped_next sites kept i within same = offset_more (drops sites kept) i ∙ ap (λ n. offset (drops sites kept) i + n) (drop_at sites kept i within same)

-- of a call at least two bytes of eight are kept, of a padding all
own_low : (kind : SiteKind) (k : ℕ) → Offers kind k → 4 * (bytes_of kind - k) ≤ 3 * bytes_of kind
own_low (Call call) k h = ⊎_elim (λ a. omega arith) (λ b. ⊎_elim (λ c. omega arith) (λ d. let e : k ≡ 2 = d.0 in omega arith) b) h
own_low (Padding padding) k h = omega arith

sums_low : (from top : ℕ) (sites : List Site) (kept : List ℕ) → InOrder from sites → ((i : ℕ) → i < length sites → site_end (site_at sites i) ≤ top)
    → ((i : ℕ) → Offers (site_at sites i).kind (slice_index kept i)) → from ≤ top → 3 * from + 4 * sum (drops sites kept) ≤ 3 * top
sums_low from top [] kept order ends offered low = omega arith
sums_low from top (site ∷ sites) [] order ends offered low = omega arith
sums_low from top (site ∷ sites) (k ∷ kept) order ends offered low =
    let first : from ≤ site.offset = order.0 in
    let others : 3 * (site.offset + bytes_of site.kind) + 4 * sum (drops sites kept) ≤ 3 * top =
    sums_low (site.offset + bytes_of site.kind) top sites kept order.1 (λ i lt. ends (suc i) (omega arith)) (λ i. offered (suc i)) (ends zero (omega arith)) in
    let own : 4 * (bytes_of site.kind - k) ≤ 3 * bytes_of site.kind = own_low site.kind k (offered zero) in
    let split : sum (drops (site ∷ sites) (k ∷ kept)) ≡ (bytes_of site.kind - k) + sum (drops sites kept) = sum_by-cons (λ x. x) (bytes_of site.kind - k) (drops sites kept) in
    omega arith

-- at most three quarters of a text are dropped
pub sum_low : (top : ℕ) (sites : List Site) (kept : List ℕ) → InOrder 0 sites → ((i : ℕ) → site_end (site_at sites i) ≤ top) → IsFamily sites kept → 4 * sum (drops sites kept) ≤ 3 * top
sum_low top sites kept order ends f = let h : 3 * 0 + 4 * sum (drops sites kept) ≤ 3 * top = sums_low 0 top sites kept order (λ i lt. ends i) f.offered (omega arith) in omega arith

length_low : (sites : List Site) (kept : List ℕ) → length (drops sites kept) ≤ length sites
length_low [] kept = omega arith
length_low (site ∷ sites) [] = omega arith
length_low (site ∷ sites) (k ∷ kept) = let others : length (drops sites kept) ≤ length sites = length_low sites kept in omega arith

-- past the last site nothing is left
pub none_left : (sites : List Site) (kept : List ℕ) → rest (drops sites kept) (length sites) ≡ 0
none_left sites kept = ap sum (drop_all (length sites) (drops sites kept) (length_low sites kept))

-- whole sites drop nothing
none_from : (sites : List Site) → sum (drops sites (whole_sizes sites)) ≡ 0
none_from [] = refl
none_from (site ∷ sites) =
    let others : sum (drops sites (whole_sizes sites)) ≡ 0 = none_from sites in
    let split : sum (drops (site ∷ sites) (whole_sizes (site ∷ sites))) ≡ (bytes_of site.kind - bytes_of site.kind) + sum (drops sites (whole_sizes sites)) =
    sum_by-cons (λ x. x) (bytes_of site.kind - bytes_of site.kind) (drops sites (whole_sizes sites)) in
    omega arith

pub none_at_first : (sites : List Site) (j : ℕ) → rest (drops sites (whole_sizes sites)) j ≡ 0
none_at_first sites j =
    let all : sum (drops sites (whole_sizes sites)) ≡ 0 = none_from sites in
    let both : offset (drops sites (whole_sizes sites)) j + rest (drops sites (whole_sizes sites)) j ≡ sum (drops sites (whole_sizes sites)) = parts (drops sites (whole_sizes sites)) j in
    omega arith

-- ---- what is dropped before an offset

-- a site before another ends where that begins or before
pub later : (sites : List Site) (from : ℕ) → InOrder from sites → (i j : ℕ) → i < j → j < length sites → site_end (site_at sites i) ≤ (site_at sites j).offset
later [] from order i j before within = absurd (omega arith)
later (site ∷ sites) from order i zero before within = absurd (omega arith)
later (site ∷ sites) from order zero (suc j) before within = before_all sites (site.offset + bytes_of site.kind) order.1 j (omega arith)
later (site ∷ sites) from order (suc i) (suc j) before within = later sites (site.offset + bytes_of site.kind) order.1 i j (omega arith) (omega arith)

none_dropped : (sites : List Site) (kept : List ℕ) (old : ℕ) → ((j : ℕ) → j < length sites → old ≤ (site_at sites j).offset) → dropped sites kept old ≡ 0
none_dropped sites [] old far = refl
none_dropped [] (k ∷ kept) old far = refl
none_dropped (site ∷ sites) (k ∷ kept) old far =
    let others : dropped sites kept old ≡ 0 = none_dropped sites kept old (λ j lt. far (suc j) (omega arith)) in
    let own : old ≤ site.offset = far zero (omega arith) in
    omega arith

no_offset : (n : ℕ) → offset [] n ≡ 0
no_offset zero = refl
no_offset (suc n) = refl

-- the sites that have ended drop all they can, and of the others the next alone may drop some
pub dropped_is : (sites : List Site) (kept : List ℕ) (old n : ℕ) → length kept ≡ length sites
    → ((j : ℕ) → j < n → j < length sites → site_end (site_at sites j) ≤ old) → ((j : ℕ) → n < j → j < length sites → old ≤ (site_at sites j).offset)
    → dropped sites kept old ≡ offset (drops sites kept) n + dropped_of (site_at sites n) (slice_index kept n) old
dropped_is [] [] old n same before after = let none : offset [] n ≡ 0 = no_offset n in omega arith
dropped_is (site ∷ sites) [] old n same before after = absurd (omega arith)
dropped_is [] (k ∷ kept) old n same before after = absurd (omega arith)
dropped_is (site ∷ sites) (k ∷ kept) old zero same before after =
    let others : dropped sites kept old ≡ 0 = none_dropped sites kept old (λ j lt. after (suc j) (omega arith) (omega arith)) in
    let none : offset (drops (site ∷ sites) (k ∷ kept)) 0 ≡ 0 = refl in
    omega arith
dropped_is (site ∷ sites) (k ∷ kept) old (suc n) same before after =
    let others : dropped sites kept old ≡ offset (drops sites kept) n + dropped_of (site_at sites n) (slice_index kept n) old =
    dropped_is sites kept old n (omega arith) (λ j lt within. before (suc j) (omega arith) (omega arith)) (λ j lt within. after (suc j) (omega arith) (omega arith)) in
    let ended : site.offset + bytes_of site.kind ≤ old = before zero (omega arith) (omega arith) in
    let own : min (bytes_of site.kind - k) (old - (site.offset + k)) ≡ bytes_of site.kind - k = omega arith in
    let split : offset (drops (site ∷ sites) (k ∷ kept)) (suc n) ≡ (bytes_of site.kind - k) + offset (drops sites kept) n = sum_by-cons (λ x. x) (bytes_of site.kind - k) (take n (drops sites kept)) in
    let whole : dropped (site ∷ sites) (k ∷ kept) old ≡ min (bytes_of site.kind - k) (old - (site.offset + k)) + dropped sites kept old = refl in
    omega arith

-- before a site
pub dropped_before_site : (sites : List Site) (kept : List ℕ) (i : ℕ) → InOrder 0 sites → length kept ≡ length sites → i < length sites → dropped sites kept (site_at sites i).offset ≡ offset (drops sites kept) i
dropped_before_site sites kept i order same within =
    let is : dropped sites kept (site_at sites i).offset ≡ offset (drops sites kept) i + dropped_of (site_at sites i) (slice_index kept i) (site_at sites i).offset =
    dropped_is sites kept (site_at sites i).offset i same (λ j before there. later sites 0 order j i before within)
    (λ j after there. let next : site_end (site_at sites i) ≤ (site_at sites j).offset = later sites 0 order i j after there in omega arith) in
    omega arith

-- before any offset
pub dropped_at : (sites : List Site) (kept : List ℕ) (old n : ℕ) → InOrder 0 sites → length kept ≡ length sites → IsPlace sites old n
    → dropped sites kept old ≡ offset (drops sites kept) n + dropped_of (site_at sites n) (slice_index kept n) old
dropped_at sites kept old n order same place =
    dropped_is sites kept old n same (λ j before there. place.before j before)
    (λ j after there.
    let next : site_end (site_at sites n) ≤ (site_at sites j).offset = later sites 0 order n j after there in
    let here : old < site_end (site_at sites n) = place.after n (omega arith) (omega arith) in
    omega arith)

pub past_drops : (sites : List Site) (n k old : ℕ) → length sites ≤ n → dropped_of (site_at sites n) k old ≡ 0
past_drops sites n k old past =
    let none : bytes_of (site_at sites n).kind ≡ 0 = ap (λ (site : Site). bytes_of site.kind) (get_or_past sites n _ past) in
    omega arith

outside_drops : (begins : ℕ) (kind : SiteKind) (k old : ℕ) → Offers kind k → (IsTrue (is_call kind) → IsOutside old (record { offset = begins; kind = kind })) → old < begins + bytes_of kind
    → dropped_of (record { offset = begins; kind = kind }) k old ≡ 0
outside_drops begins (Call call) k old offered out lt = elim (out refl) [
  | inl before ↦ omega arith
  | inr after ↦ absurd (omega arith)
]
outside_drops begins (Padding padding) k old offered out lt = omega arith

-- at an offset that no call holds
pub dropped_outside : (sites : List Site) (kept : List ℕ) (old n : ℕ) → InOrder 0 sites → IsFamily sites kept → IsPlace sites old n → IsOpen sites old → dropped sites kept old ≡ offset (drops sites kept) n
dropped_outside sites kept old n order f place out =
    let is : dropped sites kept old ≡ offset (drops sites kept) n + dropped_of (site_at sites n) (slice_index kept n) old =
    dropped_at sites kept old n order f.same_length place in
    let none : dropped_of (site_at sites n) (slice_index kept n) old ≡ 0 = elim (cases_lt n (length sites)) [
      | inl within ↦ outside_drops (site_at sites n).offset (site_at sites n).kind (slice_index kept n) old (f.offered n) (out n) (place.after n (omega arith) within)
      | inr past ↦ past_drops sites n (slice_index kept n) old past
    ] in
    omega arith
