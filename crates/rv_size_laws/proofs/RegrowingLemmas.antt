-- Whatever paddings regrow, shortened calls reach; and the least paddings fit.

use Rattle.std.proofs.Common.{◌≡◌, ◌⊎◌, inl, inr, ℕ, zero, suc, ◌+◌, ◌-◌, ◌*◌, ◌/◌, ◌%◌, ◌≤◌, ◌<◌, IsTrue, List, [], ◌∷◌, length, slice_index, pos, ◌-ℤ◌, refl, ap, subst, sym, ◌∙◌, arith, add-mul, mul_assoc}
use Rattle.std.proofs.lemmas.Bool.{cases_lt, cases_eq}
use Rattle.std.proofs.lemmas.List.{get_or_past}
use Rattle.std.proofs.lemmas.Nat.{div-add-mod', mod_below, mod-mul-add}
use Rattle.rv_size_laws.specs.declared.site.Site.{Site}
use Rattle.rv_size_laws.specs.declared.site.SiteKind.{SiteKind}
use Rattle.rv_size_laws.specs.declared.site.SiteKind.TheVariants.{Call, Padding}
use Rattle.rv_size_laws.specs.Offsets.{GrowsEvenly, AtMost}
use Rattle.rv_size_laws.specs.Calls.{bytes_of, Offers, half, is_call, site_at, dropped_of, dropped, new_offset, ReachesFrom, ReachesBy, IsFamily, IsGreatestClosed, InOrder, IsOutside, IsText}
use Rattle.rv_size_laws.specs.Paddings.{IsLeastPadding, IsLaid, IsRelaxedText, MayRegrow, Regrows, AllReach, IsFullPadding, LeadsEvenly, IsEvenText}
use Rattle.rv_size_laws.proofs.ReachingLemmas.{reaches_nearer}
use Rattle.rv_size_laws.proofs.DroppingLemmas.{DropsEvenly, all_drop_evenly, drops_outside, drops_even, offsets_nearer, dropped_most}
use Rattle.rv_size_laws.proofs.ShorteningLemmas.{offers_most, call_even, greatest_reaching, before_all}

-- ---- whatever paddings regrow

regrown_most : (kind : SiteKind) (sized kept : ℕ) → Offers kind sized → MayRegrow kind sized kept → kept ≤ sized
regrown_most (Call call) sized kept o h = omega arith
regrown_most (Padding padding) sized kept o h = let le : kept ≤ padding.bytes = h.0 in omega arith

sized_even : (kind : SiteKind) (sized : ℕ) → Offers kind sized → bytes_of kind % 2 ≡ 0 → sized % 2 ≡ 0
sized_even (Call call) sized o e = call_even call sized o
sized_even (Padding padding) sized o e = omega arith

regrown_even : (kind : SiteKind) (sized kept : ℕ) → Offers kind sized → MayRegrow kind sized kept → bytes_of kind % 2 ≡ 0 → kept % 2 ≡ 0
regrown_even (Call call) sized kept o h e = let even : sized % 2 ≡ 0 = call_even call sized o in omega arith
regrown_even (Padding padding) sized kept o h e = h.1

site_drops : (site : Site) (sized kept old : ℕ) → Offers site.kind sized → MayRegrow site.kind sized kept → bytes_of site.kind % 2 ≡ 0 → site.offset % 2 ≡ 0
    → (old % 2 ≡ 0) ⊎ IsOutside old site → DropsEvenly site kept sized old
site_drops site sized kept old o r b s h =
    let most : kept ≤ sized = regrown_most site.kind sized kept o r in
    let whole : sized ≤ bytes_of site.kind = offers_most site.kind sized o in
    let p : kept % 2 ≡ 0 = regrown_even site.kind sized kept o r b in
    let q : sized % 2 ≡ 0 = sized_even site.kind sized o b in
    elim h [
      | inl even ↦ drops_even site kept sized old most whole p q b s even
      | inr out ↦ drops_outside site kept sized old ((sized - kept) / 2, omega arith) whole out
    ]

regrown_reaches : (sites : List Site) → InOrder 0 sites → IsEvenText sites → (sized kept : List ℕ) → IsFamily sites sized → Regrows sites sized kept
    → (i : ℕ) (kind : SiteKind) (size : ℕ) → ((j : ℕ) → LeadsEvenly kind (site_at sites j))
    → ReachesFrom sites sized (site_at sites i).offset kind size → ReachesFrom sites kept (site_at sites i).offset kind size
regrown_reaches sites order even sized kept f r i (Padding padding) size leads h = h
regrown_reaches sites order even sized kept f r i (Call call) size leads h =
    let same : length kept ≡ length sized = r.same_length ∙ sym f.same_length in
    let from : ℕ = (site_at sites i).offset in
    let most : AtMost kept sized = λ j. regrown_most (site_at sites j).kind (slice_index sized j) (slice_index kept j) (f.offered j) (r.regrown j) in
    let drops : (old : ℕ) → ((j : ℕ) → (old % 2 ≡ 0) ⊎ IsOutside old (site_at sites j)) → GrowsEvenly (dropped sites sized old) (dropped sites kept old) =
    λ old each. all_drop_evenly sites kept sized old same (λ j.
    site_drops (site_at sites j) (slice_index sized j) (slice_index kept j) old (f.offered j) (r.regrown j) (even.bytes j) (even.offsets j) (each j)) in
    reaches_nearer (half size) call.addend
    (pos (new_offset sites kept call.target) -ℤ pos (new_offset sites kept (site_at sites i).offset))
    (pos (new_offset sites sized call.target) -ℤ pos (new_offset sites sized (site_at sites i).offset))
    (offsets_nearer sites kept sized order same most (λ j. offers_most (site_at sites j).kind (slice_index sized j) (f.offered j)) (site_at sites i).offset call.target
    (drops (site_at sites i).offset (λ j. inl (even.offsets i))) (drops call.target leads)) h

call_bytes : (kind : SiteKind) → IsTrue (is_call kind) → bytes_of kind ≡ 8
call_bytes (Call call) h = refl
call_bytes (Padding padding) h = (cc)

regrown_call : (kind : SiteKind) (sized kept : ℕ) → IsTrue (is_call kind) → MayRegrow kind sized kept → kept ≡ sized
regrown_call (Call call) sized kept h r = r
regrown_call (Padding padding) sized kept h r = (cc)

pub regrown_all_reach : (sites : List Site) → IsText sites → IsEvenText sites → (sized kept : List ℕ) → IsGreatestClosed sites sized → Regrows sites sized kept → AllReach sites kept
regrown_all_reach sites text even sized kept greatest r i call lt =
    let same : slice_index kept i ≡ slice_index sized i = regrown_call (site_at sites i).kind (slice_index sized i) (slice_index kept i) call (r.regrown i) in
    let eight : bytes_of (site_at sites i).kind ≡ 8 = call_bytes (site_at sites i).kind call in
    let before : ReachesBy sites sized i (slice_index sized i) = greatest_reaching sites text sized greatest i (omega arith) in
    let there : ReachesBy sites sized i (slice_index kept i) = subst (ReachesBy sites sized i) (sym same) before in
    regrown_reaches sites text.in_order even sized kept greatest.closed.family r i (site_at sites i).kind (slice_index kept i) (even.targets i) there

-- ---- the least padding

-- one that aligns: what is left of an alignment
aligning : (alignment start : ℕ) → 0 < alignment → (q : ℕ) × (((start + q) % alignment ≡ 0) × (q < alignment))
aligning alignment start some =
    let parts : start / alignment * alignment + start % alignment ≡ start = div-add-mod' start alignment in
    let below : start % alignment < alignment = mod_below start alignment some in
    let whole : (k : ℕ) → k * alignment % alignment ≡ 0 = λ k. ap (λ n. n % alignment) (omega arith) ∙ mod-mul-add k alignment 0 some in
    elim (cases_eq (start % alignment) 0) [
      | inl aligned ↦ (0, (ap (λ n. n % alignment) (omega arith) ∙ aligned, some))
      | inr short ↦
          let next : start + (alignment - start % alignment) ≡ (start / alignment + 1) * alignment = rw (add-mul) (omega arith) in
          (alignment - start % alignment, (ap (λ n. n % alignment) next ∙ whole (start / alignment + 1), omega arith))
    ]

multiple_even : (k alignment : ℕ) → alignment % 2 ≡ 0 → k * alignment % 2 ≡ 0
multiple_even k alignment even =
    let halved : alignment ≡ alignment / 2 * 2 = omega arith in
    let twice : k * alignment ≡ k * (alignment / 2) * 2 = ap (λ a. k * a) halved ∙ sym (mul_assoc k (alignment / 2) 2) in
    omega arith

pub least_padding_fits : (alignment start padding : ℕ) → 0 < alignment → alignment % 2 ≡ 0 → start % 2 ≡ 0 → IsLeastPadding alignment start padding
    → (padding + 2 ≤ alignment) × (padding % 2 ≡ 0)
least_padding_fits alignment start padding some even at h =
    let other = aligning alignment start some in
    let least : padding ≤ other.0 = h.least other.0 other.1.0 in
    let below : other.0 < alignment = other.1.1 in
    let aligned : (start + padding) % alignment ≡ 0 = h.aligned in
    let whole : (start + padding) / alignment * alignment + (start + padding) % alignment ≡ start + padding = div-add-mod' (start + padding) alignment in
    let end : (start + padding) / alignment * alignment % 2 ≡ 0 = multiple_even ((start + padding) / alignment) alignment even in
    let padded : padding % 2 ≡ 0 = omega arith in
    (omega arith, padded)

-- ---- the least paddings

earlier_ends : (sites : List Site) (from : ℕ) → InOrder from sites → (i j : ℕ) → i < j → j < length sites → (site_at sites i).offset + bytes_of (site_at sites i).kind ≤ (site_at sites j).offset
earlier_ends [] from order i j lt within = absurd (omega arith)
earlier_ends (site ∷ sites) from order zero zero lt within = absurd (omega arith)
earlier_ends (site ∷ sites) from order zero (suc j) lt within = before_all sites (site.offset + bytes_of site.kind) order.1 j (omega arith)
earlier_ends (site ∷ sites) from order (suc i) zero lt within = absurd (omega arith)
earlier_ends (site ∷ sites) from order (suc i) (suc j) lt within = earlier_ends sites (site.offset + bytes_of site.kind) order.1 i j (omega arith) (omega arith)

dropped_even : (sites : List Site) (kept : List ℕ) (old : ℕ) → ((i : ℕ) → dropped_of (site_at sites i) (slice_index kept i) old % 2 ≡ 0) → dropped sites kept old % 2 ≡ 0
dropped_even sites [] old each = refl
dropped_even [] (k ∷ kept) old each = refl
dropped_even (site ∷ sites) (k ∷ kept) old each =
    let one : dropped_of site k old % 2 ≡ 0 = each zero in
    let rest : dropped sites kept old % 2 ≡ 0 = dropped_even sites kept old (λ i. each (suc i)) in
    omega arith

-- where the earlier sites keep even numbers of bytes, a site begins at an even offset
start_even : (sites : List Site) → InOrder 0 sites → IsEvenText sites → (kept : List ℕ) (n : ℕ) → length kept ≡ length sites → n < length sites
    → ((i : ℕ) → i < n → slice_index kept i % 2 ≡ 0) → new_offset sites kept (site_at sites n).offset % 2 ≡ 0
start_even sites order even kept n same within earlier =
    let at : (site_at sites n).offset % 2 ≡ 0 = even.offsets n in
    let each : (i : ℕ) → dropped_of (site_at sites i) (slice_index kept i) (site_at sites n).offset % 2 ≡ 0 = λ i. elim (cases_lt i n) [
      | inl before ↦
          let ends : (site_at sites i).offset + bytes_of (site_at sites i).kind ≤ (site_at sites n).offset = earlier_ends sites 0 order i n before within in
          let k : slice_index kept i % 2 ≡ 0 = earlier i before in
          let b : bytes_of (site_at sites i).kind % 2 ≡ 0 = even.bytes i in
          omega arith
      | inr later ↦ elim (cases_lt i (length sites)) [
        | inr past ↦
            let none : bytes_of (site_at sites i).kind ≡ 0 = ap (λ (site : Site). bytes_of site.kind) (get_or_past sites i _ past) in
            omega arith
        | inl there ↦ elim (cases_lt n i) [
          | inl after ↦
              let begins : (site_at sites n).offset + bytes_of (site_at sites n).kind ≤ (site_at sites i).offset = earlier_ends sites 0 order n i after there in
              omega arith
          | inr here ↦
              let same_offset : (site_at sites i).offset ≡ (site_at sites n).offset = ap (λ k. (site_at sites k).offset) (omega arith) in
              omega arith
        ]
      ]
    ] in
    let sum_even : dropped sites kept (site_at sites n).offset % 2 ≡ 0 = dropped_even sites kept (site_at sites n).offset each in
    let most : dropped sites kept (site_at sites n).offset ≤ (site_at sites n).offset = dropped_most sites kept (site_at sites n).offset order in
    omega arith

laid_regrows : (kind : SiteKind) (sized start kept : ℕ) → IsFullPadding kind → start % 2 ≡ 0 → IsLaid kind sized start kept → MayRegrow kind sized kept
laid_regrows (Call call) sized start kept full at h = h
laid_regrows (Padding padding) sized start kept full at h =
    let whole : padding.alignment ≡ padding.bytes + 2 = full.0 in
    let even : padding.bytes % 2 ≡ 0 = full.1 in
    let fits : (kept + 2 ≤ padding.alignment) × (kept % 2 ≡ 0) = least_padding_fits padding.alignment start kept (omega arith) (omega arith) at h in
    let le : kept + 2 ≤ padding.alignment = fits.0 in
    (omega arith, fits.1)

laid_before : (sites : List Site) → InOrder 0 sites → IsEvenText sites → ((i : ℕ) → IsFullPadding (site_at sites i).kind) → (sized kept : List ℕ) → IsFamily sites sized → IsRelaxedText sites sized kept
    → (n : ℕ) → n ≤ length sites → (i : ℕ) → i < n → MayRegrow (site_at sites i).kind (slice_index sized i) (slice_index kept i)
laid_before sites order even full sized kept f padded zero le i lt = absurd (omega arith)
laid_before sites order even full sized kept f padded (suc n) le i lt =
    let before : (k : ℕ) → k < n → MayRegrow (site_at sites k).kind (slice_index sized k) (slice_index kept k) = laid_before sites order even full sized kept f padded n (omega arith) in
    let start : new_offset sites kept (site_at sites n).offset % 2 ≡ 0 =
    start_even sites order even kept n padded.same_length (omega arith) (λ k b. regrown_even (site_at sites k).kind (slice_index sized k) (slice_index kept k) (f.offered k) (before k b) (even.bytes k)) in
    let here : MayRegrow (site_at sites n).kind (slice_index sized n) (slice_index kept n) =
    laid_regrows (site_at sites n).kind (slice_index sized n) (new_offset sites kept (site_at sites n).offset) (slice_index kept n) (full n) start (padded.laid n) in
    elim (cases_eq i n) [
      | inl same ↦ subst (λ k. MayRegrow (site_at sites k).kind (slice_index sized k) (slice_index kept k)) (sym same) here
      | inr other ↦ before i (omega arith)
    ]

pub padded_regrows : (sites : List Site) → IsText sites → IsEvenText sites → ((i : ℕ) → IsFullPadding (site_at sites i).kind) → (sized kept : List ℕ) → IsFamily sites sized → IsRelaxedText sites sized kept
    → Regrows sites sized kept
padded_regrows sites text even full sized kept f padded = record {
  same_length = padded.same_length;
  regrown = λ i. elim (cases_lt i (length sites)) [
    | inl within ↦ laid_before sites text.in_order even full sized kept f padded (length sites) (omega arith) i within
    | inr past ↦
        let none : slice_index kept i ≡ 0 = get_or_past kept i 0 (omega (arith, padded.same_length)) in
        subst (λ (site : Site). MayRegrow site.kind (slice_index sized i) (slice_index kept i)) (sym (get_or_past sites i _ past)) (omega arith, omega arith)
  ];
}
