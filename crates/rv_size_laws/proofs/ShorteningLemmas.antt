-- Shortening what may be shorter, in any order, ends at the one greatest closed family.

use Rattle.std.proofs.Common.{◌≡◌, ◌⊎◌, inl, inr, ⊎_elim, ℕ, zero, suc, ◌+◌, ◌-◌, ◌*◌, ◌/◌, ◌%◌, ◌≤◌, ◌<◌, true, false, IsTrue, cond, List, [], ◌∷◌, length, set, slice_index, ℤ, pos, ◌-ℤ◌, refl, ap, subst, sym, ◌∙◌, arith}
use Rattle.std.proofs.lemmas.Bool.{cases_lt, cases_eq, cases_Bool}
use Rattle.std.proofs.lemmas.List.{length-map, get_or_past}
use Rattle.std.proofs.Math.ListN.{get_or-map}
use Rattle.rv_size_laws.specs.declared.site.Site.{Site}
use Rattle.rv_size_laws.specs.declared.site.Call.{Call as CallSite}
use Rattle.rv_size_laws.specs.declared.site.SiteKind.{SiteKind}
use Rattle.rv_size_laws.specs.declared.site.SiteKind.TheVariants.{Call, Padding}
use Rattle.rv_size_laws.specs.Offsets.{GrowsEvenly, AtMost}
use Rattle.rv_size_laws.specs.Calls.{bytes_of, Offers, half, is_call, site_at, dropped, new_offset, ReachesFrom, ReachesBy, IsFamily, MayShorten, IsClosed, IsGreatestClosed, calls, Shortenings, whole_sizes, InOrder, IsOutside, LeadsOutside, IsText}
use Rattle.rv_size_laws.proofs.StepsLemmas.{AreSteps, steps_keep, steps_hold, steps_end, set_family, set_holds, weights_most, all_or_one, at_most_both}
use Rattle.rv_size_laws.proofs.JumpSizesLemmas.{IsJumpSize, jump_even, jump_grows, quarter_grows, quarter_most, jump_most}
use Rattle.rv_size_laws.proofs.ReachingLemmas.{reaches_nearer, reaches, reaches_tested, reaches_passes}
use Rattle.rv_size_laws.proofs.DroppingLemmas.{DropsEvenly, all_drop_evenly, drops_outside, drops_same, offsets_nearer}

-- ---- sizes

call_size : (call : CallSite) (kept : ℕ) → Offers (Call call) kept → IsJumpSize kept
call_size call kept h = grind arith

pub offers_most : (kind : SiteKind) (kept : ℕ) → Offers kind kept → kept ≤ bytes_of kind
offers_most (Call call) kept h = jump_most kept (call_size call kept h)
offers_most (Padding padding) kept h = omega arith

pub call_even : (call : CallSite) (kept : ℕ) → Offers (Call call) kept → kept % 2 ≡ 0
call_even call kept h = jump_even kept (call_size call kept h)

offers_grow : (kind : SiteKind) (a b : ℕ) → Offers kind a → Offers kind b → a ≤ b → GrowsEvenly a b
offers_grow (Call call) a b x y le = jump_grows a b (call_size call a x) (call_size call b y) le
offers_grow (Padding padding) a b x y le = (0, omega arith)

offers_whole : (kind : SiteKind) → Offers kind (bytes_of kind)
offers_whole (Call call) = inl refl
offers_whole (Padding padding) = refl

-- ---- families

-- at an offset that no call holds, a site drops evenly more under the smaller of two families
site_drops : (old : ℕ) (offset : ℕ) (kind : SiteKind) (s l : ℕ) → Offers kind s → Offers kind l → s ≤ l
    → (IsTrue (is_call kind) → IsOutside old (record { offset = offset; kind = kind })) → DropsEvenly (record { offset = offset; kind = kind }) s l old
site_drops old offset (Call call) s l x y le out =
    drops_outside (record { offset = offset; kind = Call call }) s l old (offers_grow (Call call) s l x y le) (offers_most (Call call) l y) (out refl)
site_drops old offset (Padding padding) s l x y le out = drops_same (record { offset = offset; kind = Padding padding }) s l old (omega arith)

-- an offset that no call holds
abbrev pub IsOpen : List Site → ℕ → Type 0
IsOpen sites old = (j : ℕ) → IsTrue (is_call (site_at sites j).kind) → IsOutside old (site_at sites j)

open_drops : (sites : List Site) (small large : List ℕ) → IsFamily sites small → IsFamily sites large → AtMost small large → (old : ℕ) → IsOpen sites old
    → GrowsEvenly (dropped sites large old) (dropped sites small old)
open_drops sites small large f g most old out =
    all_drop_evenly sites small large old (f.same_length ∙ sym g.same_length)
    (λ i. site_drops old (site_at sites i).offset (site_at sites i).kind (slice_index small i) (slice_index large i) (f.offered i) (g.offered i) (most i) (out i))

reaches_from_smaller : (sites : List Site) (small large : List ℕ) → InOrder 0 sites → IsFamily sites small → IsFamily sites large → AtMost small large
    → (from : ℕ) (kind : SiteKind) (size : ℕ) → IsOpen sites from → ((j : ℕ) → LeadsOutside kind (site_at sites j)) → ReachesFrom sites large from kind size → ReachesFrom sites small from kind size
reaches_from_smaller sites small large order f g most from (Call call) size here there r =
    reaches_nearer (half size) call.addend
    (pos (new_offset sites small call.target) -ℤ pos (new_offset sites small from)) (pos (new_offset sites large call.target) -ℤ pos (new_offset sites large from))
    (offsets_nearer sites small large order (f.same_length ∙ sym g.same_length) most (λ i. offers_most (site_at sites i).kind (slice_index large i) (g.offered i)) from call.target
    (open_drops sites small large f g most from here) (open_drops sites small large f g most call.target there)) r
reaches_from_smaller sites small large order f g most from (Padding padding) size here there r = r

-- where a site begins, each other has ended or not begun
pub before_all : (sites : List Site) (from : ℕ) → InOrder from sites → (i : ℕ) → i < length sites → from ≤ (site_at sites i).offset
before_all [] from order i lt = absurd (omega arith)
before_all (site ∷ sites) from order zero lt = order.0
before_all (site ∷ sites) from order (suc i) lt =
    let first : from ≤ site.offset = order.0 in
    let rest : site.offset + bytes_of site.kind ≤ (site_at sites i).offset = before_all sites (site.offset + bytes_of site.kind) order.1 i (omega arith) in
    omega arith

pub site_is_open : (sites : List Site) (from : ℕ) → InOrder from sites → (i j : ℕ) → i < length sites → j < length sites → IsOutside (site_at sites i).offset (site_at sites j)
site_is_open [] from order i j a b = absurd (omega arith)
site_is_open (site ∷ sites) from order zero zero a b = inl (omega arith)
site_is_open (site ∷ sites) from order zero (suc j) a b =
    let rest : site.offset + bytes_of site.kind ≤ (site_at sites j).offset = before_all sites (site.offset + bytes_of site.kind) order.1 j (omega arith) in
    inl (omega arith)
site_is_open (site ∷ sites) from order (suc i) zero a b = inr (before_all sites (site.offset + bytes_of site.kind) order.1 i (omega arith))
site_is_open (site ∷ sites) from order (suc i) (suc j) a b = site_is_open sites (site.offset + bytes_of site.kind) order.1 i j (omega arith) (omega arith)

past_is_padding : (sites : List Site) (j : ℕ) → length sites ≤ j → IsTrue (is_call (site_at sites j).kind) → ⊥
past_is_padding sites j past h = let no : is_call (site_at sites j).kind ≡ false = ap (λ (site : Site). is_call site.kind) (get_or_past sites j _ past) in cc

site_open : (sites : List Site) → InOrder 0 sites → (i : ℕ) → i < length sites → IsOpen sites (site_at sites i).offset
site_open sites order i within j call = elim (cases_lt j (length sites)) [
  | inl there ↦ site_is_open sites 0 order i j within there
  | inr past ↦ absurd (past_is_padding sites j past call)
]

-- what reaches reaches under smaller sizes
pub reaches_smaller : (sites : List Site) → IsText sites → (small large : List ℕ) → IsFamily sites small → IsFamily sites large → AtMost small large
    → (i size : ℕ) → i < length sites → ReachesBy sites large i size → ReachesBy sites small i size
reaches_smaller sites text small large f g most i size within r =
    reaches_from_smaller sites small large text.in_order f g most (site_at sites i).offset (site_at sites i).kind size
    (site_open sites text.in_order i within) (text.outside i) r

-- ---- shortening

whole_at : (sites : List Site) (i : ℕ) → slice_index (whole_sizes sites) i ≡ bytes_of (site_at sites i).kind
whole_at sites i = get_or-map (λ site. bytes_of site.kind) sites i _

pub whole_family : (sites : List Site) → IsFamily sites (whole_sizes sites)
whole_family sites = record {
  same_length = length-map sites (λ site. bytes_of site.kind);
  offered = λ i. subst (Offers (site_at sites i).kind) (sym (whole_at sites i)) (offers_whole (site_at sites i).kind);
}

within_if_offered : (sites : List Site) (kept : List ℕ) (i shorter : ℕ) → IsFamily sites kept → MayShorten sites kept i shorter → i < length sites
within_if_offered sites kept i shorter f may =
    elim (cases_lt i (length sites)) [
      | inl within ↦ within
      | inr past ↦
          let less : shorter < slice_index kept i = may.shrinks in
          let none : slice_index kept i ≡ 0 = get_or_past kept i 0 (omega (arith, f.same_length)) in
          absurd (omega arith)
    ]

-- how often a call has been shortened, at most
abbrev weight : SiteKind → ℕ → ℕ
weight (Call call) kept = 2 - kept / 4
weight (Padding padding) kept = 0

weight_adds : (kind : SiteKind) (a b : ℕ) → Offers kind a → Offers kind b → b < a → weight kind a < weight kind b
weight_adds (Call call) a b x y lt =
    let more : b / 4 < a / 4 = quarter_grows b a (call_size call b y) (call_size call a x) lt in
    let most : a / 4 ≤ 2 = quarter_most a (call_size call a x) in
    omega arith
weight_adds (Padding padding) a b x y lt = absurd (omega arith)

weight_most : (kind : SiteKind) (kept : ℕ) → weight kind kept ≤ 2 * cond (is_call kind) 1 0
weight_most (Call call) kept = omega arith
weight_most (Padding padding) kept = omega arith

pub shortening : (sites : List Site) → AreSteps (length sites) (λ i. Offers (site_at sites i).kind) (MayShorten sites) (whole_sizes sites) (λ i. weight (site_at sites i).kind) (2 * calls sites)
shortening sites = record {
  begins = whole_family sites;
  offered = λ kept i shorter may. may.offered;
  within = within_if_offered sites;
  adds = λ kept i shorter f may. weight_adds (site_at sites i).kind (slice_index kept i) shorter (f.offered i) may.offered may.shrinks;
  bounded = λ kept f. weights_most (λ site. is_call site.kind) sites _ (λ i. weight (site_at sites i).kind) kept f.same_length (λ i. weight_most (site_at sites i).kind (slice_index kept i));
}

-- ---- where it ends

-- no shortening passes a closed family
stays_above : (sites : List Site) → IsText sites → (others : List ℕ) → IsClosed sites others → (kept : List ℕ) (i shorter : ℕ) → IsFamily sites kept → AtMost others kept → MayShorten sites kept i shorter → slice_index others i ≤ shorter
stays_above sites text others closed kept i shorter f above may = elim (cases_lt shorter (slice_index others i)) [
  | inr le ↦ le
  | inl more ↦ absurd (closed.closed i shorter (record {
    shrinks = more;
    offered = may.offered;
    reaching = reaches_smaller sites text others kept closed.family f above i shorter (within_if_offered sites kept i shorter f may) may.reaching;
  }))
]

whole_above : (sites : List Site) (others : List ℕ) → IsFamily sites others → AtMost others (whole_sizes sites)
whole_above sites others f i = omega (arith, whole_at sites i, offers_most (site_at sites i).kind (slice_index others i) (f.offered i))

pub shortened_greatest : (sites : List Site) → IsText sites → (kept : List ℕ) (n : ℕ) → Shortenings sites (whole_sizes sites) kept n → IsClosed sites kept → IsGreatestClosed sites kept
shortened_greatest sites text kept n shortenings closed = record {
  closed = closed;
  greatest = λ others other. steps_hold (shortening sites) (λ k size. slice_index others k ≤ size) (stays_above sites text others other) (whole_above sites others other.family) kept n shortenings;
}

pub one_greatest_closed : (sites : List Site) (kept others : List ℕ) → IsGreatestClosed sites kept → IsGreatestClosed sites others → kept ≡ others
one_greatest_closed sites kept others a b = at_most_both kept others (a.closed.family.same_length ∙ sym b.closed.family.same_length) (b.greatest kept a.closed) (a.greatest others b.closed)

-- a size of a call reaches, or does not
reach_cases : (sites : List Site) (kept : List ℕ) (from : ℕ) (kind : SiteKind) (size : ℕ) → ReachesFrom sites kept from kind size ⊎ (ReachesFrom sites kept from kind size → ⊥)
reach_cases sites kept from (Padding padding) size = inr (λ h. h)
reach_cases sites kept from (Call call) size =
    let away : ℤ = pos (new_offset sites kept call.target) -ℤ pos (new_offset sites kept from) in
    elim (cases_Bool (reaches (half size) call.addend (pos (new_offset sites kept call.target) -ℤ pos (new_offset sites kept from)))) [
      | inl far ↦ inl (reaches_tested (half size) call.addend (pos (new_offset sites kept call.target) -ℤ pos (new_offset sites kept from)) far)
      | inr short ↦ inr (λ r. let passes = reaches_passes (half size) call.addend (pos (new_offset sites kept call.target) -ℤ pos (new_offset sites kept from)) r in cc)
    ]

offer_cases : (kind : SiteKind) (size : ℕ) → Offers kind size ⊎ (Offers kind size → ⊥)
offer_cases (Padding padding) size = cases_eq size padding.bytes
offer_cases (Call call) size = elim (cases_eq size 8) [
  | inl e ↦ inl (inl e)
  | inr n8 ↦ elim (cases_eq size 4) [
    | inl e ↦ inl (inr (inl e))
    | inr n4 ↦ elim (cases_eq size 2) [
      | inr n2 ↦ inr (λ h. ⊎_elim n8 (λ b. ⊎_elim n4 (λ d. n2 d.0) b) h)
      | inl e ↦ elim (cases_Bool call.compressed) [
        | inl c ↦ inl (inr (inr (e, c)))
        | inr c ↦ inr (λ h. ⊎_elim n8 (λ b. ⊎_elim n4 (λ d. let is : call.compressed ≡ true = d.1 in cc) b) h)
      ]
    ]
  ]
]

one_shortens_to : (sites : List Site) (kept : List ℕ) (i shorter : ℕ) → (MayShorten sites kept i shorter → ⊥) ⊎ MayShorten sites kept i shorter
one_shortens_to sites kept i shorter =
    elim (cases_lt shorter (slice_index kept i)) [
      | inr ge ↦ inl (λ may. let lt : shorter < slice_index kept i = may.shrinks in omega arith)
      | inl lt ↦ elim (offer_cases (site_at sites i).kind shorter) [
        | inr none ↦ inl (λ may. none may.offered)
        | inl offered ↦ elim (reach_cases sites kept (site_at sites i).offset (site_at sites i).kind shorter) [
          | inr short ↦ inl (λ may. short may.reaching)
          | inl far ↦ inr (record { shrinks = lt; offered = offered; reaching = far })
        ]
      ]
    ]

-- one site has no shorter size to take, or has one
one_shortens : (sites : List Site) (kept : List ℕ) (i : ℕ) → ((shorter : ℕ) → MayShorten sites kept i shorter → ⊥) ⊎ ((shorter : ℕ) × MayShorten sites kept i shorter)
one_shortens sites kept i = elim (all_or_one (λ s. MayShorten sites kept i s → ⊥) (MayShorten sites kept i) (one_shortens_to sites kept i) (slice_index kept i)) [
  | inl none ↦ inl (λ s may. none s may.shrinks may)
  | inr found ↦ inr found
]

-- a family is closed, or a call may be shorter
pub closed_or_shortens : (sites : List Site) (kept : List ℕ) → IsFamily sites kept → IsClosed sites kept ⊎ ((i : ℕ) × ((shorter : ℕ) × MayShorten sites kept i shorter))
closed_or_shortens sites kept f =
    elim (all_or_one (λ i. (shorter : ℕ) → MayShorten sites kept i shorter → ⊥) (λ i. (shorter : ℕ) × MayShorten sites kept i shorter) (one_shortens sites kept) (length sites)) [
      | inr found ↦ inr found
      | inl none ↦ inl (record { family = f; closed = λ i s may. none i (within_if_offered sites kept i s f may) s may })
    ]

greatest_reached : (sites : List Site) → (kept : List ℕ) × ((n : ℕ) × (Shortenings sites (whole_sizes sites) kept n × IsClosed sites kept))
greatest_reached sites = steps_end (shortening sites) (IsClosed sites) (closed_or_shortens sites)

pub greatest_closed_exists : (sites : List Site) → IsText sites → (kept : List ℕ) × IsGreatestClosed sites kept
greatest_closed_exists sites text =
    let found = greatest_reached sites in (found.0, shortened_greatest sites text found.0 found.1.0 found.1.1.0 found.1.1.1)

-- ---- what is shorter reaches

-- each shortened call
ShortenedReach : List Site → List ℕ → Type 0
ShortenedReach sites kept = (i : ℕ) → slice_index kept i < bytes_of (site_at sites i).kind → ReachesBy sites kept i (slice_index kept i)

still_reach : (sites : List Site) → IsText sites → (kept : List ℕ) (at shorter : ℕ) → IsFamily sites kept → ShortenedReach sites kept → MayShorten sites kept at shorter → ShortenedReach sites (set kept at shorter)
unfolding ShortenedReach
still_reach sites text kept at shorter f reaching may =
    let g : IsFamily sites (set kept at shorter) = set_family kept at shorter f may.offered in
    let smaller : AtMost (set kept at shorter) kept = set_holds (λ k size. size ≤ slice_index kept k) kept at shorter (λ k. omega arith) (omega (arith, may.shrinks)) in
    set_holds (λ k size. size < bytes_of (site_at sites k).kind → ReachesBy sites (set kept at shorter) k size) kept at shorter
    (λ k lt. reaches_smaller sites text (set kept at shorter) kept g f smaller k (slice_index kept k)
    (elim (cases_lt k (length sites)) [
      | inl within ↦ within
      | inr past ↦ let none : bytes_of (site_at sites k).kind ≡ 0 = ap (λ (site : Site). bytes_of site.kind) (get_or_past sites k _ past) in absurd (omega arith)
    ])
    (reaching k lt))
    (λ lt. reaches_smaller sites text (set kept at shorter) kept g f smaller at shorter (within_if_offered sites kept at shorter f may) may.reaching)

-- in the greatest closed family each shortened call reaches
pub greatest_reaching : (sites : List Site) → IsText sites → (kept : List ℕ) → IsGreatestClosed sites kept
    → (i : ℕ) → slice_index kept i < bytes_of (site_at sites i).kind → ReachesBy sites kept i (slice_index kept i)
unfolding ShortenedReach
greatest_reaching sites text kept greatest =
    let found = greatest_reached sites in
    let same : found.0 ≡ kept = one_greatest_closed sites found.0 kept (shortened_greatest sites text found.0 found.1.0 found.1.1.0 found.1.1.1) greatest in
    let whole : ShortenedReach sites (whole_sizes sites) = λ i less. absurd (omega (arith, whole_at sites i, less)) in
    subst (ShortenedReach sites) same (steps_keep (shortening sites) (ShortenedReach sites) (still_reach sites text) whole found.0 found.1.0 found.1.1.0)
