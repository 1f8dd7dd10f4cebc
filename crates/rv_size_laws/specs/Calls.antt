-- The sizes of calls after relaxation: the greatest family in which no call has a shorter form that
-- reaches (psABI, "Linker Relaxation": function call relaxation, alignment relaxation).

use Rattle.std.specs.Prelude.{◌≡◌, ◌⊎◌, ℕ, ◌+◌, ◌-◌, ◌^◌, ◌≤◌, ◌<◌, ◌==◌, min, Bool, true, false, IsTrue, List, [], ◌∷◌, length, map, slice_index, slice_index_or, count_by, ⊤, pos, ◌-ℤ◌, if◌then◌else◌}
use Rattle.rv_size_laws.specs.declared.site.Site.{Site}
use Rattle.rv_size_laws.specs.declared.site.SiteKind.{SiteKind}
use Rattle.rv_size_laws.specs.declared.site.SiteKind.TheVariants.{Call, Padding}
use Rattle.rv_size_laws.specs.Offsets.{AtMost, Reaches}
use Rattle.rv_size_laws.specs.Steps.{IsFamilyOf, SingleSteps, StepRounds}

-- the bytes of a site before relaxation
abbrev pub bytes_of : SiteKind → ℕ
bytes_of (Call call) = 8
bytes_of (Padding padding) = padding.bytes

-- what a family can keep of a site: `auipc` and `jalr` of a call, `jal` or `c.j`; of a padding all
abbrev pub Offers : SiteKind → ℕ → Type 0
Offers (Call call) kept = (kept ≡ 8) ⊎ ((kept ≡ 4) ⊎ ((kept ≡ 2) × IsTrue call.compressed))
Offers (Padding padding) kept = kept ≡ padding.bytes

-- the form of a size reaches from -half on, and less far than half: c.j 2048, jal 2^20
abbrev pub half : ℕ → ℕ
half kept = if kept == 2 then 2 ^ 11 else 2 ^ 20

abbrev pub is_call : SiteKind → Bool
is_call (Call call) = true
is_call (Padding padding) = false

-- the site of an index, or one of no bytes past the end
abbrev pub site_at : List Site → ℕ → Site
site_at sites i =
    slice_index_or sites i
    (record { offset = 0; kind = Padding (record { bytes = 0; alignment = 1 }) })

-- the bytes that a site drops before an offset, where it keeps its first ones
abbrev pub dropped_of : Site → ℕ → ℕ → ℕ
dropped_of site kept old = min (bytes_of site.kind - kept) (old - (site.offset + kept))

-- and all sites
abbrev pub dropped : List Site → List ℕ → ℕ → ℕ
dropped sites [] old = 0
dropped [] (k ∷ kept) old = 0
dropped (site ∷ sites) (k ∷ kept) old = dropped_of site k old + dropped sites kept old

-- an offset in the text after relaxation
abbrev pub new_offset : List Site → List ℕ → ℕ → ℕ
new_offset sites kept old = old - dropped sites kept old

-- whether a call would reach its target in the form of a size
abbrev pub ReachesFrom : List Site → List ℕ → ℕ → SiteKind → ℕ → Type 0
ReachesFrom sites kept from (Call call) size =
    Reaches (half size) call.addend
    (pos (new_offset sites kept call.target) -ℤ pos (new_offset sites kept from))
ReachesFrom sites kept from (Padding padding) size = ⊥

abbrev pub ReachesBy : List Site → List ℕ → ℕ → ℕ → Type 0
ReachesBy sites kept i size =
    let site = site_at sites i in ReachesFrom sites kept site.offset site.kind size

-- what is kept of each site, and each time what can be kept of it
abbrev pub IsFamily : List Site → List ℕ → Type 0
IsFamily sites = IsFamilyOf (length sites) (λ i. Offers (site_at sites i).kind)

-- a call may take a shorter form that reaches
pub record MayShorten (sites : List Site) (kept : List ℕ) (i shorter : ℕ) : Type 0 where
  pub shrinks : shorter < slice_index kept i
  pub offered : Offers (site_at sites i).kind shorter
  pub reaching : ReachesBy sites kept i shorter

pub record IsClosed (sites : List Site) (kept : List ℕ) : Type 0 where
  pub family : IsFamily sites kept
  pub closed : (i shorter : ℕ) → MayShorten sites kept i shorter → ⊥

pub record IsGreatestClosed (sites : List Site) (kept : List ℕ) : Type 0 where
  pub closed : IsClosed sites kept
  pub greatest : (others : List ℕ) → IsClosed sites others → AtMost others kept

abbrev pub calls : List Site → ℕ
calls sites = count_by (λ site. is_call site.kind) sites

-- sizes that come from others by so many shortenings, one after the other, in any order
abbrev pub Shortenings : (sites : List Site) (from : List ℕ) → List ℕ → ℕ → Type 0
Shortenings sites = SingleSteps (MayShorten sites)

-- and by so many rounds, each of one shortening or more
abbrev pub Rounds : (sites : List Site) (from : List ℕ) → List ℕ → ℕ → Type 0
Rounds sites = StepRounds (MayShorten sites)

abbrev pub whole_sizes : List Site → List ℕ
whole_sizes sites = map (λ site. bytes_of site.kind) sites

-- the sites stand in order, none before the end of the one before
abbrev pub InOrder : ℕ → List Site → Type 0
InOrder from [] = ⊤
InOrder from (site ∷ sites) =
    (from ≤ site.offset) × InOrder (site.offset + bytes_of site.kind) sites

-- an offset is at the start or the end of a site, or outside
abbrev pub IsOutside : ℕ → Site → Type 0
IsOutside old site = (old ≤ site.offset) ⊎ (site.offset + bytes_of site.kind ≤ old)

-- a call's target is not strictly inside another call
abbrev pub LeadsOutside : SiteKind → Site → Type 0
LeadsOutside (Call call) site = IsTrue (is_call site.kind) → IsOutside call.target site
LeadsOutside (Padding padding) site = ⊤

pub record IsText (sites : List Site) : Type 0 where
  pub in_order : InOrder 0 sites
  pub outside : (i j : ℕ) → LeadsOutside (site_at sites i).kind (site_at sites j)
