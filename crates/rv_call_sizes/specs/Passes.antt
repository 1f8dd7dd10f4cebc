-- What the tables hold while a pass goes over the sites of a text: the bytes that are dropped
-- before each site, or from it on.

use Rattle.std.specs.Prelude.{◌≡◌, ◌⊎◌, ℕ, ◌+◌, ◌-◌, ◌*◌, ◌^◌, ◌≤◌, ◌<◌, Bool, List, [], ◌∷◌, length, slice_index, ℤ, ⊤}
use Rattle.rv_size_laws.specs.declared.site.Site.{Site}
use Rattle.rv_size_laws.specs.declared.site.Call.{Call as CallSite}
use Rattle.rv_size_laws.specs.declared.site.SiteKind.{SiteKind}
use Rattle.rv_size_laws.specs.declared.site.SiteKind.TheVariants.{Call, Padding}
use Rattle.rv_size_laws.specs.Offsets.{Reaches}
use Rattle.rv_size_laws.specs.Steps.{IsLook}
use Rattle.rv_size_laws.specs.Tables.{IsTableAt}
use Rattle.rv_size_laws.specs.Calls.{bytes_of, Offers, half, site_at, IsFamily, IsText, MayShorten}
use Rattle.rv_size_laws.specs.Sites.{site_end}

-- ---- sites

abbrev pub LeadsLow : SiteKind → Type 0
LeadsLow (Call call) = call.target ≤ 9 * 2 ^ 123
LeadsLow (Padding padding) = ⊤

-- the sites of a text of at most 9 * 2 ^ 123 bytes: more than a list of sections can have
pub record IsInput (sites : List Site) : Type 0 where
  pub text : IsText sites
  pub ends : (i : ℕ) → site_end (site_at sites i) ≤ 9 * 2 ^ 123
  pub targets : (i : ℕ) → LeadsLow (site_at sites i).kind

-- so many sites end at an offset or before it
pub record IsPlace (sites : List Site) (old count : ℕ) : Type 0 where
  pub within : count ≤ length sites
  pub before : (j : ℕ) → j < count → site_end (site_at sites j) ≤ old
  pub after : (j : ℕ) → count ≤ j → j < length sites → old < site_end (site_at sites j)

-- and at a call's target
abbrev pub LeadsTo : List Site → SiteKind → ℕ → Type 0
LeadsTo sites (Call call) count = IsPlace sites call.target count
LeadsTo sites (Padding padding) count = ⊤

pub record AreTargets (sites : List Site) (targets : List ℕ) : Type 0 where
  pub same_length : length targets ≡ length sites
  pub led : (i : ℕ) → i < length sites →
      LeadsTo sites (site_at sites i).kind (slice_index targets i)

-- ---- what is dropped

-- the bytes that each site drops
abbrev pub drops : List Site → List ℕ → List ℕ
drops [] kept = []
drops (site ∷ sites) [] = []
drops (site ∷ sites) (k ∷ kept) = (bytes_of site.kind - k) ∷ drops sites kept

-- sites before i have in the table what is dropped before them, those from i on what is dropped
-- from them on, and so has the end
pub record IsTable (sites : List Site) (i : ℕ) (kept stands : List ℕ) : Type 0 where
  pub family : IsFamily sites kept
  pub table : IsTableAt (length sites + 1) i (λ j. drops sites kept) stands

-- ---- a pass

-- a form that a call has
abbrev pub HasForm : CallSite → ℕ → Type 0
HasForm call size = Offers (Call call) size

-- at a distance a call of a size may take a shorter form
pub record MayTake (call : CallSite) (away : ℤ) (size shorter : ℕ) : Type 0 where
  pub shrinks : shorter < size
  pub offered : HasForm call shorter
  pub reaching : Reaches (half shorter) call.addend away

-- it does, or there is none
abbrev pub IsJudged : CallSite → ℤ → (size new : ℕ) → Type 0
IsJudged call away size new =
    ((new ≡ size) × ((shorter : ℕ) → MayTake call away size shorter → ⊥))
    ⊎ MayTake call away size new

-- a call has no shorter form
abbrev pub CannotShrink : CallSite → ℕ → Type 0
CannotShrink call size = (shorter : ℕ) → shorter < size → HasForm call shorter → ⊥

-- a site's size stands
abbrev pub Stays : List Site → List ℕ → ℕ → Type 0
Stays sites kept i = (shorter : ℕ) → MayShorten sites kept i shorter → ⊥

-- the size that a site takes
abbrev pub IsTurn : List Site → List ℕ → (i new : ℕ) → Type 0
IsTurn sites kept i new =
    ((new ≡ slice_index kept i) × Stays sites kept i) ⊎ MayShorten sites kept i new

-- what looking at site i does, and tells
abbrev pub IsVisit : List Site → ℕ → (old new : List ℕ) → Bool → Type 0
IsVisit sites = IsLook (MayShorten sites) (Stays sites)
