-- Paddings after relaxation: calls keep the sizes of a family, and each alignment the least padding
-- that aligns its end (psABI, "Linker Relaxation": alignment relaxation).

use Rattle.std.specs.Prelude.{◌≡◌, ◌⊎◌, ℕ, ◌+◌, ◌%◌, ◌≤◌, ◌<◌, List, length, slice_index, IsTrue, ⊤}
use Rattle.rv_size_laws.specs.declared.site.Site.{Site}
use Rattle.rv_size_laws.specs.declared.site.SiteKind.{SiteKind}
use Rattle.rv_size_laws.specs.declared.site.SiteKind.TheVariants.{Call, Padding}
use Rattle.rv_size_laws.specs.Calls.{bytes_of, is_call, site_at, new_offset, ReachesBy, IsOutside}

-- the least padding that aligns its end
pub record IsLeastPadding (alignment start padding : ℕ) : Type 0 where
  pub aligned : (start + padding) % alignment ≡ 0
  pub least : (other : ℕ) → (start + other) % alignment ≡ 0 → padding ≤ other

-- what is kept of a site, where a family of call sizes keeps so much of it and it begins at a new
-- offset
abbrev pub IsLaid : SiteKind → (sized start kept : ℕ) → Type 0
IsLaid (Call call) sized start kept = kept ≡ sized
IsLaid (Padding padding) sized start kept = IsLeastPadding padding.alignment start kept

-- the text after relaxation
pub record IsRelaxedText (sites : List Site) (sized kept : List ℕ) : Type 0 where
  pub same_length : length kept ≡ length sites
  pub laid : (i : ℕ) → let site = site_at sites i in
      IsLaid site.kind (slice_index sized i) (new_offset sites kept site.offset)
      (slice_index kept i)

-- a padding regrows to any even number of bytes up to all of it
abbrev pub MayRegrow : SiteKind → (sized kept : ℕ) → Type 0
MayRegrow (Call call) sized kept = kept ≡ sized
MayRegrow (Padding padding) sized kept = (kept ≤ padding.bytes) × (kept % 2 ≡ 0)

pub record Regrows (sites : List Site) (sized kept : List ℕ) : Type 0 where
  pub same_length : length kept ≡ length sites
  pub regrown : (i : ℕ) →
      MayRegrow (site_at sites i).kind (slice_index sized i) (slice_index kept i)

-- each shortened call reaches
abbrev pub AllReach : List Site → List ℕ → Type 0
AllReach sites kept = (i : ℕ) → IsTrue (is_call (site_at sites i).kind) → slice_index kept i < 8
    → ReachesBy sites kept i (slice_index kept i)

-- a padding is for an even alignment, and as it stands it has one alignment's bytes but 2: enough
-- from any even offset
abbrev pub IsFullPadding : SiteKind → Type 0
IsFullPadding (Call call) = ⊤
IsFullPadding (Padding padding) = (padding.alignment ≡ padding.bytes + 2) × (padding.bytes % 2 ≡ 0)

-- a call's target is at an even offset, or not strictly inside a site
abbrev pub LeadsEvenly : SiteKind → Site → Type 0
LeadsEvenly (Call call) site = (call.target % 2 ≡ 0) ⊎ IsOutside call.target site
LeadsEvenly (Padding padding) site = ⊤

-- sites begin at even offsets and have even numbers of bytes, as instructions do
pub record IsEvenText (sites : List Site) : Type 0 where
  pub offsets : (i : ℕ) → (site_at sites i).offset % 2 ≡ 0
  pub bytes : (i : ℕ) → bytes_of (site_at sites i).kind % 2 ≡ 0
  pub targets : (i j : ℕ) → LeadsEvenly (site_at sites i).kind (site_at sites j)
