-- The sites of a text, as `TextLine` has them: what `IsInput` says, site by site, as tests.

use Rattle.std.specs.Prelude.{◌≡◌, ℕ, ◌*◌, ◌^◌, ◌≤◌, Bool, true, not, ◌&&◌, ◌||◌, nat_le, List, [], ◌∷◌}
use Rattle.rv_size_laws.specs.Sites.{site_end}
use Rattle.rv_size_laws.specs.declared.site.Site.{Site}
use Rattle.rv_size_laws.specs.declared.site.SiteKind.{SiteKind}
use Rattle.rv_size_laws.specs.declared.site.SiteKind.TheVariants.{Call, Padding}
use Rattle.rv_size_laws.specs.Calls.{is_call, site_at}

-- no site begins before the end of the one before, nor the first before an offset
abbrev pub are_in_line : ℕ → List Site → Bool
are_in_line from [] = true
are_in_line from (site ∷ sites) = nat_le from site.offset && are_in_line (site_end site) sites

-- an offset is at the start or the end of a site, or outside
abbrev pub is_outside : ℕ → Site → Bool
is_outside old site = nat_le old site.offset || nat_le (site_end site) old

-- a call's target is not strictly inside another call
abbrev pub leads_outside : SiteKind → Site → Bool
leads_outside (Call call) site = not (is_call site.kind) || is_outside call.target site
leads_outside (Padding padding) site = true

abbrev pub leads_low : SiteKind → Bool
leads_low (Call call) = nat_le call.target (9 * 2 ^ 123)
leads_low (Padding padding) = true

-- the sites of a text of at most 9 * 2 ^ 123 bytes: more than a list of sections can have
pub record AreTextSites (sites : List Site) : Type 0 where
  pub in_line : are_in_line 0 sites ≡ true
  pub outside : (i j : ℕ) → leads_outside (site_at sites i).kind (site_at sites j) ≡ true
  pub ends : (i : ℕ) → site_end (site_at sites i) ≤ 9 * 2 ^ 123
  pub targets : (i : ℕ) → leads_low (site_at sites i).kind ≡ true
