-- The cut of a site.

use Rattle.std.specs.Prelude.{ℕ, ◌-◌, ◌==◌, Bool, ◌&&◌, nat_lt, List, [], ◌∷◌, if◌then◌else◌}
use Rattle.rv_size_laws.specs.declared.site.Site.{Site}
use Rattle.rv_size_laws.specs.Calls.{is_call}
use Rattle.rv_object_laws.specs.Object.{stored}
use Rattle.rv_link_laws.specs.CallSites.{link_register}
use Rattle.rv_shorten.specs.Cut.{Cut}

abbrev pub cut_of : (place gone : ℕ) → List ℕ → ℕ → Cut
cut_of place gone stored k = record {
  place = place;
  gone = gone;
  full = 8;
  left = if k == 2 then 2 else 4;
  detail = link_register stored place;
}

abbrev pub is_cut_site : Site → ℕ → Bool
is_cut_site s k = is_call s.kind && nat_lt k 8

abbrev pub cuts_of : (place gone : ℕ) → List ℕ → Site → ℕ → List Cut
cuts_of place gone stored s k = if is_cut_site s k then cut_of place gone stored k ∷ [] else []

abbrev pub gone_of : Site → ℕ → ℕ
gone_of s k = if is_cut_site s k then 8 - (if k == 2 then 2 else 4) else 0
