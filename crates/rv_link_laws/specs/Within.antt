-- Sites within a text of so many bytes.

use Rattle.std.specs.Prelude.{ℕ, ◌+◌, ◌≤◌, ⊤}
use Rattle.rv_size_laws.specs.declared.site.Site.{Site}
use Rattle.rv_size_laws.specs.declared.site.SiteKind.{SiteKind}
use Rattle.rv_size_laws.specs.declared.site.SiteKind.TheVariants.{Call, Padding}
use Rattle.rv_size_laws.specs.Calls.{bytes_of}

-- a call leads to one of its places, or to its end
abbrev pub LeadsWithin : ℕ → SiteKind → Type 0
LeadsWithin bytes (Call call) = call.target ≤ bytes
LeadsWithin bytes (Padding padding) = ⊤

pub record IsWithin (bytes : ℕ) (site : Site) : Type 0 where
  pub end : site.offset + bytes_of site.kind ≤ bytes
  pub leads : LeadsWithin bytes site.kind
