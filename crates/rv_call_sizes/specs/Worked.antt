-- Sites for worked numbers.

use Rattle.std.specs.Prelude.{ℕ, pos, false, List, [], ◌∷◌}
use Rattle.rv_size_laws.specs.Sites.{padding_site}
use Rattle.rv_size_laws.specs.declared.site.Site.{Site}
use Rattle.rv_size_laws.specs.declared.site.SiteKind.TheVariants as sites

-- a `call` at an offset of a text to another
abbrev pub call_to : (offset target : ℕ) → Site
call_to offset target = record {
  offset = offset;
  kind = sites.Call (record { target = target; addend = pos 0; compressed = false });
}

-- `_start: call f; call f; call f; li a7, 93; ecall` and then `f: ret`
abbrev pub calls_to_f : List Site
calls_to_f = padding_site 0 0 2 ∷ call_to 0 32 ∷ call_to 8 32 ∷ call_to 16 32 ∷ []
