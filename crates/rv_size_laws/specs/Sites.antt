-- The sites of a text: where each ends, an alignment in code as one, and what a family keeps of a
-- call.

use Rattle.std.specs.Prelude.{ℕ, ◌+◌, ◌&&◌, ◌==◌, List, [], ◌∷◌, if◌then◌else◌}
use Rattle.rv_size_laws.specs.declared.site.Site.{Site}
use Rattle.rv_size_laws.specs.declared.site.SiteKind.TheVariants as sites
use Rattle.rv_size_laws.specs.Calls.{bytes_of, is_call}

-- the offset of the byte after a site: after the padding at its start, a section begins there
abbrev pub site_end : Site → ℕ
site_end s = s.offset + bytes_of s.kind

abbrev pub padding_site : (offset bytes alignment : ℕ) → Site
padding_site offset bytes alignment = record {
  offset = offset;
  kind = sites.Padding (record { bytes = bytes; alignment = alignment });
}

-- what a family keeps of the call at an offset, where it keeps so much of each site: all 8 bytes
-- where there is no call that may be shortened
abbrev pub size_at : List Site → List ℕ → ℕ → ℕ
size_at [] kept offset = 8
size_at (s ∷ ss) [] offset = 8
size_at (s ∷ ss) (k ∷ kept) offset =
    if is_call s.kind && (s.offset == offset) then k else size_at ss kept offset
