-- What is kept of the paddings of sections.

use Rattle.std.specs.Prelude.{ℕ, ◌==◌, List, length, map, Option, Some, None}
use Rattle.std.specs.List.{find}
use Rattle.rv_link_laws.specs.Moves.{Move, moves}
use Rattle.rv_shorten.specs.declared.section.ShortSection.{ShortSection}
use Rattle.rv_shorten.specs.Sections.{short_section_of}
use Rattle.rv_relax.specs.declared.section_paddings.SectionPaddings.{SectionPaddings}
use Rattle.rv_relax.specs.Paddings.{move_of}

-- the moves of a section, in the order of their places
unfoldable pub moves_of : SectionPaddings → List Move
moves_of p = map move_of p.paddings.items

-- those that a section wants: it begins at a multiple of all its alignments, as 0 is
abbrev pub kept_in : ShortSection → List Move
kept_in s = moves 0 (short_section_of s)

-- the bytes that are kept of the padding at a place
abbrev pub kept_bytes : Option Move → ℕ
kept_bytes None = 0
kept_bytes (Some m) = length m.text

abbrev pub pad_at : List Move → ℕ → ℕ
pad_at kept place = kept_bytes (find (λ m. m.place == place) kept)
