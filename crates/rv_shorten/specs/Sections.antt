-- What a section stands for of which calls are cut short.

use Rattle.std.specs.Prelude.{List, map}
use Rattle.rv_object_laws.specs.Object.{Section}
use Rattle.rv_object_types.specs.Sections.{section_of}
use Rattle.rv_link_laws.specs.Moves.{Move}
use Rattle.rv_shorten.specs.declared.section.ShortSection.{ShortSection}
use Rattle.rv_shorten.specs.Cut.{move_of}
use Rattle.rv_cut_laws.specs.Cutting.{cut_section}

-- the section as it was
abbrev pub whole_section_of : ShortSection → Section
whole_section_of s = section_of s.whole.now

-- what is kept of its calls
abbrev pub moves_in : ShortSection → List Move
moves_in s = map move_of s.cuts.items

abbrev pub short_section_of : ShortSection → Section
short_section_of s = cut_section (moves_in s) (section_of s.whole.now)

abbrev pub moves_in_all : List ShortSection → List (List Move)
moves_in_all ss = map moves_in ss
