-- What an object stands for of which calls are cut short.

use Rattle.std.specs.Prelude.{List, map}
use Rattle.rv_object_laws.specs.Object.{Object}
use Rattle.rv_object_types.specs.Parts.{symbol_of}
use Rattle.rv_link_laws.specs.Moves.{Move}
use Rattle.rv_shorten.specs.declared.object.ShortObject.{ShortObject}
use Rattle.rv_cut_laws.specs.Cutting.{cut_symbol, cut_row_of}
use Rattle.rv_shorten.specs.Sections.{moves_in_all, short_section_of, whole_section_of}

-- the object as it was
abbrev pub whole_object_of : ShortObject → Object
whole_object_of o = record {
  sections = map whole_section_of o.sections.items;
  symbols = map symbol_of o.whole.now.symbols.items;
  rows = o.whole.now.rows.items;
  rvc = o.whole.now.rvc;
}

-- the moves of its sections
abbrev pub moves_by_section : ShortObject → List (List Move)
moves_by_section o = moves_in_all o.sections.items

abbrev pub short_object_of : ShortObject → Object
short_object_of o = record {
  sections = map short_section_of o.sections.items;
  symbols = map (cut_symbol (moves_by_section o)) (map symbol_of o.whole.now.symbols.items);
  rows = map (cut_row_of (moves_by_section o)) o.whole.now.rows.items;
  rvc = o.whole.now.rvc;
}
