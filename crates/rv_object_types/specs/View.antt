-- What an object of the code stands for.

use Rattle.std.specs.Prelude.{map}
use Rattle.rv_object_types.specs.declared.object.Object.{Object as DeclaredObject}
use Rattle.rv_object_laws.specs.Object.{Object}
use Rattle.rv_object_types.specs.Parts.{symbol_of}
use Rattle.rv_object_types.specs.Sections.{section_of}

abbrev pub object_of : DeclaredObject → Object
object_of o = record {
  sections = map section_of o.sections.items;
  symbols = map symbol_of o.symbols.items;
  rows = o.rows.items;
  rvc = o.rvc;
}
