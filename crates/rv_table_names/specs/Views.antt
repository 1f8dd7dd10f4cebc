-- What the code's own objects stand for.

use Rattle.std.specs.Prelude.{map}
use Rattle.rv_object_types.specs.Parts.{symbol_of}
use Rattle.rv_table_names.specs.declared.tabled.Tabled.{Tabled as DeclaredTabled}
use Rattle.rv_table_names.specs.Tables.{Tabled}

abbrev pub tabled_of : DeclaredTabled → Tabled
tabled_of o = record {
  symbols = map symbol_of o.symbols.now;
  records = o.records.now;
  extents = o.extents.now;
}
