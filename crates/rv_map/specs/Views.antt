-- What the code's own map stands for.

use Rattle.std.specs.Prelude.{map}
use Rattle.rv_map.specs.declared.map.Global.{Global as DeclaredGlobal}
use Rattle.rv_map.specs.declared.map.Map.{Map as DeclaredMap}
use Rattle.rv_map_laws.specs.Map.{Global, Map}

abbrev pub global_of : DeclaredGlobal → Global
global_of g = record { name = g.name.items; address = g.address }

-- the plain value of the program's map
abbrev pub map_of : DeclaredMap → Map
map_of m = record {
  text = m.text;
  rodata = m.rodata;
  «data» = m.data;
  bss = m.bss;
  entry = m.entry;
  gaps = m.gaps.items;
  globals = map global_of m.globals.items;
  drops = m.drops.items;
  rows = m.rows.items;
}
