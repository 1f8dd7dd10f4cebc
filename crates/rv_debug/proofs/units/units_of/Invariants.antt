use Rattle.std.proofs.Common.{◌+◌, ◌<◌, ◌≤◌, length, take}
use Rattle.std.specs.List.{AllByRecursion}
use Rattle.rv_map.specs.Views.{map_of}
use Rattle.rv_debug_laws.specs.Units.{AddUnits, no_debug}
use Rattle.rv_debug.specs.Views.{debug_of}
use Rattle.rv_debug.proofs.units.units_of.Given as goal

abbrev pub invariant-loop-index : goal.invariant-loop-index
invariant-loop-index l = record {
  added : AddUnits (map_of l.map) l.directory 1 (take l.index l.sources) no_debug (debug_of l.debug);
  within : l.first ≤ length l.rows;
  earlier : AllByRecursion (λ row. row.file < l.index + 1) (take l.first l.rows);
}
