use Rattle.std.proofs.Common.{◌≡◌, ◌++◌, length, map, flat_map}
use Rattle.std.specs.List.{AllByRecursion}
use Rattle.rv_map.specs.Views.{global_of}
use Rattle.rv_map_laws.specs.Limits.{IsGlobal}
use Rattle.rv_map_laws.specs.Text.{line_text, global_line}
use Rattle.rv_map.proofs.reading.globals_of.Given as goal

abbrev pub invariant-loop-name : goal.invariant-loop-name
invariant-loop-name l = record {
  text : l.bytes ≡ flat_map line_text (map global_line (map global_of l.globals.items)) ++ l.rest;
  fit : AllByRecursion IsGlobal (map global_of l.globals.items);
}

abbrev pub decreases-loop-name : goal.decreases-loop-name
decreases-loop-name l = length l.rest
