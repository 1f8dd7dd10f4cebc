use Rattle.std.proofs.Common.{◌≡◌, ◌++◌, take, drop, map, flat_map, All}
use Rattle.rv_map_laws.specs.Limits.{IsGlobal}
use Rattle.rv_map.specs.Views.{global_of}
use Rattle.rv_map_laws.specs.Text.{line_text, global_line}
use Rattle.rv_map.proofs.writing.put_globals.Given as goal

-- what is written, and the lines that are left, make up the whole
abbrev pub invariant-loop-global : goal.invariant-loop-global
invariant-loop-global l = record {
  written : l.text.items ++ flat_map line_text (map global_line (map global_of (drop l.global-index l.globals))) ≡ l.initial.text.items ++ flat_map line_text (map global_line (map global_of l.globals));
  known : All (λ g. IsGlobal (global_of g)) (take l.global-index l.globals);
}
