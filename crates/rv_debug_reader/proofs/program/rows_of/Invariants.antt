use Rattle.std.proofs.Common.{◌≡◌, ◌++◌, map, drop}
use Rattle.rv_debug_reader.specs.Table as laws
use Rattle.rv_debug_reader.specs.Views.{entry_of}
use Rattle.rv_debug_reader.proofs.program.rows_of.Given as goal

abbrev pub invariant-loop-index : goal.invariant-loop-index
invariant-loop-index l =
    l.rows.items ++ laws.code_rows (map entry_of (drop l.index l.entries)) ≡ laws.code_rows (map entry_of l.entries)
