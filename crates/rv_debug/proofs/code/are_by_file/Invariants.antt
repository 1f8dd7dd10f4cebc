use Rattle.std.proofs.Common.{◌≡◌, drop}
use Rattle.rv_debug_laws.specs.Code.{are_by_file}
use Rattle.rv_debug.proofs.code.are_by_file.Given as goal

abbrev pub invariant-loop-row : goal.invariant-loop-row
invariant-loop-row l = are_by_file 0 l.rows ≡ are_by_file l.file (drop l.row-index l.rows)
