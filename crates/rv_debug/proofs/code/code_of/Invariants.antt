use Rattle.std.proofs.Common.{◌≡◌, ◌++◌, drop}
use Rattle.rv_debug_laws.specs.Code.{code_of}
use Rattle.rv_debug.proofs.code.code_of.Given as goal

abbrev pub invariant-loop-row : goal.invariant-loop-row
invariant-loop-row l = l.code.items ++ code_of l.text l.source (drop l.row-index l.rows) ≡ code_of l.text l.source l.rows
