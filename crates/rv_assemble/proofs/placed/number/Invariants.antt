use Rattle.std.proofs.Common.{◌≡◌, length, map}
use Rattle.rv_statement.specs.View.{statement_of}
use Rattle.rv_assemble.proofs.NumberingLemmas.{IsNumberedTo}
use Rattle.rv_assemble.proofs.placed.number.Given as goal

-- those that are gone over have their ordinals
abbrev pub invariant-loop-index : goal.invariant-loop-index
invariant-loop-index l = record {
  so : IsNumberedTo l.index (map statement_of l.initial.statements) (map statement_of l.statements) l.lines.items;
  same : length l.statements ≡ length l.initial.statements;
}
