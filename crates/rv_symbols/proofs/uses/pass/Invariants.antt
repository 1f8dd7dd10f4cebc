use Rattle.std.proofs.Common.{◌≡◌, ◌≤◌, ◌+◌, ℕ, length}
use Rattle.rv_unit.specs.Unit.{said, IsScope}
use Rattle.rv_symbols.proofs.uses.pass.Given as goal

abbrev pub invariant-loop : goal.invariant-loop
invariant-loop l = record {
  unit : l.scope.unit ≡ l.fn.scope.unit;
  passes : (index : ℕ) → index + l.count ≤ length (said l.fn.scope.unit.now) → IsScope l.fn.scope index → IsScope l.scope (index + l.counter);
}
