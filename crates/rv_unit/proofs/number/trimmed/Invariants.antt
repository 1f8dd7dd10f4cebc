-- The digits that are left spell the number.
use Rattle.std.proofs.Common.{◌≡◌, length}
use Rattle.rv_expression_laws.specs.Bytes.{digits_value}
use Rattle.rv_unit.proofs.number.trimmed.Given as goal

abbrev pub invariant-loop-rest : goal.invariant-loop-rest
invariant-loop-rest l = digits_value 10 l.left ≡ digits_value 10 l.digits

abbrev pub decreases-loop-rest : goal.decreases-loop-rest
decreases-loop-rest l = length l.left
