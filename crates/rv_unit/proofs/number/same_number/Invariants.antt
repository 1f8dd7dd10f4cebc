-- What is left of both with what is carried is equal where the numbers are.
use Rattle.std.proofs.Common.{◌≡◌, ◌==◌, ◌+◌, ◌≤◌, length}
use Rattle.rv_expression_laws.specs.Bytes.{digits_value}
use Rattle.rv_unit.proofs.number.same_number.Given as goal

abbrev pub invariant-loop-left : goal.invariant-loop-left
invariant-loop-left l = ((digits_value 10 l.left + l.left_carry == digits_value 10 l.right + l.right_carry) ≡ (digits_value 10 l.first == digits_value 10 l.second)) × (l.left_carry ≤ 2) × (l.right_carry ≤ 2)

abbrev pub decreases-loop-left : goal.decreases-loop-left
decreases-loop-left l = length l.left + length l.right
