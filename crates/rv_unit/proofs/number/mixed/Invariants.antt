-- The digits that are left, with what is carried, make of what is mixed so far what all of them make.
use Rattle.std.proofs.Common.{◌≡◌, ◌+◌, ◌≤◌, length}
use Rattle.rv_expression_laws.specs.Bytes.{digits_value}
use Rattle.rv_unit.specs.Mixed.{HasNoZeroInFront, basis, mix}
use Rattle.rv_unit.proofs.number.mixed.Given as goal

abbrev pub invariant-loop-rest : goal.invariant-loop-rest
invariant-loop-rest l = (mix (digits_value 10 l.digits) basis ≡ mix (digits_value 10 l.rest + l.carry) l.number) × HasNoZeroInFront l.rest × (l.carry ≤ 1)

abbrev pub decreases-loop-rest : goal.decreases-loop-rest
decreases-loop-rest l = length l.rest
