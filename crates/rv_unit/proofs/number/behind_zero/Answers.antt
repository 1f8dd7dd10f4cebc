use Rattle.std.proofs.Common.{arith}
use Rattle.rv_unit.proofs.DigitsLemmas.{behind_zero, first_some}
use Rattle.rv_unit.proofs.number.behind_zero.Goals as goal

pub returns-then-digit-eq0-clause-found : goal.returns-then-digit-eq0-clause-found
returns-then-digit-eq0-clause-found c = behind_zero c.args.digits.now c.digit.result c.in-len1-up.len_at_least c.digit.ensures.value c.if-digit-eq0.true

pub returns-else-digit-eq0-clause-missing : goal.returns-else-digit-eq0-clause-missing
returns-else-digit-eq0-clause-missing c = λ e. first_some c.args.digits.now c.digit.result c.digit.ensures.value (omega (arith, c.if-digit-eq0.false))
