use Rattle.std.proofs.Common.{◌+◌, ◌-◌, ◌*◌, ◌<◌, length, take, ap, sym, ◌∙◌, arith}
use Rattle.rv_expression_laws.specs.Bytes.{digits_value}
use Rattle.rv_unit.proofs.DigitsLemmas.{value-cut}
use Rattle.rv_unit.proofs.number.cut_last.Goals as goal

pub returns-in-len1-up-clause-value : goal.returns-in-len1-up-clause-value
returns-in-len1-up-clause-value c =
    let some : 0 < length c.args.digits.now = omega arith in
    value-cut c.args.digits.now some ∙ ap (λ d. 10 * digits_value 10 (take (length c.args.digits.now - 1) c.args.digits.now) + d) (sym c.digit.ensures.value)
