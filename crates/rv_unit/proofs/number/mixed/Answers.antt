-- Digit by digit, the last one first.
use Rattle.std.proofs.Common.{◌≡◌, ◌+◌, ◌/◌, ◌<◌, length, rules, arith, sym, ap, ◌∙◌}
use Rattle.rv_expression_laws.specs.Bytes.{digits_value}
use Rattle.rv_unit.specs.Mixed.{basis, mix}
use Rattle.rv_unit.proofs.DigitsLemmas.{mix_more, mix_first, mix_last, some_value, empty_value}
use Rattle.rv_unit.proofs.number.mixed.Goals as goal

pub loop-rest-preserved : goal.loop-rest-preserved
loop-rest-preserved c =
    let some : 0 < length c.loop-rest.rest.now = search rules in
    let v : 0 < digits_value 10 c.loop-rest.rest.now = some_value c.loop-rest.rest.now c.loop-rest.invariant.1 some in (
      mix_more (digits_value 10 c.loop-rest.rest.now) (digits_value 10 c.cut_last-last.result.0.now) c.cut_last-last.result.1 c.loop-rest.carry c.loop-rest.number (mix (digits_value 10 c.args.digits.now) basis)
          c.cut_last-last.ensures.value (omega (arith, v)) c.loop-rest.invariant.0
          ∙ sym (ap (mix (digits_value 10 c.cut_last-last.result.0.now + (c.loop-rest.carry + c.cut_last-last.result.1) / 10)) c.with_digit-number.ensures),
      c.cut_last-last.ensures.some c.loop-rest.invariant.1,
      omega (arith, c.cut_last-last.ensures.below, c.loop-rest.invariant.2),
    )

pub returns-then-carry-eq0 : goal.returns-then-carry-eq0
returns-then-carry-eq0 c =
    let none : length c.loop-rest.rest.now ≡ 0 = search rules in
    sym (c.loop-rest.invariant.0 ∙ mix_last (digits_value 10 c.loop-rest.rest.now) c.loop-rest.carry c.loop-rest.number (empty_value c.loop-rest.rest.now none) c.if-carry-eq0.true)

pub returns-else-carry-eq0 : goal.returns-else-carry-eq0
returns-else-carry-eq0 c =
    let none : length c.loop-rest.rest.now ≡ 0 = search rules in
    c.with_digit.ensures
    ∙ sym (c.loop-rest.invariant.0 ∙ mix_first (digits_value 10 c.loop-rest.rest.now) c.loop-rest.carry c.loop-rest.number (empty_value c.loop-rest.rest.now none) (omega (arith, c.if-carry-eq0.false)) c.loop-rest.invariant.2)
