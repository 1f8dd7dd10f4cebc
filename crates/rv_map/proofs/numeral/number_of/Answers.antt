use Rattle.std.proofs.Common.{sym, ◌∙◌, arith}
use Rattle.rv_map.proofs.NumbersLemmas.{number_none_begin, number_none_digit, number_none_value, number_done, number_only}
use Rattle.rv_map.proofs.numeral.number_of.Goals as goal

pub returns-then-not-begins_numeral-clause-exact : goal.returns-then-not-begins_numeral-clause-exact
returns-then-not-begins_numeral-clause-exact c = sym (number_none_begin c.args.base c.args.field.now (sym c.begins_numeral.ensures ∙ c.if-not-begins_numeral.true))

pub returns-in_err-digit-clause-exact : goal.returns-in_err-digit-clause-exact
returns-in_err-digit-clause-exact c =
    rw c.from_residual.ensures (sym (number_none_digit c.args.base c.args.field.now c.loop-byte.byte-index c.loop-byte-test.true c.in_err-digit.ensures))

pub returns-in_err-checked_mul-clause-exact : goal.returns-in_err-checked_mul-clause-exact
returns-in_err-checked_mul-clause-exact c =
    rw c.from_residual-in_err-checked_mul.ensures
    (sym (number_none_value c.args.base c.args.field.now c.loop-byte.byte-index c.loop-byte.number c.requires c.loop-byte-test.true c.loop-byte.invariant.value
    (λ small. c.in_err-checked_mul.ensures (omega arith))))

pub returns-in_err-number-clause-exact : goal.returns-in_err-number-clause-exact
returns-in_err-number-clause-exact c =
    rw c.from_residual-in_err-number.ensures
    (sym (number_none_value c.args.base c.args.field.now c.loop-byte.byte-index c.loop-byte.number c.requires c.loop-byte-test.true c.loop-byte.invariant.value
    (λ small. c.in_err-number.ensures (omega (arith, c.in_ok-digit.ensures.1, c.in_ok-checked_mul.ensures.1)))))

pub returns-clause-exact : goal.returns-clause-exact
returns-clause-exact c =
    sym (number_done c.args.base c.args.field.now c.loop-byte.byte-index c.loop-byte.number c.loop-byte-test.false (sym c.begins_numeral.ensures ∙ c.if-not-begins_numeral.false)
    c.loop-byte.invariant.passes c.loop-byte.invariant.value c.loop-byte.invariant.fits)

pub returns-clause-found : goal.returns-clause-found
returns-clause-found c =
    number_only c.args.base c.args.field.now c.loop-byte.number c.requires
    (number_done c.args.base c.args.field.now c.loop-byte.byte-index c.loop-byte.number c.loop-byte-test.false (sym c.begins_numeral.ensures ∙ c.if-not-begins_numeral.false)
    c.loop-byte.invariant.passes c.loop-byte.invariant.value c.loop-byte.invariant.fits)
