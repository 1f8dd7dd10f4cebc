use Rattle.std.proofs.Common.{◌<◌, rules, arith}
use Rattle.rv_archive.proofs.DecimalLemmas.{few_digits}
use Rattle.rv_archive.proofs.decimal.decimal.Goals as goal

pub returns-then-are_blank-clause-small : goal.returns-then-are_blank-clause-small
returns-then-are_blank-clause-small c = few_digits c.loop-i.number c.loop-i.i c.loop-i.invariant.small (omega (arith, c.requires, c.loop-i-test.true))

pub overflow_mul-number : goal.overflow_mul-number
overflow_mul-number c =
    let few = few_digits c.loop-i.number c.loop-i.i c.loop-i.invariant.small (omega (arith, c.requires, c.loop-i-test.true)) in omega (arith, few)

pub overflow_add-number : goal.overflow_add-number
overflow_add-number c =
    let few = few_digits c.loop-i.number c.loop-i.i c.loop-i.invariant.small (omega (arith, c.requires, c.loop-i-test.true)) in
    let byte : c.from.result < 256 = search rules in omega (arith, few, byte)

pub returns-clause-small : goal.returns-clause-small
returns-clause-small c = few_digits c.loop-i.number c.loop-i.i c.loop-i.invariant.small (omega (arith, c.requires, c.loop-i-test.false, c.loop-i.auto.i-end))
