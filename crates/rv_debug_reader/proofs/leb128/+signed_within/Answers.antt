use Rattle.std.proofs.Common.{arith, w64, to_z, of_z, pos, ◌-ℤ◌}
use Rattle.std.proofs.lemmas.Int.{ints}
use Rattle.rv_debug_reader.proofs.NumberLemmas.{low_byte, negative_byte, more_signed}
use Rattle.rv_debug_reader.proofs.leb128.+signed_within.Goals as goal

pub returns-then-first-lt64-clause-number : goal.returns-then-first-lt64-clause-number
returns-then-first-lt64-clause-number t c =
    low_byte c.args.bytes.now c.in_ok-first.first.now c.in_ok-first.rest.now (to_z w64 (of_z w64 c.from.result)) c.in_ok-first.ensures.cases.0 (omega arith)
    (omega (arith, ints, c.from.ensures))

pub returns-then-first-lt128-clause-number : goal.returns-then-first-lt128-clause-number
returns-then-first-lt128-clause-number t c =
    negative_byte c.args.bytes.now c.in_ok-first.first.now c.in_ok-first.rest.now
    (to_z w64 (of_z w64 (to_z w64 (of_z w64 c.from-then-first-lt128.result) -ℤ pos 128))) c.in_ok-first.ensures.cases.0 (omega arith) (omega arith)
    (omega (arith, ints, c.from-then-first-lt128.ensures))

pub returns-clause-number : goal.returns-clause-number
returns-clause-number t c =
    more_signed c.args.bytes.now c.in_ok-first.first.now c.in_ok-first.rest.now c.in_ok-high.high c.in_ok-high.taken (to_z w64 (of_z w64 c.in_ok-number.number))
    c.in_ok-first.ensures.cases.0 (omega arith) c.in_ok-high.ensures.number
    (omega (arith, ints, c.in_ok-checked_mul.ensures.0, c.in_ok-checked_mul.ensures.1, c.in_ok-number.ensures.0, c.in_ok-number.ensures.1, c.from-2.ensures))
