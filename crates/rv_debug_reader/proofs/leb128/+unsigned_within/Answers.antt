use Rattle.std.proofs.Common.{arith}
use Rattle.rv_debug_reader.proofs.NumberLemmas.{last_byte, more_bytes}
use Rattle.rv_debug_reader.proofs.leb128.+unsigned_within.Goals as goal

pub returns-then-first-lt128-clause-number : goal.returns-then-first-lt128-clause-number
returns-then-first-lt128-clause-number t c =
    last_byte c.args.bytes.now c.in_ok-first.first.now c.in_ok-first.rest.now c.from.result c.in_ok-first.ensures.cases.0 (omega arith) (omega (arith, c.from.ensures))

pub returns-clause-number : goal.returns-clause-number
returns-clause-number t c =
    more_bytes c.args.bytes.now c.in_ok-first.first.now c.in_ok-first.rest.now c.in_ok-high.high c.in_ok-high.taken c.in_ok-number.number
    c.in_ok-first.ensures.cases.0 (omega arith) c.in_ok-high.ensures.number
    (omega (arith, c.in_ok-checked_mul.ensures.1, c.in_ok-number.ensures.1, c.from-2.ensures))
