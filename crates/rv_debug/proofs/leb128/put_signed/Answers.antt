use Rattle.std.proofs.Common.{◌∷◌, [], ◌%◌, ◌+◌, append_assoc}
use Rattle.rv_debug.specs.Writing.{bits}
use Rattle.rv_debug.proofs.NumberLemmas.{signed_last, signed_more}
use Rattle.rv_debug.proofs.leb128.put_signed.Goals as goal

pub loop-rest-preserved : goal.loop-rest-preserved
loop-rest-preserved c = λ tail high.
    rw (c.in_ok-push.ensures.items, append_assoc, c.low_bits.ensures.is)
    (c.loop-rest.invariant ((bits c.args.negative (c.loop-rest.rest % 128) + 128) ∷ tail) (signed_more c.args.negative c.loop-rest.rest tail c.loop-rest-test.true high))

pub returns : goal.returns
returns c =
    rw (c.in_ok-push-2.ensures.items, c.low_bits-2.ensures.is)
    (c.loop-rest.invariant (bits c.args.negative c.loop-rest.rest ∷ []) (signed_last c.args.negative c.loop-rest.rest c.loop-rest-test.false))
