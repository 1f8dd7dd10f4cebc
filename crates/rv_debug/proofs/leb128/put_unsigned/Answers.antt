use Rattle.std.proofs.Common.{◌∷◌, [], ◌%◌, ◌+◌, append_assoc}
use Rattle.rv_debug.proofs.NumberLemmas.{unsigned_last, unsigned_more}
use Rattle.rv_debug.proofs.leb128.put_unsigned.Goals as goal

pub loop-rest-preserved : goal.loop-rest-preserved
loop-rest-preserved c = λ tail high.
    rw (c.in_ok-push.ensures.items, append_assoc)
    (c.loop-rest.invariant ((c.loop-rest.rest % 128 + 128) ∷ tail) (unsigned_more c.loop-rest.rest tail c.loop-rest-test.true high))

pub returns : goal.returns
returns c =
    rw c.in_ok-push-2.ensures.items
    (c.loop-rest.invariant (c.loop-rest.rest ∷ []) (unsigned_last c.loop-rest.rest c.loop-rest-test.false))
