use Rattle.std.proofs.Common.{◌≡◌, ◌<◌, ◌≤◌, arith}
use Rattle.rv_debug_sources.proofs.Leb128Lemmas.{unsigned_last, unsigned_more, unsigned_done}
use Rattle.rv_debug_sources.proofs.leb128.put_unsigned.Goals as goal

pub loop-most-preserved : goal.loop-most-preserved
loop-most-preserved c =
    let some : 0 < c.loop-most.most = omega arith in
    let long : 128 ≤ c.loop-most.rest = omega arith in
    unsigned_more c.loop-most.most c.loop-most.rest c.loop-most.text.items _ _ some long c.in_ok-put_part.ensures c.loop-most.invariant

pub returns-then-rest-lt128 : goal.returns-then-rest-lt128
returns-then-rest-lt128 c =
    let some : 0 < c.loop-most.most = omega arith in
    let last : c.loop-most.rest < 128 = omega arith in
    unsigned_last c.loop-most.most c.loop-most.rest c.loop-most.text.items _ _ some last c.in_ok-put_byte.ensures c.loop-most.invariant

pub returns : goal.returns
returns c =
    let ended : c.loop-most.most ≡ 0 = omega arith in
    unsigned_done c.loop-most.most c.loop-most.rest c.loop-most.text.items _ ended c.loop-most.invariant
