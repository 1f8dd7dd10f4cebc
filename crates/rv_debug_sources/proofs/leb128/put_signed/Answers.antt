use Rattle.std.proofs.Common.{◌≡◌, ◌<◌, ◌≤◌, arith}
use Rattle.rv_debug_sources.proofs.Leb128Lemmas.{signed_last, signed_more, signed_done}
use Rattle.rv_debug_sources.proofs.leb128.put_signed.Goals as goal

pub loop-most-preserved : goal.loop-most-preserved
loop-most-preserved c =
    let some : 0 < c.loop-most.most = omega arith in
    let long : 64 ≤ c.loop-most.rest = omega arith in
    signed_more c.args.negative c.loop-most.most c.loop-most.rest c.loop-most.text.items _ _ some long c.in_ok-put_next.ensures c.loop-most.invariant

pub returns-then-rest-lt64 : goal.returns-then-rest-lt64
returns-then-rest-lt64 c =
    let some : 0 < c.loop-most.most = omega arith in
    let last : c.loop-most.rest < 64 = omega arith in
    signed_last c.args.negative c.loop-most.most c.loop-most.rest c.loop-most.text.items _ _ some last c.in_ok-put_last.ensures c.loop-most.invariant

pub returns : goal.returns
returns c =
    let ended : c.loop-most.most ≡ 0 = omega arith in
    signed_done c.args.negative c.loop-most.most c.loop-most.rest c.loop-most.text.items _ ended c.loop-most.invariant
