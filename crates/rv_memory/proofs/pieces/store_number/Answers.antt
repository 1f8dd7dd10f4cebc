use Rattle.std.proofs.Common.{◌≡◌, arith}
use Rattle.rv_memory.proofs.MemoryLemmas.{put-low}
use Rattle.rv_memory.proofs.pieces.store_number.Goals as goal

pub returns-then-not-put_within : goal.returns-then-not-put_within
returns-then-not-put_within g c =
    let kept : g.P.Pieces.mem c.put_within.new.self ≡ g.P.Pieces.mem c.args.memory.now = c.if-not-put_within.ensures.put in
    put-low _ _ c.args.address c.args.bytes c.args.value c.to_le_bytes-digits.result (omega (arith, c.requires.width)) c.to_le_bytes-digits.ensures
    (rw (← kept) c.put_across.ensures)

pub returns-else-not-put_within : goal.returns-else-not-put_within
returns-else-not-put_within g c =
    put-low _ _ c.args.address c.args.bytes c.args.value c.to_le_bytes-digits.result (omega (arith, c.requires.width)) c.to_le_bytes-digits.ensures
    c.if-not-put_within.ensures.put
