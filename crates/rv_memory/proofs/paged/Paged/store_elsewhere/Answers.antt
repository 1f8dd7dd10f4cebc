use Rattle.std.proofs.Common.{arith}
use Rattle.rv_memory.proofs.MemoryLemmas.{put-low}
use Rattle.rv_memory.proofs.paged.Paged.store_elsewhere.Goals as goal

pub returns-then-put_latest-clause-put : goal.returns-then-put_latest-clause-put
returns-then-put_latest-clause-put c =
    put-low _ _ c.args.address c.args.bytes c.args.value c.to_le_bytes-digits.result (omega (arith, c.requires)) c.to_le_bytes-digits.ensures
    c.if-put_latest.ensures.1
