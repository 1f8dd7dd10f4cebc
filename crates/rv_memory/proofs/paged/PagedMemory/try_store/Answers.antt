use Rattle.std.proofs.Common.{arith}
use Rattle.rv_memory.proofs.MemoryLemmas.{put-low}
use Rattle.rv_memory.proofs.paged.PagedMemory.try_store.Goals as goal

pub returns-then-put_near-clause-put : goal.returns-then-put_near-clause-put
returns-then-put_near-clause-put c =
    put-low _ _ c.args.address c.args.bytes c.args.value c.to_le_bytes-digits.result (omega (arith, c.requires)) c.to_le_bytes-digits.ensures
    c.if-put_near.ensures.1
