use Rattle.std.proofs.Common.{◌+◌, ◌-◌, ◌%◌, ◌^◌, map, refl, arith}
use Rattle.rv_image.specs.SegmentView.{segment_of}
use Rattle.rv_memory.proofs.KnownLemmas.{past-end, quick-at}
use Rattle.rv_memory.proofs.paged.Paged.fetch.Goals as goal

pub near-requires-clause-known : goal.near-requires-clause-known
near-requires-clause-known c =
    let s = c.stretch-stretch in
    quick-at _ 0 0 _ _ c.args.bytes c.args.bytes c.args.self.now.nears.code _ c.args.self.now.known.near.code_executes c.requires refl s.ensures.start refl s.ensures.room

pub returns-then-code_bytes-at-clause-right : goal.returns-then-code_bytes-at-clause-right
returns-then-code_bytes-at-clause-right c =
    let paged = c.args.self.now in
    let k = (c.args.address + (2 ^ 64 - paged.nears.code.start)) % 2 ^ 64 in
    past-end (map segment_of paged.flat.segments.items) paged.base paged.nears.code.start paged.nears.code_bytes c.args.address c.args.bytes k
    paged.known.near.code_ends refl c.if-at-code_bytes.true c.if-code_bytes-at.true (omega arith) (omega arith)
