use Rattle.std.proofs.Common.{refl}
use Rattle.rv_memory.proofs.KnownLemmas.{quick-at}
use Rattle.rv_memory.proofs.paged.Paged.read_below.Goals as goal

pub near-requires-clause-known : goal.near-requires-clause-known
near-requires-clause-known c =
    let s = c.stretch-stretch in
    quick-at _ _ _ _ _ c.args.bytes c.args.bytes c.args.self.now.nears.below _ c.args.self.now.known.near.below_reads c.requires s.ensures.segment s.ensures.start refl s.ensures.room
