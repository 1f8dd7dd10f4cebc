use Rattle.std.proofs.Common.{sym}
use Rattle.rv_link.proofs.passes.resolve.Goals as goal

pub returns-in-None-clause-named : goal.returns-in-None-clause-named
returns-in-None-clause-named c = record {
  once = c.args.resolution.now.named.distinct;
  meant = sym c.in-None.ensures.first;
  resolved = c.in-None.ensures.resolved;
}
