use Rattle.std.proofs.Common.{◌≡◌, ◌≤◌}
use Rattle.rv_size_laws.specs.Offsets.{offset}
use Rattle.rv_size_laws.specs.Calls.{MayShorten}
use Rattle.rv_size_laws.proofs.StepsLemmas.{Goes}
use Rattle.rv_call_sizes.specs.Passes.{IsTable, Stays, drops}
use Rattle.rv_call_sizes.proofs.passes.shorten_forwards.Given as goal

abbrev pub invariant-loop-i : goal.invariant-loop-i
invariant-loop-i l = record {
  table : IsTable l.sites l.i l.kept l.stands;
  before : l.before ≡ offset (drops l.sites l.kept) l.i;
  goes : Goes (MayShorten l.sites) (Stays l.sites) l.fn.kept l.kept l.shortened 0 l.i;
  few : l.shortened ≤ l.i;
}
