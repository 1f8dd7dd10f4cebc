use Rattle.std.proofs.Common.{◌≡◌, ◌+◌, ◌≤◌, length}
use Rattle.rv_size_laws.specs.Offsets.{rest}
use Rattle.rv_size_laws.specs.Calls.{MayShorten}
use Rattle.rv_size_laws.proofs.StepsLemmas.{Goes}
use Rattle.rv_call_sizes.specs.Passes.{IsTable, Stays, drops}
use Rattle.rv_call_sizes.proofs.passes.shorten_backwards.Given as goal

abbrev pub invariant-loop-i : goal.invariant-loop-i
invariant-loop-i l = record {
  within : l.i ≤ length l.sites;
  table : IsTable l.sites l.i l.kept l.stands;
  after : l.after ≡ rest (drops l.sites l.kept) l.i;
  goes : Goes (MayShorten l.sites) (Stays l.sites) l.fn.kept l.kept l.shortened l.i (length l.sites);
  few : l.shortened + l.i ≤ length l.sites;
}

abbrev pub decreases-loop-i : goal.decreases-loop-i
decreases-loop-i l = l.i
