use Rattle.std.proofs.Common.{◌≡◌, ℕ, length}
use Rattle.rv_size_laws.specs.Calls.{IsFamily, Shortenings}
use Rattle.rv_call_sizes.specs.Passes.{drops}
use Rattle.rv_call_sizes.specs.Sums.{AreTripleSums}
use Rattle.rv_call_sizes.proofs.chase.shorten_one_by_one.Given as goal

abbrev pub invariant-loop : goal.invariant-loop
invariant-loop l = record {
  same_length : length l.agenda.next.items ≡ length l.sites;
  family : IsFamily l.sites l.kept;
  sums : AreTripleSums (drops l.sites l.kept) l.sums.ones.items l.sums.twos.items l.sums.threes.items;
  steps : (n : ℕ) × Shortenings l.sites l.fn.kept l.kept n;
}
