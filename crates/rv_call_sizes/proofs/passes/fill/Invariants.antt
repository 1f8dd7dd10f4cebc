use Rattle.std.proofs.Common.{◌≡◌, ℕ, ◌+◌, ◌≤◌, length, slice_index}
use Rattle.rv_size_laws.specs.Offsets.{rest}
use Rattle.rv_call_sizes.specs.Passes.{drops}
use Rattle.rv_call_sizes.proofs.passes.fill.Given as goal

abbrev pub invariant-loop-i : goal.invariant-loop-i
invariant-loop-i l = record {
  within : l.i ≤ length l.sites;
  same_length : length l.stands ≡ length l.sites + 1;
  after : l.after ≡ rest (drops l.sites l.kept) l.i;
  rests : (j : ℕ) → l.i ≤ j → j ≤ length l.sites → slice_index l.stands j ≡ rest (drops l.sites l.kept) j;
}

abbrev pub decreases-loop-i : goal.decreases-loop-i
decreases-loop-i l = l.i
