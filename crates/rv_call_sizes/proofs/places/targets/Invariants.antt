use Rattle.std.proofs.Common.{◌≡◌, ◌<◌, ℕ, length, slice_index}
use Rattle.rv_size_laws.specs.Calls.{site_at}
use Rattle.rv_call_sizes.specs.Passes.{LeadsTo}
use Rattle.rv_call_sizes.proofs.places.targets.Given as goal

abbrev pub invariant-loop-site : goal.invariant-loop-site
invariant-loop-site l = record {
  same_length : length l.targets.items ≡ l.site-index;
  led : (i : ℕ) → i < l.site-index → LeadsTo l.sites (site_at l.sites i).kind (slice_index l.targets.items i);
}
