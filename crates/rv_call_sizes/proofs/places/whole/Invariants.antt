use Rattle.std.proofs.Common.{◌≡◌, take}
use Rattle.rv_size_laws.specs.Calls.{whole_sizes}
use Rattle.rv_call_sizes.proofs.places.whole.Given as goal

abbrev pub invariant-loop-site : goal.invariant-loop-site
invariant-loop-site l = l.kept.items ≡ whole_sizes (take l.site-index l.sites)
