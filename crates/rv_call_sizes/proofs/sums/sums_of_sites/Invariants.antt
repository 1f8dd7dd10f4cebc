use Rattle.rv_call_sizes.specs.Passes.{drops}
use Rattle.rv_call_sizes.proofs.SumsLemmas.{AreFirst}
use Rattle.rv_call_sizes.proofs.sums.sums_of_sites.Given as goal

abbrev pub invariant-loop-block : goal.invariant-loop-block
invariant-loop-block l = AreFirst (drops l.sites l.kept) l.sums.items l.block
