use Rattle.rv_call_sizes.proofs.SumsLemmas.{AreFirst}
use Rattle.rv_call_sizes.proofs.sums.sums_of.Given as goal

abbrev pub invariant-loop-block : goal.invariant-loop-block
invariant-loop-block l = AreFirst l.numbers l.sums.items l.block
