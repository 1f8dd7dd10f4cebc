use Rattle.rv_examples.proofs.LeastSizesLemmas.{branches_in_two, branches_in_four, branches_in_eight}
use Rattle.rv_examples.proofs.code.branches_are_least.Goals as goal

pub returns : goal.returns
returns c = record { near = branches_in_two; word = branches_in_four; far = branches_in_eight }
