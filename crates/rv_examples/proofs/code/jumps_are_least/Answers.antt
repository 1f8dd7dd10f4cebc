use Rattle.rv_examples.proofs.LeastSizesLemmas.{jumps_in_two, jumps_in_four}
use Rattle.rv_examples.proofs.code.jumps_are_least.Goals as goal

pub returns : goal.returns
returns c = record { near = jumps_in_two; far = jumps_in_four }
