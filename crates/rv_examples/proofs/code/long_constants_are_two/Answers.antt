use Rattle.rv_examples.proofs.KnownCodesLemmas.{words, mixed}
use Rattle.rv_examples.proofs.code.long_constants_are_two.Goals as goal

pub returns : goal.returns
returns c = record { words = words; both = mixed }
