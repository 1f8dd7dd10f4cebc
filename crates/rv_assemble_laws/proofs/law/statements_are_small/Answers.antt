use Rattle.rv_assemble_laws.proofs.WeightsLemmas.{small}
use Rattle.rv_assemble_laws.proofs.law.statements_are_small.Goals as goal

pub returns : goal.returns
returns c = small
