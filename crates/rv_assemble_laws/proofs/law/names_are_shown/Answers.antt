use Rattle.rv_assemble_laws.proofs.SpelledNamesLemmas.{spelled_names}
use Rattle.rv_assemble_laws.proofs.law.names_are_shown.Goals as goal

pub returns : goal.returns
returns c = λ text statements h. spelled_names text statements h
