use Rattle.rv_assemble_laws.proofs.OpenedNamesLemmas.{sections_named}
use Rattle.rv_assemble_laws.proofs.law.sections_are_named.Goals as goal

pub returns : goal.returns
returns c = sections_named
