use Rattle.rv_states.proofs.KeepsLemmas.{keeps_all, keeps_on}
use Rattle.rv_states.proofs.snapshot_laws.keeping_goes_on.Goals as goal

pub returns-clause-start : goal.returns-clause-start
returns-clause-start c = keeps_all

pub returns-clause-on : goal.returns-clause-on
returns-clause-on c = keeps_on
