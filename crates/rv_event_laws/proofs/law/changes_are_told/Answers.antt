use Rattle.rv_event_laws.proofs.ChangesLemmas as lemmas
use Rattle.rv_event_laws.proofs.law.changes_are_told.Goals as goal

pub returns : goal.returns
returns c = lemmas.changes_are_told
