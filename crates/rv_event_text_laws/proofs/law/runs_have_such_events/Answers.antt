use Rattle.rv_event_text_laws.proofs.RunsLemmas.{events_fit}
use Rattle.rv_event_text_laws.proofs.law.runs_have_such_events.Goals as goal

pub returns : goal.returns
returns c = events_fit
