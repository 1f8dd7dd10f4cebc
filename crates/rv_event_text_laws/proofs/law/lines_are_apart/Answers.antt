use Rattle.rv_event_text_laws.proofs.EventLineLemmas.{same_event, same_events}
use Rattle.rv_event_text_laws.proofs.law.lines_are_apart.Goals as goal

pub returns : goal.returns
returns c = record { events = same_event; lists = same_events }
