use Rattle.std.proofs.lemmas.List.Elements.{All-same}
use Rattle.rv_states.specs.Kept.{IsOfRun}
use Rattle.rv_states.proofs.kept.KeptStates.make_room.Goals as goal

pub returns-clause-states : goal.returns-clause-states
returns-clause-states c = λ m entry input all.
    All-same (IsOfRun m entry input) _ _ c.set_due.ensures.states (c.halve_if_full.ensures.states m entry input (c.thin_if_full.ensures.states m entry input all))
