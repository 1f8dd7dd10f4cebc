use Rattle.std.proofs.Common.{Some}
use Rattle.std.proofs.lemmas.List.Elements.{All-pop}
use Rattle.rv_states.specs.Kept.{IsOfRun}
use Rattle.rv_states.proofs.kept.KeptStates.take_before.Goals as goal

pub returns-then-kept-count-clause-states : goal.returns-then-kept-count-clause-states
returns-then-kept-count-clause-states c = λ m entry input all.
    (All-pop (IsOfRun m entry input) _ _ (Some c.in-Some.kept) c.in-Some.ensures.items (c.loop-kept.invariant.states m entry input all)).0

pub returns-then-kept-count-clause-found : goal.returns-then-kept-count-clause-found
returns-then-kept-count-clause-found c = λ m entry input all.
    (All-pop (IsOfRun m entry input) _ _ (Some c.in-Some.kept) c.in-Some.ensures.items (c.loop-kept.invariant.states m entry input all)).1

pub loop-kept-preserved : goal.loop-kept-preserved
loop-kept-preserved c = record {
  states = λ m entry input all. (All-pop (IsOfRun m entry input) _ _ (Some c.in-Some.kept) c.in-Some.ensures.items (c.loop-kept.invariant.states m entry input all)).0;
  most = c.loop-kept.invariant.most;
}
