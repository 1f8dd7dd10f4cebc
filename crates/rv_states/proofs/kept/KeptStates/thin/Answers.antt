use Rattle.std.proofs.Common.{sym, subst, List}
use Rattle.std.specs.List.{All}
use Rattle.rv_states.specs.declared.kept.Kept.{Kept}
use Rattle.rv_states.specs.Kept.{IsOfRun}
use Rattle.rv_states.proofs.KeptLemmas.{all_where}
use Rattle.rv_states.proofs.kept.KeptStates.thin.Goals as goal

pub returns-clause-states : goal.returns-clause-states
returns-clause-states c = λ m entry input all.
    let left = c.retain.ensures.filtered in
    subst (λ (xs : List Kept). All (IsOfRun m entry input) xs) (sym left.4) (all_where (IsOfRun m entry input) left.0 c.args.self.now.states.items all)
