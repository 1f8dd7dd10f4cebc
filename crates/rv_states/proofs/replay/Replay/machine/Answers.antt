use Rattle.std.proofs.Common.{◌≡◌, ◌+◌, ℕ, refl, subst, arith}
use Rattle.std.proofs.Math.Logic.{∥∥₁_map}
use Rattle.rv_states.specs.States.{IsAfter}
use Rattle.rv_states.proofs.ReplayedLemmas.{still}
use Rattle.rv_states.proofs.replay.Replay.machine.Goals as goal

pub returns-clause-state : goal.returns-clause-state
returns-clause-state c =
    let self = c.args.self.now in
    let same : self.count + 0 ≡ self.count = omega arith in
    λ known. ∥∥₁_map (self.replayed known 0 (still self.end 0 (λ is. refl))) (λ at. subst (λ (n : ℕ). IsAfter self n) same at)
