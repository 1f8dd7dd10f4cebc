use Rattle.std.proofs.Common.{◌≡◌, ◌+◌, ◌-◌, ℕ, ◌∙◌, subst, arith}
use Rattle.std.specs.Prelude.{None}
use Rattle.std.proofs.Math.Logic.{∥∥₁_map}
use Rattle.rv_states.specs.States.{IsAfter}
use Rattle.rv_states.proofs.ReplayedLemmas.{still}
use Rattle.rv_states.proofs.replay.Replay.go_to.Goals as goal

pub returns-clause-state : goal.returns-clause-state
returns-clause-state c =
    let new = c.advance.new.self in
    let more : ℕ = c.args.count - new.count in
    let same : new.count + more ≡ c.args.count = omega (arith, c.in_ok-advance.ensures.most, c.in_ok-approach.ensures.most) in
    let none : new.end ≡ None → more ≡ 0 = λ is.
    let reached = c.in_ok-advance.ensures.count (omega (arith, c.in_ok-approach.ensures.most)) is in
    omega (arith, reached, c.in_ok-approach.ensures.most) in
    ∥∥₁_map (new.replayed (c.in_ok-advance.ensures.lost ∙ c.in_ok-approach.ensures.lost ∙ c.in_ok-go_before.ensures.lost) more (still new.end more none)) (λ at. subst (λ (n : ℕ). IsAfter new n) same at)
