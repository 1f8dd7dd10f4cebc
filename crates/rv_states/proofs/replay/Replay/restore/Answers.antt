use Rattle.std.proofs.Common.{◌≡◌, ◌+◌, ℕ, drop, subst, arith}
use Rattle.std.proofs.Math.Logic.{∥∥₁_elim, ∥∥₁_map}
use Rattle.std.proofs.Math.Bridge.{le_prop}
use Rattle.rv_image.specs.Views.{image_of}
use Rattle.rv_image_laws.specs.Memory.{mem_of}
use Rattle.rv_memory.specs.HeldPages.{held_pages}
use Rattle.rv_states.specs.Replayed.{IsStateAt}
use Rattle.rv_states.proofs.replay.Replay.restore.Goals as goal

pub invariant_of-self : goal.invariant_of-self
invariant_of-self c =
    let old = c.args.self.now in
    let kept = c.args.kept in
    record {
      within = ∥∥₁_elim c.requires le_prop (λ is. is.0);
      replayed = λ going more none.
          let same : kept.count ≡ kept.count + more = omega (arith, none) in
          ∥∥₁_map c.requires (λ is.
          subst (λ (n : ℕ). IsStateAt (mem_of (image_of old.image)) old.image.entry old.input.items n kept.machine.hart (held_pages kept.machine.memory) kept.machine.intake.ended (drop kept.taken old.input.items)) same is.1);
      kept_states = old.kept_states;
      few = old.few;
    }
