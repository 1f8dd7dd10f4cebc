use Rattle.std.proofs.Common.{arith}
use Rattle.rv_image.specs.Views.{image_of}
use Rattle.rv_image_laws.specs.Memory.{mem_of}
use Rattle.rv_memory.specs.HeldPages.{held_pages}
use Rattle.rv_states.proofs.ReplayedLemmas.{begun}
use Rattle.rv_states.proofs.replay.Replay.restart.Goals as goal

pub invariant_of-self : goal.invariant_of-self
invariant_of-self c =
    let machine = c.in_ok-machine.machine in
    let image = c.args.self.now.image in
    let first = begun (mem_of (image_of image)) image.entry c.args.self.now.input.items machine.hart (held_pages machine.memory) machine.intake.ended c.in_ok-machine.ensures.hart c.in_ok-machine.ensures.memory c.in_ok-machine.ensures.ended in
    record {
      within = omega arith;
      replayed = λ going more none. ∣ first more none ∣₁;
      kept_states = c.args.self.now.kept_states;
      few = c.args.self.now.few;
    }
