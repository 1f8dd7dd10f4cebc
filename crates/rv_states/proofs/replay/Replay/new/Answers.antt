use Rattle.std.proofs.Common.{[], arith}
use Rattle.std.proofs.lemmas.List.Elements.{All-same, All-nil}
use Rattle.rv_image.specs.Views.{image_of}
use Rattle.rv_image_laws.specs.Memory.{mem_of}
use Rattle.rv_memory.specs.HeldPages.{held_pages}
use Rattle.rv_states.specs.Kept.{IsOfRun}
use Rattle.rv_states.proofs.ReplayedLemmas.{begun}
use Rattle.rv_states.proofs.replay.Replay.new.Goals as goal

pub invariant_of-result : goal.invariant_of-result
invariant_of-result c =
    let machine = c.in_ok-machine.machine in
    let image = c.args.image in
    let first = begun (mem_of (image_of image)) image.entry c.args.input.items machine.hart (held_pages machine.memory) machine.intake.ended c.in_ok-machine.ensures.hart c.in_ok-machine.ensures.memory c.in_ok-machine.ensures.ended in
    let IsOne = IsOfRun (mem_of (image_of image)) image.entry c.args.input.items in
    record {
      within = omega arith;
      replayed = λ going more none. ∣ first more none ∣₁;
      kept_states = ∣ All-same IsOne c.new-kept.result.states.items [] c.new-kept.ensures.none (All-nil IsOne) ∣₁;
      few = c.new-kept.ensures.few;
    }
