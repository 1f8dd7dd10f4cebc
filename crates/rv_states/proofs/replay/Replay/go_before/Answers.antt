use Rattle.std.proofs.Math.Logic.{∥∥₁_map}
use Rattle.rv_image.specs.Views.{image_of}
use Rattle.rv_image_laws.specs.Memory.{mem_of}
use Rattle.rv_states.proofs.KeptLemmas.{still_few, still_kept}
use Rattle.rv_states.proofs.replay.Replay.go_before.Goals as goal

pub invariant_of-self : goal.invariant_of-self
invariant_of-self c =
    let old = c.args.self.now in
    record {
      within = old.within;
      replayed = old.replayed;
      kept_states = still_kept (mem_of (image_of old.image)) old.image.entry old.input.items _ _ c.take_before.ensures.states old.kept_states;
      few = still_few old.image _ _ c.take_before.ensures.most old.few;
    }

pub restore-requires : goal.restore-requires
restore-requires c =
    let old = c.args.self.now in
    ∥∥₁_map old.kept_states (λ all. c.in-Some.ensures.found (mem_of (image_of old.image)) old.image.entry old.input.items all)
