use Rattle.std.proofs.Common.{◌≡◌, ◌+◌, ℕ, drop, refl, subst, arith}
use Rattle.std.specs.Prelude.{is_ok}
use Rattle.std.proofs.Math.Logic.{∥∥₁_map₂}
use Rattle.rv_image.specs.Views.{image_of}
use Rattle.rv_image_laws.specs.Memory.{mem_of}
use Rattle.rv_memory.specs.HeldPages.{held_pages}
use Rattle.rv_states.specs.Kept.{IsOfRun}
use Rattle.rv_states.specs.Replayed.{IsStateAt}
use Rattle.rv_states.proofs.KeptLemmas.{all_pushed, copied_state, still_few}
use Rattle.rv_states.proofs.ReplayedLemmas.{still}
use Rattle.rv_states.proofs.replay.Replay.keep.Goals as goal

pub invariant_of-self-2 : goal.invariant_of-self-2
invariant_of-self-2 c =
    let old = c.make_room.new.self in
    let copy = c.in_ok-machine.machine in
    let m = mem_of (image_of old.image) in
    let input = old.input.items in
    let rest = drop old.taken input in
    let same : old.count + 0 ≡ old.count = omega arith in
    record {
      within = old.within;
      replayed = old.replayed;
      kept_states = ∥∥₁_map₂ (old.replayed (c.make_room.ensures.known c.if-not-make_room.false) 0 (still old.end 0 (λ is. refl))) old.kept_states (λ at all.
          let here = subst (λ (n : ℕ). IsStateAt m old.image.entry input n old.machine.hart (held_pages old.machine.memory) old.machine.intake.ended rest) same at in
          let is = copied_state m old.image.entry input old.count old.machine.hart copy.hart (held_pages old.machine.memory) (held_pages copy.memory) old.machine.intake.ended copy.intake.ended rest
          c.in_ok-machine.ensures.hart c.in_ok-machine.ensures.memory c.in_ok-machine.ensures.ended here in
          all_pushed (IsOfRun m old.image.entry input) (is_ok c.push.result) _ _ _ c.push.ensures.states (old.within, is) all);
      few = still_few old.image _ _ c.push.ensures.most old.few;
    }
