use Rattle.std.proofs.Common.{◌≡◌, ◌+◌, ◌-◌, ℕ, length, drop, refl, sym, ap, ◌∙◌, subst, List, arith}
use Rattle.std.proofs.Math.Logic.{∥∥₁_map}
use Rattle.std.proofs.lemmas.List.{length-drop, drop-drop}
use Rattle.rv_image.specs.Views.{image_of}
use Rattle.rv_image_laws.specs.Memory.{mem_of}
use Rattle.rv_memory.specs.HeldPages.{held_pages}
use Rattle.rv_states.specs.Replayed.{IsStateAt}
use Rattle.rv_states.proofs.ReplayedLemmas.{still}
use Rattle.rv_states.proofs.replay.Replay.run.Goals as goal

pub invariant_of-self-in-Ok : goal.invariant_of-self-in-Ok
invariant_of-self-in-Ok c =
    let old = c.args.self.now in
    let input : List ℕ = old.input.items in
    let rest : List ℕ = c.split_at.result.1.now in
    let is : rest ≡ drop old.taken input = c.split_at.ensures.back ∙ ap (λ (xs : List ℕ). drop old.taken xs) c.as_slice.ensures.value in
    let moved : ℕ = length rest - c.in-Ok.ran.left in
    let further : drop moved rest ≡ drop (old.taken + moved) input = ap (λ (xs : List ℕ). drop moved xs) is ∙ drop-drop moved old.taken input in
    let new = c.run_on-ran.new.machine in
    record {
      within = omega (arith, ap length is, length-drop old.taken input, c.in-Ok.ensures.left);
      replayed = λ going more stays. ∥∥₁_map (old.replayed going 0 (still old.end 0 (λ is. refl))) (λ at.
          let begun : old.count + 0 ≡ old.count = omega arith in
          let from = subst (λ (n : ℕ). IsStateAt (mem_of (image_of old.image)) old.image.entry input n old.machine.hart (held_pages old.machine.memory) old.machine.intake.ended (drop old.taken input)) begun at in
          let here = subst (λ (xs : List ℕ). IsStateAt (mem_of (image_of old.image)) old.image.entry input old.count old.machine.hart (held_pages old.machine.memory) old.machine.intake.ended xs) (sym is) from in
          let there = c.in-Ok.ensures.state (mem_of (image_of old.image)) old.image.entry input old.count more stays here in
          subst (λ (xs : List ℕ). IsStateAt (mem_of (image_of old.image)) old.image.entry input (old.count + c.in-Ok.ran.steps + more) new.hart (held_pages new.memory) new.intake.ended xs) further there);
      kept_states = old.kept_states;
      few = old.few;
    }
