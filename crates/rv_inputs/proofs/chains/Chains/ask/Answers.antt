use Rattle.std.proofs.Common.{◌<◌, suc, sym, subst, ◌∙◌}
use Rattle.rv_inputs.proofs.ChainLemmas.{CoversTo, HasIt, covers_first, covers_more, steps_left, steps_fall}
use Rattle.rv_inputs.proofs.SetLemmas.{insert_keeps, insert_has}
use Rattle.rv_inputs.proofs.chains.Chains.ask.Goals as goal

pub loop-at-init : goal.loop-at-init
loop-at-init c = record {
  kept = λ j h. h;
  covered = λ names chains.
      subst (λ r. CoversTo c.args.pending.now names c.args.name.now r × HasIt names c.args.name.now r) (sym (c.copied-at.ensures ∙ c.get.ensures.value))
      (covers_first c.args.pending.now names c.args.name.now _ (chains.ends c.args.name.now));
}

pub loop-at-preserved : goal.loop-at-preserved
loop-at-preserved c =
    let s = c.loop-at.pending in let n = c.insert.new.self in let i = c.in-Some.i in let name = c.args.name.now in
    let keeps = insert_keeps s n i c.in_ok-insert.ensures.updates in record {
      kept = λ j h. keeps j (c.loop-at.invariant.kept j h);
      covered = λ names chains.
          let was = subst (λ r. CoversTo s names name r × HasIt names name r) c.in-Some.is (c.loop-at.invariant.covered names chains) in
          subst (λ r. CoversTo n names name r × HasIt names name r) (sym c.one_before-at.ensures)
          (covers_more s n c.args.self.now.last c.args.self.now.before.items names name i chains keeps (insert_has s n i c.in_ok-insert.ensures.updates) was.0 was.1);
    }

pub loop-at-smaller : goal.loop-at-smaller
loop-at-smaller c =
    let i = c.in-Some.i in
    let less = steps_fall c.args.self.now.before.items i c.args.self.now.falls in
    subst (λ r. steps_left c.one_before-at.result < steps_left r) (sym c.in-Some.is) (subst (λ r. steps_left r < suc i) (sym c.one_before-at.ensures) less)
