use Rattle.std.proofs.Common.{◌≡◌, ℕ, suc, ◌+◌, ◌-◌, ap, sym, ◌∙◌, arith}
use Rattle.std.proofs.lemmas.Bool.Decides.{nat_tests}
use Rattle.rv_memory.specs.HeldPages.{held_pages}
use Rattle.rv_states.specs.Snapshot.{with_pieces}
use Rattle.rv_states.proofs.PieceLemmas.{after_pieces}
use Rattle.rv_states.proofs.snapshot_reading.put_pieces.Goals as goal

pub returns-in-None : goal.returns-in-None
returns-in-None c =
    let left : c.args.count - c.loop.counter ≡ suc (c.args.count - c.loop.counter - 1) = omega arith in
    sym c.loop.invariant ∙ ap (λ (k : ℕ). with_pieces k c.loop.rest.now (held_pages c.loop.memory)) left ∙ c.in-None.ensures (c.args.count - c.loop.counter - 1)

pub loop-preserved : goal.loop-preserved
loop-preserved c =
    let left : c.args.count - c.loop.counter ≡ suc (c.args.count - (c.loop.counter + 1)) = omega arith in
    sym (ap (λ (k : ℕ). with_pieces k c.loop.rest.now (held_pages c.loop.memory)) left ∙ c.in-Some.ensures (c.args.count - (c.loop.counter + 1))) ∙ c.loop.invariant

pub returns : goal.returns
returns c =
    let none : c.args.count - c.loop.counter ≡ 0 = omega arith in
    after_pieces c.is_empty.result c.loop.rest.now (held_pages c.loop.memory) (with_pieces c.args.count c.args.pieces.now (held_pages c.args.memory.now))
    (λ e. grind (arith, nat_tests)) (λ e. grind (arith, nat_tests))
    (ap (λ (k : ℕ). with_pieces k c.loop.rest.now (held_pages c.loop.memory)) (sym none) ∙ c.loop.invariant)
