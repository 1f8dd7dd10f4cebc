use Rattle.std.proofs.Common.{ap, ◌∙◌}
use Rattle.rv_isa_laws.specs.Hart as laws
use Rattle.rv_machine.proofs.QuickLemmas.{went_from}
use Rattle.rv_machine.proofs.quick.any_step.Goals as goal

pub returns-then-rare_step : goal.returns-then-rare_step
returns-then-rare_step g c = λ reader input console.
    let kept = c.in-None.ensures reader input console in
    let goes = rw c.if-rare_step.true at c.rare_step.ensures reader input console in
    went_from reader _ _ _ _ _ _ kept.0 kept.1 goes

pub returns-else-rare_step : goal.returns-else-rare_step
returns-else-rare_step g c = λ reader input console.
    let kept = c.in-None.ensures reader input console in
    let same = rw c.if-rare_step.false at c.rare_step.ensures reader input console in
    (ap (λ (x : laws.Hart). record x { pc = c.args.pc }) same.0 ∙ kept.0, same.1 ∙ kept.1)
