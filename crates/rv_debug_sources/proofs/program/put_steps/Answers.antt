use Rattle.std.proofs.lemmas.List.{drop_more}
use Rattle.rv_debug_sources.proofs.LinesLemmas.{step_next}
use Rattle.rv_debug_sources.proofs.program.put_steps.Goals as goal

pub loop-step-preserved : goal.loop-step-preserved
loop-step-preserved c =
    step_next c.args.steps.now c.loop-step.step-index _ c.loop-step.text.items _ _ c.loop-step.registers _
    (drop_more c.args.steps.now c.loop-step.step-index _ c.loop-step-test.true)
    c.in_ok-put_step.ensures c.registers_behind-registers.ensures c.loop-step.invariant
