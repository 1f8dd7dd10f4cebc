use Rattle.std.proofs.Common.{◌≡◌, drop}
use Rattle.rv_debug_sources.specs.LineText.{first_registers, with_steps}
use Rattle.rv_debug_sources.proofs.program.put_steps.Given as goal

-- what the steps that are left make of the text so far
abbrev pub invariant-loop-step : goal.invariant-loop-step
invariant-loop-step l =
    with_steps l.text.items l.registers (drop l.step-index l.steps) ≡ with_steps l.fn.text.items first_registers l.steps
