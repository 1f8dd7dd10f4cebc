use Rattle.rv_machine.proofs.QuickLemmas.{kept_over}
use Rattle.rv_machine.proofs.quick.rare_step.Goals as goal

pub returns-in-Done-Some : goal.returns-in-Done-Some
returns-in-Done-Some g c = λ reader input console.
    kept_over _ _ _ _ _ _ _ c.in-Done-Some.field-0-is (c.in-Done-Some.ensures.remaining reader input console)

pub returns-in-Reads : goal.returns-in-Reads
returns-in-Reads g c = λ reader input console. (c.in-Reads.ensures.remaining reader input console).1

pub returns-in-Writes : goal.returns-in-Writes
returns-in-Writes g c = λ reader input console. (c.in-Writes.ensures.remaining reader input console).1
