use Rattle.std.proofs.Common.{[], ap, ◌∙◌}
use Rattle.rv_machine.specs.declared.hart.Hart.{Hart}
use Rattle.rv_machine.specs.Hart.{hart_of}
use Rattle.rv_machine.proofs.watching.Watched.new.Goals as goal

pub returns-clause-hart : goal.returns-clause-hart
returns-clause-hart g c = λ input. ap (λ (h : Hart). hart_of h input []) c.from_parts.ensures.hart ∙ c.new.ensures input
