use Rattle.std.proofs.Common.{subst}
use Rattle.rv_parse.specs.Left.{RefusedAt}
use Rattle.rv_assemble.proofs.placed.fault_of_text.Goals as goal

pub returns-in-At : goal.returns-in-At
returns-in-At c = λ text refused. subst (RefusedAt text) c.in-At.is refused
