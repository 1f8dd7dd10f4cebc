-- What the symbol means is that of the part.
use Rattle.std.proofs.Common.{ap}
use Rattle.rv_expression.specs.Eval.{part_value}
use Rattle.rv_expression.proofs.evaluation.outcome.Goals as goal

pub returns-in-Symbolic : goal.returns-in-Symbolic
returns-in-Symbolic c = (_, ap part_value c.in-Symbolic.is)
