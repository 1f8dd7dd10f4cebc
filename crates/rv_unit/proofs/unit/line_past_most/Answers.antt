use Rattle.rv_statement.specs.Statements.{statements_of}
use Rattle.rv_statement.specs.View.{statement_of}
use Rattle.rv_unit_laws.proofs.FewLemmas.{first_past}
use Rattle.rv_unit.proofs.unit.line_past_most.Goals as goal

pub returns-clause-past : goal.returns-clause-past
returns-clause-past c = first_past (statements_of c.args.statements.now) (statement_of c.read.result.now) c.read.ensures
