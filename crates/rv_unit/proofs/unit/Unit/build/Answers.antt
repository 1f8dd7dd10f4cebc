use Rattle.std.proofs.Common.{IfErr, subst}
use Rattle.rv_unit.specs.Unit.{NamesFirst}
use Rattle.rv_unit.proofs.BuiltLemmas.{built_same}
use Rattle.rv_unit.proofs.unit.Unit.build.Goals as goal

pub returns-clause-same : goal.returns-clause-same
returns-clause-same c = built_same c.of-2.result c.in_ok-statements.statements _ c.in_ok-statements.ensures c.of-2.ensures.same

pub returns-clause-refuses : goal.returns-clause-refuses
returns-clause-refuses c = subst (λ l. IfErr c.of-2.result (λ e. NamesFirst e l)) c.in_ok-statements.ensures c.of-2.ensures.refuses
