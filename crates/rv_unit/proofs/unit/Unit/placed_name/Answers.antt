use Rattle.rv_unit.proofs.unit.Unit.placed_name.Goals as goal

pub returns-in-Name-clause-none : goal.returns-in-Name-clause-none
returns-in-Name-clause-none c = c.sets_none.ensures c.if-not-sets_none.false
