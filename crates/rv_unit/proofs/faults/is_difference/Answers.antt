use Rattle.rv_unit.proofs.faults.is_difference.Goals as goal

pub returns : goal.returns
returns c = c.tells_difference.ensures 0 _ c.open_value.ensures
