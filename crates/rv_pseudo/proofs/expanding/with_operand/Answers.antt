use Rattle.rv_pseudo.proofs.LowestLemmas.{none_lowest}
use Rattle.rv_pseudo.proofs.TableLemmas.{answer_fault}
use Rattle.rv_pseudo.proofs.expanding.with_operand.Goals as goal

pub returns-in-Some : goal.returns-in-Some
returns-in-Some c = answer_fault c.args.operation c.args.function c.args.manner c.operand_fault.result c.in-Some.code c.in-Some.is c.operand_fault.ensures

pub else_unplaced-requires : goal.else_unplaced-requires
else_unplaced-requires c = none_lowest c.operand_fault.result _ c.operand_fault.ensures c.in-None.is
