use Rattle.rv_instruction.proofs.OneInstructionLemmas.{told_alone}
use Rattle.rv_instruction.proofs.known.value_one.Goals as goal

pub returns-in-Constant-clause-is : goal.returns-in-Constant-clause-is
returns-in-Constant-clause-is c =
    told_alone c.args.operation.now c.args.value.now _ c.in-Constant.is c.constant_one.result c.constant_one.ensures.is
