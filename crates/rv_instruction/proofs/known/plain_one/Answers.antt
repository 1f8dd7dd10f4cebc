use Rattle.rv_instruction.proofs.OneInstructionLemmas.{plain_valid, plain_alone}
use Rattle.rv_instruction.proofs.known.plain_one.Goals as goal

pub returns-clause-valid : goal.returns-clause-valid
returns-clause-valid c = plain_valid c.args.statement.now c.single_bare.result c.plain_in_range.ensures c.single_bare.ensures.is

pub returns-clause-is : goal.returns-clause-is
returns-clause-is c = plain_alone c.args.statement.now c.single_bare.result c.single_bare.ensures.is
