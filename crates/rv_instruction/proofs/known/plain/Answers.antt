use Rattle.rv_instruction.proofs.RangesLemmas.{bare_codable}
use Rattle.rv_instruction.proofs.known.plain.Goals as goal

pub returns-clause-codable : goal.returns-clause-codable
returns-clause-codable c = bare_codable c.args.statement c.args.compressed c.without_operand.result c.plain_in_range.ensures c.without_operand.ensures
