use Rattle.rv_instruction.specs.Scoped.{labels_at}
use Rattle.rv_instruction.proofs.RangesLemmas.{operand_codable}
use Rattle.rv_instruction.proofs.StatementKindsLemmas.{operand_found, operand_refused}
use Rattle.rv_instruction.proofs.coding.with_value.Goals as goal

pub returns-in-Ok-clause-built : goal.returns-in-Ok-clause-built
returns-in-Ok-clause-built c = λ index s v x filled stands out says at.
    operand_found c.args.operation c.args.function x v (labels_at c.args.scope.now index) c.worth-told.result (c.worth-told.ensures index filled stands c.args.line (v x) out)
    s c.args.compressed c.args.bytes c.in-Ok.templates says c.in-Ok.ensures

pub returns-in-Ok-clause-codable : goal.returns-in-Ok-clause-codable
returns-in-Ok-clause-codable c = λ e offers.
    operand_codable c.args.operation c.args.function c.worth-told.result c.args.compressed c.args.bytes c.in-Ok.templates c.in-Ok.ensures c.operation_in_range.ensures e offers

pub returns-in-Err-clause-built : goal.returns-in-Err-clause-built
returns-in-Err-clause-built c = λ index s v x filled stands out says at.
    operand_refused c.args.operation c.args.function x v (labels_at c.args.scope.now index) c.worth-told.result (c.worth-told.ensures index filled stands c.args.line (v x) out)
    s c.args.compressed c.args.bytes c.args.line c.in-Err.code says at c.in-Err.ensures
