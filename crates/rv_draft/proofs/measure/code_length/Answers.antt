use Rattle.std.proofs.Common.{◌+◌, ap}
use Rattle.rv_instruction.specs.Scoped.{values_at}
use Rattle.rv_draft.proofs.measure.code_length.Goals as goal

pub returns-in-Some : goal.returns-in-Some
returns-in-Some c = λ index filled stands padding sound none found is.
    ap (λ n. padding + n) (c.in-Some.ensures none (values_at c.args.scope.now index c.args.place) found is)
