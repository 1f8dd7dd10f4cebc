use Rattle.std.proofs.Common.{List, ap, ◌∙◌}
use Rattle.std.proofs.lemmas.Result.{IfOk-weaker}
use Rattle.rv_counts.specs.declared.rows.CountedInstruction.{CountedInstruction}
use Rattle.rv_counts.specs.Rows.{sum_of}
use Rattle.rv_counts.proofs.counts.Counts.by_address.Goals as goal

pub returns : goal.returns
returns c =
    IfOk-weaker c.of.result _ _ (λ by h. λ seen short has. let counted = has.counts short in record { executed = λ test. h test (λ row. row.count) ∙ ap (λ (l : List CountedInstruction). sum_of test (λ row. row.count) l) c.all.ensures ∙ counted.executed test; taken = λ test. h test (λ row. row.taken) ∙ ap (λ (l : List CountedInstruction). sum_of test (λ row. row.taken) l) c.all.ensures ∙ counted.taken test; called = λ test. h test (λ row. row.calls) ∙ ap (λ (l : List CountedInstruction). sum_of test (λ row. row.calls) l) c.all.ensures ∙ counted.called test }) c.of.ensures
