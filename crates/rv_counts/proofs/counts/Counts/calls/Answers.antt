use Rattle.std.proofs.Common.{List, ap, ◌∙◌}
use Rattle.std.proofs.lemmas.Result.{IfOk-weaker}
use Rattle.rv_counts.specs.declared.rows.CountedInstruction.{CountedInstruction}
use Rattle.rv_counts.specs.Rows.{sum_of}
use Rattle.rv_counts.specs.Sums.{at_address}
use Rattle.rv_counts.proofs.counts.Counts.calls.Goals as goal

pub returns : goal.returns
returns c =
    IfOk-weaker c.calls_of.result _ _ (λ list h. λ seen short has. record { counted = λ address. h.0 address ∙ ap (λ (l : List CountedInstruction). sum_of (at_address address) (λ row. row.calls) l) c.all.ensures ∙ (has.counts short).called (at_address address); some = h.1 }) c.calls_of.ensures
