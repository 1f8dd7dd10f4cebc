use Rattle.std.proofs.Common.{ap, ◌∙◌}
use Rattle.rv_counts.specs.Rows.{capped}
use Rattle.rv_counts.specs.Sums.{at_address}
use Rattle.rv_counts.proofs.SumsLemmas.{executed_are}
use Rattle.rv_counts.proofs.addresses.ByAddress.executions.Goals as goal

pub returns : goal.returns
returns c = λ seen short counted.
    c.executed_at.ensures ∙ ap capped (c.at.ensures (λ row. row.count)) ∙ executed_are c.args.self.now.rows.items seen short counted (at_address c.args.address)
