use Rattle.rv_object_laws.proofs.CountedLemmas.{counted_next}
use Rattle.rv_assemble.proofs.rows.put_row.Goals as goal

pub returns-clause-counted : goal.returns-clause-counted
returns-clause-counted c = λ all. counted_next c.args.rows.now.items c.push.new.self.items c.row.result all c.row.ensures.counted c.in_ok-push.ensures.items
