use Rattle.std.proofs.Common.{rules}
use Rattle.rv_object_laws.proofs.CountedLemmas.{row_counted}
use Rattle.rv_assemble.proofs.rows.row.Goals as goal

pub returns-clause-counted : goal.returns-clause-counted
returns-clause-counted c = search (rules, row_counted)
