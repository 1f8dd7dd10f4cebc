use Rattle.rv_debug.proofs.RowLemmas.{wrote_first}
use Rattle.rv_debug.proofs.program.put_first.Goals as goal

pub returns : goal.returns
returns c = wrote_first _ _ _ c.args.row c.in_ok-put_address.ensures c.in_ok-put_next.ensures
