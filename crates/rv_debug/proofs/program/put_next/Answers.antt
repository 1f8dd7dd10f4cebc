use Rattle.rv_debug.proofs.RowLemmas.{wrote_next}
use Rattle.rv_debug.proofs.program.put_next.Goals as goal

pub returns : goal.returns
returns c = wrote_next _ _ _ c.args.last c.args.row c.requires c.in_ok-put_file.ensures c.in_ok-put_change.ensures
