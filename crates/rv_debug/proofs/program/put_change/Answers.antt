use Rattle.rv_debug.proofs.RowLemmas.{wrote_plain}
use Rattle.rv_debug.proofs.program.put_change.Goals as goal

pub returns : goal.returns
returns c = wrote_plain _ _ _ _ c.args.bytes c.args.from c.args.line c.in_ok-put_bytes.ensures c.in_ok-put_line.ensures c.in_ok-put_copy.ensures
