use Rattle.std.proofs.Common.{◌∙◌, sym}
use Rattle.rv_debug.proofs.RowLemmas.{wrote_break}
use Rattle.rv_debug.proofs.program.put_break.Goals as goal

pub returns-clause-written : goal.returns-clause-written
returns-clause-written c =
    wrote_break _ _ _ c.args.row c.args.rest.now (sym c.is_continued.ensures ∙ c.if-is_continued.false)
    c.in_ok-put_bytes.ensures c.in_ok-put_end.ensures
