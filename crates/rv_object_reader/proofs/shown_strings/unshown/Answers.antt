use Rattle.std.proofs.Common.{sym, ◌∙◌, arith}
use Rattle.rv_object_reader.proofs.ShownStringsLemmas.{more_unshown, one_unshown, all_unshown}
use Rattle.rv_object_reader.proofs.shown_strings.unshown.Goals as goal

pub loop-offset-preserved-then-is_shown_at : goal.loop-offset-preserved-then-is_shown_at
loop-offset-preserved-then-is_shown_at c =
    more_unshown c.args.table.now c.loop-offset.all.items c.loop-offset.offset (omega arith) (sym c.is_shown_at.ensures ∙ c.if-is_shown_at.true) c.loop-offset.invariant

pub loop-offset-preserved : goal.loop-offset-preserved
loop-offset-preserved c =
    one_unshown c.args.table.now c.loop-offset.all.items _ c.loop-offset.offset (omega arith) (sym c.is_shown_at.ensures ∙ c.if-is_shown_at.false)
    c.in_ok-push.ensures.items c.loop-offset.invariant

pub returns : goal.returns
returns c = all_unshown c.args.table.now c.loop-offset.all.items c.loop-offset.offset (omega arith) c.loop-offset.invariant
