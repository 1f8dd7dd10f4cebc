use Rattle.std.proofs.Common.{ap, sym, not, ◌∙◌}
use Rattle.rv_collect.proofs.LeftLemmas.{none_added, one_added}
use Rattle.rv_collect.proofs.left.put_row.Goals as goal

pub returns-then-is_dropped : goal.returns-then-is_dropped
returns-then-is_dropped c = none_added c.args.left.now.items c.args.row _ (ap not (sym c.is_dropped.ensures ∙ c.if-is_dropped.true))

pub returns : goal.returns
returns c = one_added c.args.left.now.items c.push.new.self.items c.args.row _ (ap not (sym c.is_dropped.ensures ∙ c.if-is_dropped.false)) c.in_ok-push.ensures.items
