use Rattle.std.proofs.Common.{◌++◌, sym, ap, ◌∙◌}
use Rattle.std.specs.List.{list_any}
use Rattle.rv_object_reader.specs.Stretches.{starts_in}
use Rattle.rv_object_reader.proofs.EntriesLemmas.{met_late}
use Rattle.rv_object_reader.proofs.recent.Recent.meet.Goals as goal

pub returns-then-are_before-clause-meet : goal.returns-then-are_before-clause-meet
returns-then-are_before-clause-meet c =
    c.meet.ensures ∙ sym (met_late (starts_in c.args.start c.args.end) c.args.self.now.spans.items c.args.fields.now.by_start.entries
    (c.are_before.ensures c.if-are_before.true c.args.end))

pub returns-clause-meet : goal.returns-clause-meet
returns-clause-meet c = c.meet-2.ensures ∙ c.in_ok-settle.ensures.moved c.args.start c.args.end

pub returns-clause-same : goal.returns-clause-same
returns-clause-same c = λ a b. ap (λ l. list_any (starts_in a b) (l ++ c.settle.new.fields.by_start.entries)) c.in_ok-settle.ensures.none ∙ c.in_ok-settle.ensures.moved a b
