use Rattle.std.proofs.Common.{◌++◌, ap, ◌∙◌}
use Rattle.std.specs.List.{list_any}
use Rattle.rv_object_reader.specs.Stretches.{starts_in}
use Rattle.rv_object_reader.proofs.recent.Recent.settle.Goals as goal

pub returns-clause-moved : goal.returns-clause-moved
returns-clause-moved c = λ a b. c.in_ok-put_all.ensures a b
    ∙ ap (λ l. list_any (starts_in a b) (l ++ c.args.fields.now.by_start.entries)) c.as_slice.ensures.value
