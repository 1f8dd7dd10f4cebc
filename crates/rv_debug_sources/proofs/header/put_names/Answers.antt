use Rattle.std.proofs.lemmas.List.{drop_more}
use Rattle.rv_debug_sources.proofs.LinesLemmas.{name_next}
use Rattle.rv_debug_sources.proofs.header.put_names.Goals as goal

pub loop-name-preserved : goal.loop-name-preserved
loop-name-preserved c =
    name_next c.args.source.now c.args.behind.now c.args.names.now c.loop-name.name-index _ c.loop-name.text.items _ _
    (drop_more c.args.names.now c.loop-name.name-index _ c.loop-name-test.true) c.in_ok-put_name.ensures c.loop-name.invariant
