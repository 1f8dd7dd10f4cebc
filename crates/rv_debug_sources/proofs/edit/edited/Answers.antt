use Rattle.std.proofs.lemmas.List.{drop_more}
use Rattle.rv_debug_sources.proofs.EditsLemmas.{edit_step}
use Rattle.std.proofs.Common.{◌++◌, ◌∙◌, ap}
use Rattle.rv_debug_sources.proofs.edit.edited.Goals as goal

pub loop-edit-preserved : goal.loop-edit-preserved
loop-edit-preserved c =
    edit_step c.args.is_plain c.args.source.now c.loop-edit.at c.args.edits.now c.loop-edit.edit-index _ c.loop-edit.text.items _ _ _
    (drop_more c.args.edits.now c.loop-edit.edit-index _ c.loop-edit-test.true)
    (c.in_ok-extend_from_slice.ensures.items ∙ ap (λ p. c.loop-edit.text.items ++ p) c.part.ensures) c.in_ok-put_in.ensures c.loop-edit.invariant
