use Rattle.std.proofs.Common.{map, take, sym, subst}
use Rattle.std.proofs.lemmas.List.{take_all}
use Rattle.rv_labels.specs.Indices.{AreSaid}
use Rattle.rv_labels.specs.Known.{mark_of}
use Rattle.rv_labels.proofs.LabelsLemmas.{more_map}
use Rattle.rv_labels.proofs.said.said_names.Goals as goal

pub loop-mark-preserved : goal.loop-mark-preserved
loop-mark-preserved c =
    let i = c.loop-mark.mark-index in
    let marks = c.args.marks.now in
    subst (AreSaid c.put_mark.new.said) (sym (more_map mark_of marks i _ c.loop-mark-test.true))
    (c.in_ok-put_mark.ensures (map mark_of (take i marks)) c.loop-mark.invariant)

pub returns : goal.returns
returns c =
    subst (λ l. AreSaid c.loop-mark.said (map mark_of l)) (take_all c.loop-mark.mark-index c.args.marks.now c.loop-mark-test.false) c.loop-mark.invariant
