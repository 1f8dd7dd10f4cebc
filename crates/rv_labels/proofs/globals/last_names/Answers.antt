use Rattle.std.proofs.Common.{map, take, sym, subst}
use Rattle.std.proofs.lemmas.List.{take_all}
use Rattle.rv_labels.specs.Indices.{AreLast}
use Rattle.rv_labels.specs.Known.{known_of}
use Rattle.rv_labels.proofs.LabelsLemmas.{taken_map}
use Rattle.rv_labels.proofs.globals.last_names.Goals as goal

pub loop-name-preserved : goal.loop-name-preserved
loop-name-preserved c =
    let i = c.loop-name.name-index in
    let names = c.args.names.now in
    let k = c.name-item.result in
    subst (AreLast c.put_name.new.last) (sym (taken_map known_of names i k c.loop-name-test.true c.name-item.is))
    (c.in_ok-put_name.ensures (map known_of (take i names)) c.loop-name.invariant)

pub returns : goal.returns
returns c =
    subst (λ l. AreLast c.loop-name.last (map known_of l)) (take_all c.loop-name.name-index c.args.names.now c.loop-name-test.false) c.loop-name.invariant
