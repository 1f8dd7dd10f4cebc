use Rattle.std.proofs.lemmas.Map.Text.{btree_map_updates_str}
use Rattle.rv_labels.proofs.LabelsLemmas.{last_more}
use Rattle.rv_labels.proofs.globals.put_name.Goals as goal

pub returns : goal.returns
returns c = λ names are name.
    let k = c.args.name.now in
    last_more k names name _ _ (btree_map_updates_str k.name.now c.args.last.now c.insert.new.self _ c.in_ok-insert.ensures.updates name) (are name)
