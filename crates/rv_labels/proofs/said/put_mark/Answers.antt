use Rattle.std.proofs.Common.{◌∙◌, ap}
use Rattle.std.proofs.lemmas.Map.Text.{btree_map_updates_str}
use Rattle.rv_debug_laws.specs.Labels.{said_behind}
use Rattle.rv_labels.specs.Known.{mark_of}
use Rattle.rv_labels.proofs.LabelsLemmas.{said_more}
use Rattle.rv_labels.proofs.said.put_mark.Goals as goal

pub returns : goal.returns
returns c = λ marks are name.
    let m = mark_of c.args.mark.now in
    said_more m marks name _ _ _ (btree_map_updates_str m.name c.args.said.now c.insert.new.self _ c.in_ok-insert.ensures.updates name)
    (c.said_behind.ensures ∙ ap (λ b. said_behind b m.said) (c.said_of-before.ensures marks are)) (are name)
