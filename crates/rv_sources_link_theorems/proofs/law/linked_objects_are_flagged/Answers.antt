use Rattle.std.proofs.Common.{◌∙◌}
use Rattle.rv_sources_link_theorems.proofs.names.FlaggedLemmas.{flagged, flags_stay}
use Rattle.rv_sources_link_theorems.proofs.law.linked_objects_are_flagged.Goals as goal

pub returns : goal.returns
returns c = λ sources os bounds relax gc l h program.
    program.linked.rvc ∙ flags_stay relax os l.map.drops program.left program.leaves.relaxed ∙ flagged 1 sources os h
