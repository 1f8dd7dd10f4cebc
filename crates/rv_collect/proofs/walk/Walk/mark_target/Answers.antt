use Rattle.std.proofs.Common.{◌∙◌, ap, sym}
use Rattle.rv_link_laws.specs.Collects.{lies_in}
use Rattle.rv_collect.proofs.walk.Walk.mark_target.Goals as goal

pub mark_place-requires-clause-reached : goal.mark_place-requires-clause-reached
mark_place-requires-clause-reached c = λ t lies. c.requires.reached t (sym (ap (lies_in t) (c.target.ensures c.requires.names c.requires.object)) ∙ lies)
