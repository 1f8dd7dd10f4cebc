use Rattle.std.proofs.Common.{ap, ◌∙◌, w64}
use Rattle.std.proofs.lemmas.Int.{to_z-of_z}
use Rattle.rv_pseudo_laws.specs.Li.{li}
use Rattle.rv_pseudo.proofs.li.li_sequence.Goals as goal

pub returns : goal.returns
returns c = c.li_in.ensures.items ∙ ap (li c.args.rd) (to_z-of_z w64 c.args.value c.ranges.value)
