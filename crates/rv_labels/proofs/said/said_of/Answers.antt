use Rattle.std.proofs.Common.{◌∙◌}
use Rattle.std.specs.Prelude.{unwrap_or}
use Rattle.rv_labels.proofs.said.said_of.Goals as goal

pub returns : goal.returns
returns c = λ marks are.
    c.unwrap_or.ensures ∙ (λ i. unwrap_or ((c.copied.ensures ∙ c.get.ensures.value) i) (c.nothing_said.ensures i)) ∙ are c.args.name.now
