use Rattle.std.proofs.Common.{◌∙◌}
use Rattle.rv_names.proofs.names.Names.named.Goals as goal

pub returns : goal.returns
returns c = λ os h. c.copied.ensures ∙ c.get.ensures.value ∙ h.answers c.args.name.now
