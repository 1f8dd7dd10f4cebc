use Rattle.std.proofs.Common.{◌∙◌}
use Rattle.rv_system.proofs.EscapesLemmas.{found_any}
use Rattle.rv_system.proofs.painting.has_escape.Goals as goal

pub returns : goal.returns
returns c = c.is_some.ensures ∙ found_any c.args.text.now c.memchr.result c.memchr.ensures
