use Rattle.std.proofs.Common.{◌∙◌}
use Rattle.rv_map.specs.Views.{map_of}
use Rattle.rv_map.proofs.law.reread.Goals as goal

pub returns : goal.returns
returns c = c.read.ensures.only (map_of c.args.map.now) c.in_ok-text.ensures.readable (c.deref.ensures.value ∙ c.in_ok-text.ensures.text)
