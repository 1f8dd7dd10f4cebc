use Rattle.rv_parse_laws.proofs.FirstFaultLemmas.{not_both}
use Rattle.rv_parse_laws.proofs.laws.not_both.Goals as goal

pub returns : goal.returns
returns c = not_both
