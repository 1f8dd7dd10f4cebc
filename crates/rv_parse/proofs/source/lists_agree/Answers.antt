use Rattle.rv_parse_laws.proofs.WholeLemmas.{one_reading}
use Rattle.rv_parse.proofs.source.lists_agree.Goals as goal

pub returns : goal.returns
returns c = λ source whole compact first second. one_reading source _ _ first second
