use Rattle.rv_parse_laws.proofs.WholeLemmas.{one_reading}
use Rattle.rv_parse_laws.proofs.laws.one_reading.Goals as goal

pub returns : goal.returns
returns c = one_reading
