use Rattle.rv_map.proofs.CuttingLemmas.{stripped}
use Rattle.rv_map.proofs.reading.behind.Goals as goal

pub returns-clause-found : goal.returns-clause-found
returns-clause-found c = stripped c.args.front.now c.args.bytes.now c.strip_prefix.result c.strip_prefix.ensures.cases
