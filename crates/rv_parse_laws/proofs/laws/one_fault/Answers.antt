use Rattle.rv_parse_laws.proofs.FirstFaultLemmas.{one_fault}
use Rattle.rv_parse_laws.proofs.laws.one_fault.Goals as goal

pub returns : goal.returns
returns c = one_fault
