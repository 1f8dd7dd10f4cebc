use Rattle.rv_expression_laws.proofs.SpansLemmas as lemmas
use Rattle.rv_expression_laws.proofs.laws.spans.Goals as goal

pub returns : goal.returns
returns c = lemmas.spans
