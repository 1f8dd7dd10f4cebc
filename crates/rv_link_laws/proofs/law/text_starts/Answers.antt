use Rattle.rv_link_laws.proofs.GroundLemmas.{text_start_is}
use Rattle.rv_link_laws.proofs.law.text_starts.Goals as goal

pub returns : goal.returns
returns c = λ start. ((λ h. (h.0, h.1)), (λ h. text_start_is start h.0 h.1))
