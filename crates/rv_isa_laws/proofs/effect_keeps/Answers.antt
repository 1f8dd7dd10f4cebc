use Rattle.rv_isa_laws.proofs.EffectLawsLemmas as laws
use Rattle.rv_isa_laws.proofs.effect_keeps.Goals as goal

pub returns : goal.returns
returns c = laws.effect_keeps
