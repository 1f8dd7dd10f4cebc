use Rattle.rv_pseudo_laws.proofs.ZerosLemmas.{zeros_within}
use Rattle.rv_pseudo.proofs.li.zero_bits.Goals as goal

pub returns-clause-within : goal.returns-clause-within
returns-clause-within c = zeros_within 64 c.args.number 51 c.requires.some c.requires.within
