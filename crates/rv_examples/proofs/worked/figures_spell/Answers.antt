use Rattle.std.proofs.Common.{refl}
use Rattle.rv_expression_laws.specs.Bytes.{digit}
use Rattle.rv_examples.proofs.worked.figures_spell.Goals as goal

pub returns : goal.returns
unfolding digit
returns c = refl
