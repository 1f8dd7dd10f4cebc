use Rattle.std.proofs.Common.{refl}
use Rattle.rv_expression_laws.specs.Bytes.{digit}
use Rattle.rv_examples.proofs.refused.worked_are_sound.Goals as goal

pub returns : goal.returns
unfolding digit
returns c = record { exit7 = refl; hello = refl; differences = refl; figures = refl }
