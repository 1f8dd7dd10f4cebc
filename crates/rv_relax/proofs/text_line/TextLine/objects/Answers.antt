use Rattle.std.proofs.Common.{refl}
use Rattle.rv_relax.specs.Plan.{objects_of_line}
use Rattle.rv_relax.proofs.text_line.TextLine.objects.Goals as goal

pub returns : goal.returns
unfolding objects_of_line
returns c = refl
