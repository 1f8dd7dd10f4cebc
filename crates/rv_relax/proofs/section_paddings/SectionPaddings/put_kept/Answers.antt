use Rattle.std.proofs.Common.{rules}
use Rattle.rv_relax.specs.Kept.{moves_of}
use Rattle.rv_relax.proofs.section_paddings.SectionPaddings.put_kept.Goals as goal

pub returns : goal.returns
unfolding moves_of
returns c = search rules
