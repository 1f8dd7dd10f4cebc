use Rattle.rv_unit.specs.Unit.{said}
use Rattle.rv_assemble.proofs.RefusedLemmas.{all_sound}
use Rattle.rv_assemble.proofs.source.assembled.Goals as goal

pub returns-clause-sound : goal.returns-clause-sound
returns-clause-sound c =
    all_sound (said c.args.unit) c.requires.good c.in_ok-draft.ensures.sound

pub object-requires-clause-good : goal.object-requires-clause-good
object-requires-clause-good c =
    all_sound (said c.args.unit) c.requires.good c.in_ok-draft.ensures.sound
