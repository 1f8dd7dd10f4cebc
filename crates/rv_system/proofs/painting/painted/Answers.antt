use Rattle.rv_system.proofs.PaintingLemmas.{none_painted, unpainted_whole}
use Rattle.rv_system.proofs.painting.painted.Goals as goal

pub returns-clause-plain : goal.returns-clause-plain
returns-clause-plain c = λ _.
    unpainted_whole _ _ (c.in_ok-put_words.ensures (rw c.new-painted.ensures.items none_painted))
