use Rattle.rv_unit.specs.Unit.{said}
use Rattle.rv_draft.proofs.FirstCodeLemmas.{Decides}
use Rattle.rv_draft.proofs.compressed.has_compressed.Given as goal

-- the statements that are left decide
abbrev pub invariant-loop-index : goal.invariant-loop-index
invariant-loop-index l = Decides (said l.unit) l.index
