use Rattle.rv_assemble.proofs.SectionsSoFarLemmas.{IsSoFar}
use Rattle.rv_assemble.proofs.sections.sections.Given as goal

-- the sections so far, and those of what is left, are all sections
abbrev pub invariant-loop-index : goal.invariant-loop-index
invariant-loop-index l = IsSoFar l.index l.extents l.ends l.fn.bytes.items l.fn.relocations.items l.bytes.items l.relocations.items l.sections.items
