use Rattle.std.proofs.Common.{drop}
use Rattle.rv_shorten.specs.Sections.{short_section_of}
use Rattle.rv_relax.specs.Kept.{moves_of}
use Rattle.rv_link.specs.Filled.{objects_of, input_of}
use Rattle.rv_link.proofs.StepsLemmas.{IsPatched}
use Rattle.rv_link.proofs.fixed.Fixed.relocate.Given as goal

abbrev pub invariant-loop-relocation : goal.invariant-loop-relocation
invariant-loop-relocation l =
    IsPatched (objects_of l.self) l.self.placement.now (input_of l.self l.input) (moves_of l.input.placed.now.plan.now)
    (short_section_of l.input.section.now).relocations l.fn.bytes (drop l.relocation-index (short_section_of l.input.section.now).relocations) l.bytes
