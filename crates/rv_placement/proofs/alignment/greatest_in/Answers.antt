use Rattle.std.proofs.Common.{map, arith}
use Rattle.rv_shorten.specs.Sections.{short_section_of}
use Rattle.rv_placement.specs.Walk.{goes}
use Rattle.rv_placement.proofs.AlignmentsLemmas.{greatest_start}
use Rattle.rv_placement.proofs.alignment.greatest_in.Goals as goal

pub loop-section-init : goal.loop-section-init
loop-section-init c = (greatest_start (goes c.args.destination) (map short_section_of c.args.sections.now), omega arith, omega arith)
