use Rattle.std.proofs.Common.{map, arith}
use Rattle.rv_shorten.specs.View.{short_object_of}
use Rattle.rv_placement.specs.Walk.{goes}
use Rattle.rv_placement.proofs.AlignmentsLemmas.{greatest_start_of}
use Rattle.rv_placement.proofs.alignment.greatest_of.Goals as goal

pub loop-object-init : goal.loop-object-init
loop-object-init c = (greatest_start_of (goes c.args.destination) (map short_object_of c.args.objects.now), omega arith, omega arith)
