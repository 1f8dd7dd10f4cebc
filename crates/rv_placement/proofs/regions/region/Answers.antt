use Rattle.std.proofs.Common.{arith, map}
use Rattle.rv_shorten.specs.View.{short_object_of}
use Rattle.rv_placement.specs.Walk.{goes}
use Rattle.rv_placement.proofs.WalksLemmas.{grows_files}
use Rattle.rv_placement.proofs.regions.region.Goals as goal

pub returns-then-start-ceiling-clause-far : goal.returns-then-start-ceiling-clause-far
returns-then-start-ceiling-clause-far c = omega (grows_files (goes c.args.destination) c.args.start (map short_object_of c.args.objects.now), arith)
