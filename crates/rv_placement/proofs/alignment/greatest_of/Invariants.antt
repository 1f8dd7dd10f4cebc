use Rattle.std.proofs.Common.{◌≡◌, ◌<◌, ◌≤◌, max, map, drop}
use Rattle.rv_shorten.specs.View.{short_object_of}
use Rattle.rv_placement.specs.Walk as walk
use Rattle.rv_placement.proofs.alignment.greatest_of.Given as goal

abbrev pub invariant-loop-object : goal.invariant-loop-object
invariant-loop-object l =
    (max l.greatest (walk.greatest_of (walk.goes l.destination) (map short_object_of (drop l.object-index l.objects))) ≡ walk.greatest_of (walk.goes l.destination) (map short_object_of l.objects))
    × (0 < l.greatest) × (l.greatest ≤ 4096)
