use Rattle.std.proofs.Common.{slice_index}
use Rattle.rv_call_sizes.specs.Passes.{IsPlace}
use Rattle.rv_call_sizes.proofs.TablesLemmas.{place_read}
use Rattle.rv_call_sizes.proofs.chase.lacks.Goals as goal

pub distance_by_sums-distance-requires-clause-target : goal.distance_by_sums-distance-requires-clause-target
distance_by_sums-distance-requires-clause-target c =
    let place : IsPlace c.args.sites.now c.in-Call.call.target (slice_index c.args.targets.now c.args.i) =
    place_read c.args.sites.now c.args.targets.now c.args.i c.in-Call.call c.requires.targets c.requires.within c.in-Call.is in
    place.within
