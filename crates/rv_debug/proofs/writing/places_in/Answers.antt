use Rattle.rv_map.specs.Views.{map_of}
use Rattle.rv_debug.proofs.WritingLemmas.{known_of}
use Rattle.rv_debug.proofs.writing.places_in.Goals as goal

pub returns-clause-known : goal.returns-clause-known
returns-clause-known c =
    known_of (map_of c.args.map.now) _ c.regions_are_known.ensures c.in_ok-stored_at.ensures.place c.in_ok-stored_at-2.ensures.place
    c.in_ok-stored_at-3.ensures.place
