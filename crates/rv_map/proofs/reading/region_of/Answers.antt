use Rattle.rv_map.proofs.LinesLemmas.{region_taken}
use Rattle.rv_map.proofs.reading.region_of.Goals as goal

pub returns-clause-found : goal.returns-clause-found
returns-clause-found c =
    region_taken c.args.front.now c.in_ok-start.start c.in_ok-end.end c.args.bytes.now c.in_ok-rest.rest.now c.in_ok-start.rest.now c.in_ok-end.rest.now
    c.in_ok-rest.ensures.found c.in_ok-start.ensures.found c.in_ok-end.ensures.found
