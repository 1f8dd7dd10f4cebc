use Rattle.rv_map.proofs.LinesLemmas.{global_taken}
use Rattle.rv_map.proofs.reading.global_of.Goals as goal

pub returns-then-is_name-clause-found : goal.returns-then-is_name-clause-found
returns-then-is_name-clause-found c =
    global_taken c.in_ok-name.name.now c.in_ok-address.address c.args.bytes.now c.in_ok-rest.rest.now c.in_ok-name.rest.now c.in_ok-address.rest.now
    c.in_ok-rest.ensures.found c.in_ok-name.ensures.found c.in_ok-address.ensures.found
