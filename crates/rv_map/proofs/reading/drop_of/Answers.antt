use Rattle.rv_map.proofs.LinesLemmas.{drop_taken}
use Rattle.rv_map.proofs.reading.drop_of.Goals as goal

pub returns-clause-found : goal.returns-clause-found
returns-clause-found c =
    drop_taken (record { file = c.in_ok-file.file; section = c.in_ok-section.section }) c.args.bytes.now c.in_ok-rest.rest.now c.in_ok-file.rest.now c.in_ok-section.rest.now
    c.in_ok-rest.ensures.found c.in_ok-file.ensures.found c.in_ok-section.ensures.found
