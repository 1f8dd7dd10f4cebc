use Rattle.rv_map.proofs.LinesLemmas.{head_taken}
use Rattle.rv_map.proofs.reading.head_of.Goals as goal

pub returns-clause-found : goal.returns-clause-found
returns-clause-found c =
    head_taken _ c.args.bytes.now c.in_ok-rest.rest.now c.in_ok-text.rest.now c.in_ok-rodata.rest.now c.in_ok-data.rest.now c.in_ok-bss.rest.now c.in_ok-rest-2.rest.now
    c.in_ok-entry.rest.now c.in_ok-rest.ensures.found c.in_ok-text.ensures.found c.in_ok-rodata.ensures.found c.in_ok-data.ensures.found c.in_ok-bss.ensures.found
    c.in_ok-rest-2.ensures.found c.in_ok-entry.ensures.found
