use Rattle.rv_map.proofs.LinesLemmas.{row_taken}
use Rattle.rv_map.proofs.reading.row_of.Goals as goal

pub returns-clause-found : goal.returns-clause-found
returns-clause-found c =
    row_taken
    (record { file = c.in_ok-file.file; line = c.in_ok-line.line; ordinal = c.in_ok-ordinal.ordinal; address = c.in_ok-address.address; bytes = c.in_ok-bytes.bytes; instructions = c.in_ok-instructions.instructions })
    c.args.bytes.now c.in_ok-rest.rest.now c.in_ok-file.rest.now c.in_ok-line.rest.now c.in_ok-ordinal.rest.now c.in_ok-address.rest.now c.in_ok-bytes.rest.now c.in_ok-instructions.rest.now
    c.in_ok-rest.ensures.found c.in_ok-file.ensures.found c.in_ok-line.ensures.found c.in_ok-ordinal.ensures.found c.in_ok-address.ensures.found c.in_ok-bytes.ensures.found
    c.in_ok-instructions.ensures.found
