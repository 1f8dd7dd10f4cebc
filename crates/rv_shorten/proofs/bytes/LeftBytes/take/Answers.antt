use Rattle.std.proofs.Common.{arith}
use Rattle.std.proofs.lemmas.List.{length-append}
use Rattle.rv_shorten.specs.Bytes.{left_bytes, run_bytes}
use Rattle.rv_isa_laws.specs.Bytes.{little_endian}
use Rattle.rv_isa_laws.proofs.BytesLemmas.{little_long}
use Rattle.rv_shorten.proofs.RunningLemmas.{run_taken}
use Rattle.rv_shorten.proofs.bytes.LeftBytes.take.Goals as goal

pub returns-clause-parts : goal.returns-clause-parts
unfolding left_bytes run_bytes
returns-clause-parts c =
    let s = c.args.self.now in
    rw (c.split_at.ensures.front, c.split_at.ensures.back)
    (run_taken s.word s.bytes s.at c.args.of_call c.args.of_section s.cuts.now s.rest.now s.within c.requires.call c.requires.section c.requires.one)

pub returns-clause-len : goal.returns-clause-len
unfolding run_bytes
returns-clause-len c =
    omega (arith, length-append (little_endian c.args.of_call c.args.self.now.word) c.split_at.result.0.now, little_long c.args.of_call c.args.self.now.word, c.split_at.ensures.front_len)
