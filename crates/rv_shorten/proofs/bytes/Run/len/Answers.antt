use Rattle.std.proofs.Common.{arith}
use Rattle.std.proofs.lemmas.List.{length-append}
use Rattle.rv_shorten.specs.Bytes.{run_bytes}
use Rattle.rv_isa_laws.specs.Bytes.{little_endian}
use Rattle.rv_isa_laws.proofs.BytesLemmas.{little_long}
use Rattle.rv_shorten.proofs.bytes.Run.len.Goals as goal

pub returns : goal.returns
unfolding run_bytes
returns c =
    let r = c.args.self.now in
    omega (arith, length-append (little_endian r.bytes r.word) r.section.now, little_long r.bytes r.word)
