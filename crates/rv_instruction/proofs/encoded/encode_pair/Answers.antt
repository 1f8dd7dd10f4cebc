use Rattle.std.proofs.Common.{rules, ◌≡◌, []}
use Rattle.rv_instruction.specs.Code.{call_of}
use Rattle.rv_instruction.proofs.EncodingLemmas.{open_pair, pair_made}
use Rattle.rv_instruction.proofs.encoded.encode_pair.Goals as goal

pub returns-clause-parts : goal.returns-clause-parts
returns-clause-parts c = λ compressed.
    let empty : c.new-code.result.items ≡ [] = search rules in
    pair_made compressed (call_of c.args.first c.args.second) c.new-code.result.items c.push.new.self.items _ empty c.push.ensures.items
    (open_pair c.args.first c.args.second c.encode.result c.encode-2.result c.requires c.encode.ensures c.encode-2.ensures compressed)
