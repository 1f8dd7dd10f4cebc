use Rattle.rv_states.proofs.WordsLemmas.{read_words}
use Rattle.std.proofs.Common.{arith, rules}
use Rattle.rv_states.proofs.snapshot_reading.numbers_of.Goals as goal

-- src/reading.rt:118:1
pub returns : goal.returns
returns c = λ rest. read_words 37 c.args.head.now rest c.read_u64_into.new.dst (search rules) (omega arith) c.read_u64_into.ensures
