use Rattle.std.proofs.Common.{length-drop, rules, arith}
use Rattle.rv_memory.specs.HeldPages.{held_pages}
use Rattle.rv_states.proofs.PieceLemmas.{short_piece, cut_piece, barred_piece, taken_piece}
use Rattle.rv_states.proofs.snapshot_reading.put_piece.Goals as goal

pub returns-then-bytes-lt16 : goal.returns-then-bytes-lt16
returns-then-bytes-lt16 c = λ n. short_piece n c.args.bytes.now (held_pages c.args.memory.now) c.if-bytes-lt16.true

pub returns-then-count-behind : goal.returns-then-count-behind
returns-then-count-behind c = λ n. cut_piece n c.args.bytes.now (held_pages c.args.memory.now) c.read_u64-count.result (search rules) (omega (arith, c.split_at-2.ensures.back_len, length-drop 16 c.args.bytes.now))

pub returns-then-not-may : goal.returns-then-not-may
returns-then-not-may c = λ n. barred_piece n c.args.bytes.now (held_pages c.args.memory.now) c.read_u64-address.result c.read_u64-count.result (search rules) (search rules) (search rules)

pub returns : goal.returns
returns c = λ n. taken_piece n c.args.bytes.now (held_pages c.args.memory.now) (held_pages c.put_bytes.new.memory) c.read_u64-address.result c.read_u64-count.result c.split_at-3.result.0.now c.split_at-3.result.1.now
    (search rules) (search rules) c.if-bytes-lt16.false (omega (arith, c.split_at-2.ensures.back_len, length-drop 16 c.args.bytes.now)) (search rules) (search rules) (search rules) c.put_bytes.ensures
