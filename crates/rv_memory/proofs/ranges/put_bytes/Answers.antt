use Rattle.std.proofs.Common.{◌≡◌, ◌+◌, ◌%◌, ◌^◌, ◌<◌, ◌∙◌, refl, length, get_or, rules}
use Rattle.rv_isa_laws.specs.Memory.{Mem, Write}
use Rattle.rv_memory.proofs.MemoryLemmas.{may-at, put-number-more, may-kept-number}
use Rattle.rv_memory.proofs.ranges.put_bytes.Goals as goal

pub store-requires-clause-may : goal.store-requires-clause-may
store-requires-clause-may g c =
    may-at (g.M.Memory.mem c.loop-k.memory) c.args.address (length c.args.bytes.now) c.loop-k.k Write c.loop-k-test.true c.loop-k.invariant.may

pub loop-k-preserved : goal.loop-k-preserved
loop-k-preserved g c =
    let m : Mem = g.M.Memory.mem c.loop-k.memory in
    let n : Mem = g.M.Memory.mem c.store.new.self in
    let b = (c.args.address + c.loop-k.k) % 2 ^ 64 in
    let is : c.from.result ≡ get_or c.args.bytes.now c.loop-k.k 0 = search (rules, c.from.ensures) in
    let small : c.from.result < 256 = search (rules, is) in
    record {
      put = put-number-more m n c.args.address c.loop-k.k b c.from.result c.args.bytes.now c.loop-k-test.true is small refl c.store.ensures ∙ c.loop-k.invariant.put;
      may = may-kept-number m n c.args.address (length c.args.bytes.now) b 1 c.from.result Write c.store.ensures c.loop-k.invariant.may;
    }
