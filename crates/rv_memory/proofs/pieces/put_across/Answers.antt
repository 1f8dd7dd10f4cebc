use Rattle.std.proofs.Common.{◌≡◌, ◌+◌, ◌-◌, ◌%◌, ◌^◌, ◌∙◌, refl, true, take, drop, length, length-drop, arith}
use Rattle.std.proofs.lemmas.Bool.{MatchBool-at_true}
use Rattle.std.proofs.lemmas.List.{length-take}
use Rattle.rv_isa_laws.specs.Memory.{Mem, Write, with_bytes, may}
use Rattle.rv_memory.proofs.MemoryLemmas.{put-more, may-kept, may-at}
use Rattle.rv_memory.proofs.pieces.put_across.Goals as goal

pub loop-k-preserved : goal.loop-k-preserved
loop-k-preserved g c =
    let m : Mem = g.P.Pieces.mem c.loop-k.memory in
    let n : Mem = g.P.Pieces.mem c.put_within.new.self in
    let k = c.loop-k.k in
    let right : may m ((c.args.address + k) % 2 ^ 64) 1 Write ≡ true = may-at m c.args.address (length c.args.bytes.now) k Write c.loop-k-test.true c.loop-k.invariant.may in
    let one : k + 1 - k ≡ 1 = omega arith in
    let did : c.put_within.result ≡ true = c.put_within.ensures.one (simp (length-drop, length-take) (omega arith)) right in
    let new : n ≡ with_bytes m ((c.args.address + k) % 2 ^ 64) (take (k + 1 - k) (drop k c.args.bytes.now)) = MatchBool-at_true _ _ did c.put_within.ensures.put in
    record {
      put = put-more m n c.args.address k ((c.args.address + k) % 2 ^ 64) (k + 1 - k) c.args.bytes.now c.loop-k-test.true one refl new ∙ c.loop-k.invariant.put;
      may = may-kept m n c.args.address (length c.args.bytes.now) ((c.args.address + k) % 2 ^ 64) Write (take (k + 1 - k) (drop k c.args.bytes.now)) new c.loop-k.invariant.may;
    }
