use Rattle.std.proofs.Common.{◌≡◌, ◌+◌, ◌%◌, ◌^◌, sym, ◌∙◌, ap, get_or, length, arith, List, ℕ}
use Rattle.rv_isa_laws.specs.Memory.{Mem}
use Rattle.rv_memory.proofs.MemoryLemmas.{byte-of-bytes}
use Rattle.rv_memory.proofs.pieces.load_number.Goals as goal

pub returns-then-bytes-rest-clause-bytes : goal.returns-then-bytes-rest-clause-bytes
returns-then-bytes-rest-clause-bytes g c = λ k low.
    let m : Mem = g.P.Pieces.mem c.args.memory.now in
    let e : m.byte ((c.args.address + k) % 2 ^ 64) ≡ get_or c.rest-rest.result.now k 0 =
    sym (byte-of-bytes m c.args.address (length c.rest-rest.result.now) k (omega arith)) ∙ ap (λ (bs : List ℕ). get_or bs k 0) c.rest-rest.ensures.bytes in
    omega (arith, e, c.rest-rest.ensures.small k)
