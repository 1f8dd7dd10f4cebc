use Rattle.std.proofs.Common.{◌≡◌, ◌+◌, ◌%◌, ◌^◌, sym, ◌∙◌, ap, get_or, map, arith, List, ℕ}
use Rattle.rv_isa_laws.specs.Memory.{Mem}
use Rattle.rv_image.specs.SegmentView.{segment_of}
use Rattle.rv_memory.specs.Flat.{memory_of}
use Rattle.rv_memory.proofs.MemoryLemmas.{byte-of-bytes}
use Rattle.rv_memory.proofs.flat.Flat.load_elsewhere.Goals as goal

pub returns-in-Some-clause-bytes : goal.returns-in-Some-clause-bytes
returns-in-Some-clause-bytes c = λ k low.
    let m : Mem = memory_of (map segment_of c.args.self.now.segments.items) in
    let e : m.byte ((c.args.address + k) % 2 ^ 64) ≡ get_or c.in-Some.part.now k 0 =
    sym (byte-of-bytes m c.args.address c.args.bytes k low) ∙ ap (λ (bs : List ℕ). get_or bs k 0) c.in-Some.ensures.bytes in
    omega (arith, e, c.in-Some.ensures.small k)
