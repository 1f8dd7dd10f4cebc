use Rattle.std.proofs.Common.{◌≡◌, ◌+◌, ◌%◌, ◌^◌, true, map, sym, arith}
use Rattle.rv_isa_laws.specs.Memory.{Read}
use Rattle.rv_image.specs.SegmentView.{segment_of}
use Rattle.rv_memory.specs.Flat.{memory_of}
use Rattle.rv_memory.specs.Unmade.{lies_unmade}
use Rattle.rv_memory.specs.HeldPages.{held_pages}
use Rattle.rv_memory.proofs.UnmadeLemmas.{byte-unmade, run-unmade, unmade-range, zeros-number}
use Rattle.rv_memory.proofs.paged.Paged.read_unmade.Goals as goal

pub returns-then-bytes-self-clause-right : goal.returns-then-bytes-self-clause-right
returns-then-bytes-self-clause-right c =
    let a = c.args.address in
    let paged = c.args.self.now in
    let at : lies_unmade paged.base a ≡ true = cc in
    let range = unmade-range paged.base a at in
    run-unmade (memory_of (map segment_of paged.flat.segments.items)) paged.base a c.args.bytes Read (λ x e. e) at
    (omega (arith, c.if-bytes-self.true, range.1)) (omega (arith, paged.unmade.top.ends))

pub returns-then-bytes-self-clause-number : goal.returns-then-bytes-self-clause-number
returns-then-bytes-self-clause-number c =
    let a = c.args.address in
    let paged = c.args.self.now in
    let at : lies_unmade paged.base a ≡ true = cc in
    let range = unmade-range paged.base a at in
    sym (zeros-number (held_pages paged) a c.args.bytes (byte-unmade (map segment_of paged.flat.segments.items) paged.base a c.args.bytes paged.unmade.free range.0
    (omega (arith, c.if-bytes-self.true, range.1)) (omega (arith, paged.unmade.top.ends))))

pub returns-then-bytes-self-clause-bytes : goal.returns-then-bytes-self-clause-bytes
returns-then-bytes-self-clause-bytes c = λ k low.
    let a = c.args.address in
    let paged = c.args.self.now in
    let at : lies_unmade paged.base a ≡ true = cc in
    let range = unmade-range paged.base a at in
    let zero : (held_pages paged).byte ((a + k) % 2 ^ 64) ≡ 0 = byte-unmade (map segment_of paged.flat.segments.items) paged.base a c.args.bytes paged.unmade.free range.0
    (omega (arith, c.if-bytes-self.true, range.1)) (omega (arith, paged.unmade.top.ends)) k low in
    omega (arith, zero)
