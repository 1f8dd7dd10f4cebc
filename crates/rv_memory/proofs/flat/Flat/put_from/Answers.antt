use Rattle.std.proofs.Common.{◌-◌, map, arith}
use Rattle.rv_image.specs.SegmentView.{segment_of}
use Rattle.rv_memory.proofs.FlatLemmas.{placed, element-or, with-part-is}
use Rattle.rv_memory.proofs.flat.Flat.put_from.Goals as goal

pub overflow_sub-at : goal.overflow_sub-at
overflow_sub-at c =
    let p = placed c.args.self.now.segments.items c.args.i c.args.address c.index-segment.result.now c.requires.within c.index-segment.ensures c.requires.found in
    p.low

pub overflow_sub-room : goal.overflow_sub-room
overflow_sub-room c =
    let p = placed c.args.self.now.segments.items c.args.i c.args.address c.index-segment.result.now c.requires.within c.index-segment.ensures c.requires.found in
    omega (arith, p.low, p.high, c.len.ensures)

pub write-requires-clause-within : goal.write-requires-clause-within
write-requires-clause-within c =
    let p = placed c.args.self.now.segments.items c.args.i c.args.address c.index-segment.result.now c.requires.within c.index-segment.ensures c.requires.found in
    rw (element-or c.args.self.now.segments.items c.args.i c.index-segment.result.now c.requires.within c.index-segment.ensures) (omega (arith, p.low, p.high))

pub returns-then-bytes-room-clause-put : goal.returns-then-bytes-room-clause-put
returns-then-bytes-room-clause-put c =
    let p = placed c.args.self.now.segments.items c.args.i c.args.address c.index-segment.result.now c.requires.within c.index-segment.ensures c.requires.found in
    let e = element-or c.args.self.now.segments.items c.args.i c.index-segment.result.now c.requires.within c.index-segment.ensures in
    let k = c.args.address - c.index-segment.result.now.address in
    let put = with-part-is (map segment_of c.args.self.now.segments.items) c.args.i (segment_of c.index-segment.result.now) c.args.address k c.args.bytes.now c.args.self.now.apart p.at c.index-segment.result.now.ends (omega (arith, p.low)) (omega (arith, p.low, p.high)) in
    rw (c.write.ensures.set, e) put

pub returns-clause-one : goal.returns-clause-one
returns-clause-one c = λ one.
    let p = placed c.args.self.now.segments.items c.args.i c.args.address c.index-segment.result.now c.requires.within c.index-segment.ensures c.requires.found in
    absurd (omega (arith, p.low, p.high, one))
