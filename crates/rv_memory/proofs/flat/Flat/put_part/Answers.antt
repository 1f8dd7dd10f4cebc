use Rattle.std.proofs.Common.{◌≡◌, ◌+◌, ◌-◌, ◌%◌, ◌^◌, true, length, map, arith}
use Rattle.rv_isa_laws.specs.Memory.{Write}
use Rattle.rv_image.specs.SegmentView.{segment_of}
use Rattle.rv_image_laws.specs.Memory.{gives_right}
use Rattle.rv_memory.proofs.FlatLemmas.{element, element-or, may-within, with-part-is}
use Rattle.rv_memory.proofs.flat.Flat.put_part.Goals as goal

pub returns-clause-put : goal.returns-clause-put
returns-clause-put c =
    let s = c.index-segment.result.now in
    let at = element c.args.self.now.segments.items c.args.i s (omega arith) c.index-segment.ensures in
    let e = element-or c.args.self.now.segments.items c.args.i s (omega arith) c.index-segment.ensures in
    let right : gives_right s.flags Write ≡ true = cc in
    let k = (c.args.address + (2 ^ 64 - s.address)) % 2 ^ 64 in
    let may = may-within (map segment_of c.args.self.now.segments.items) c.args.i (segment_of s) c.args.address (length c.args.bytes.now) Write c.args.self.now.apart at s.ends
    (omega (arith, s.ends, c.if-at-length.false)) (omega (arith, s.ends, c.if-at-length.false, c.if-length-at.false)) right in
    let put = with-part-is (map segment_of c.args.self.now.segments.items) c.args.i (segment_of s) c.args.address k c.args.bytes.now c.args.self.now.apart at s.ends
    (omega (arith, s.ends, c.if-at-length.false)) (omega (arith, s.ends, c.if-at-length.false, c.if-length-at.false)) in
    (may, rw (c.write.ensures.set, e) put)
