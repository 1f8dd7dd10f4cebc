use Rattle.std.proofs.Common.{◌+◌, ◌-◌, ◌%◌, ◌^◌, refl, get_or, map, length, arith}
use Rattle.std.proofs.lemmas.List.{length-map}
use Rattle.std.proofs.lemmas.Option.{slice_get-get_or}
use Rattle.rv_isa_laws.specs.Memory.{Write}
use Rattle.rv_image_laws.specs.Segment.{Segment}
use Rattle.rv_image.specs.SegmentView.{segment_of}
use Rattle.rv_memory.specs.Flat.{no_segment}
use Rattle.rv_memory.proofs.FlatLemmas.{may-within, with-part-is}
use Rattle.rv_memory.proofs.StretchLemmas.{near-is, ends-of}
use Rattle.rv_memory.proofs.flat.Flat.put_near.Goals as goal

pub returns-clause-put : goal.returns-clause-put
returns-clause-put c =
    let ss = map segment_of c.args.self.now.segments.items in
    let i = c.args.stretch.segment in
    let s : Segment = get_or ss i no_segment in
    let k = (c.args.address + (2 ^ 64 - c.args.stretch.start)) % 2 ^ 64 in
    let wide = c.requires.known k (omega (arith, c.if-offset-stretch.false)) in
    let ends = ends-of c.args.self.now.segments.items i (omega (arith, wide.within, length-map c.args.self.now.segments.items segment_of)) in
    let at = slice_get-get_or ss i no_segment wide.within in
    let n = near-is ss i c.args.stretch.start c.args.stretch.room (length c.args.bytes.now) c.args.address k s Write
    c.requires.known (omega (arith, c.if-offset-stretch.false)) (omega (arith, c.requires.width)) refl refl (omega arith) (omega arith) ends in
    let may = may-within ss i s c.args.address (length c.args.bytes.now) Write c.args.self.now.apart at ends
    (omega (arith, n.place)) (omega (arith, n.place, n.fits)) n.right in
    let put = with-part-is ss i s c.args.address k c.args.bytes.now c.args.self.now.apart at ends n.place n.fits in
    (may, rw c.write.ensures.set put)
