use Rattle.std.proofs.Common.{length, ap, arith}
use Rattle.rv_image.specs.SegmentView.{segment_of}
use Rattle.rv_memory.proofs.FlatLemmas.{placed, bytes-rest}
use Rattle.rv_memory.proofs.flat.Flat.rest_from.Goals as goal

pub overflow_sub-address : goal.overflow_sub-address
overflow_sub-address c =
    let p = placed c.args.self.now.segments.items c.args.i c.args.address c.index-segment.result.now c.requires.within c.index-segment.ensures c.requires.found in
    p.low

pub split_at-requires : goal.split_at-requires
split_at-requires c =
    let p = placed c.args.self.now.segments.items c.args.i c.args.address c.index-segment.result.now c.requires.within c.index-segment.ensures c.requires.found in
    omega (arith, p.low, p.high, c.as_slice-bytes.ensures.len)

pub returns-clause-bytes : goal.returns-clause-bytes
returns-clause-bytes c =
    let p = placed c.args.self.now.segments.items c.args.i c.args.address c.index-segment.result.now c.requires.within c.index-segment.ensures c.requires.found in
    let e = bytes-rest _ c.args.i (segment_of c.index-segment.result.now) c.args.address c.args.self.now.apart p c.index-segment.result.now.ends in
    rw (c.split_at.ensures.back, c.as_slice-bytes.ensures.value) e

pub returns-clause-none : goal.returns-clause-none
returns-clause-none c = λ e.
    let p = placed c.args.self.now.segments.items c.args.i c.args.address c.index-segment.result.now c.requires.within c.index-segment.ensures c.requires.found in
    absurd (omega (arith, p.low, p.high, c.split_at.ensures.back_len, c.as_slice-bytes.ensures.len, ap length e))
