use Rattle.std.proofs.Common.{◌≡◌, true, arith}
use Rattle.rv_image.specs.SegmentView.{segment_of}
use Rattle.rv_image_laws.specs.Memory.{gives_right}
use Rattle.rv_memory.proofs.FlatLemmas.{placed, may-within}
use Rattle.rv_memory.proofs.flat.Flat.room_from.Goals as goal

pub overflow_sub-result : goal.overflow_sub-result
overflow_sub-result c =
    let p = placed c.args.self.now.segments.items c.args.i c.args.address c.index-segment.result.now c.requires.within c.index-segment.ensures c.requires.found in
    p.low

pub overflow_sub-result-2 : goal.overflow_sub-result-2
overflow_sub-result-2 c =
    let p = placed c.args.self.now.segments.items c.args.i c.args.address c.index-segment.result.now c.requires.within c.index-segment.ensures c.requires.found in
    omega (arith, p.low, p.high, c.len.ensures)

pub returns-clause-some : goal.returns-clause-some
returns-clause-some c =
    let p = placed c.args.self.now.segments.items c.args.i c.args.address c.index-segment.result.now c.requires.within c.index-segment.ensures c.requires.found in
    omega (arith, p.low, p.high, c.len.ensures)

pub returns-clause-all : goal.returns-clause-all
returns-clause-all c = λ right has.
    let p = placed c.args.self.now.segments.items c.args.i c.args.address c.index-segment.result.now c.requires.within c.index-segment.ensures c.requires.found in
    let given : gives_right c.index-segment.result.now.flags right ≡ true = rw p.here at has in
    may-within _ c.args.i (segment_of c.index-segment.result.now) c.args.address _ right c.args.self.now.apart p.at c.index-segment.result.now.ends p.low (omega (arith, p.low, p.high, c.len.ensures)) given
