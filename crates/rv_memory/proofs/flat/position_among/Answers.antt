use Rattle.std.proofs.Common.{◌≡◌, ◌<◌, ◌∙◌, true, false, map, length, sym, arith}
use Rattle.std.proofs.lemmas.List.{length-map}
use Rattle.rv_image.specs.SegmentView.{segment_of}
use Rattle.rv_image_laws.specs.Memory.{lies_in}
use Rattle.rv_memory.proofs.FlatLemmas.{element, element-or, held-segment}
use Rattle.rv_memory.proofs.OrderLemmas.{none-begun, last-lacks}
use Rattle.rv_memory.proofs.flat.position_among.Goals as goal

pub returns-then-is_held-clause-found : goal.returns-then-is_held-clause-found
returns-then-is_held-clause-found c =
    let xs = c.args.segments.now in
    let s = c.index-segments-i.result in
    let within : c.in-Some.i < length xs = omega (arith, c.in-Some.ensures.within, length-map xs segment_of) in
    let at = element xs c.in-Some.i s within c.index-segments-i.is in
    let held : lies_in (segment_of s) c.args.address ≡ true = cc in
    held-segment (map segment_of xs) c.in-Some.i c.args.address (segment_of s) c.requires.apart at held ∙ sym at

pub returns-else-is_held-clause-found : goal.returns-else-is_held-clause-found
returns-else-is_held-clause-found c =
    let xs = c.args.segments.now in
    let s = c.index-segments-i.result in
    let within : c.in-Some.i < length xs = omega (arith, c.in-Some.ensures.within, length-map xs segment_of) in
    let lacks : lies_in (segment_of s) c.args.address ≡ false = cc in
    last-lacks (map segment_of xs) c.args.address c.in-Some.i c.requires.apart c.requires.ordered c.in-Some.ensures
    (rw (element-or xs c.in-Some.i s within c.index-segments-i.is) lacks)

pub returns-in-None-clause-found : goal.returns-in-None-clause-found
returns-in-None-clause-found c =
    let xs = c.args.segments.now in
    none-begun (map segment_of xs) c.args.address (λ k within. c.in-None.ensures k (omega (arith, within, length-map xs segment_of)))
