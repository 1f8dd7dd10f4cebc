use Rattle.std.proofs.Common.{List, map, sym, subst, arith}
use Rattle.std.proofs.lemmas.List.{length-map}
use Rattle.rv_image_laws.specs.Segment.{Segment}
use Rattle.rv_image.specs.SegmentView.{segment_of}
use Rattle.rv_memory.specs.Flat.{AreDisjoint}
use Rattle.rv_memory.specs.Unmade.{IsGap}
use Rattle.rv_memory.proofs.UnmadeLemmas.{deep-apart, deeper-is, segments-deep}
use Rattle.rv_memory.proofs.flat.Flat.deepen.Goals as goal

pub invariant_of-self : goal.invariant_of-self
invariant_of-self c =
    let xs = c.args.self.now.segments.items in
    let ss : List Segment = map segment_of xs in
    let s = c.index-segment.result.now in
    let gap : IsGap ss c.args.i c.args.start =
    record { apart = c.args.self.now.apart; within = omega (arith, c.requires.index, length-map xs segment_of); low = c.requires.low; free = c.requires.free } in
    let new = segments-deep xs c.args.i c.args.start s _ c.requires.index c.index-segment.ensures (deeper-is (segment_of s) c.args.start _ _ c.fill_below.ensures c.deref.ensures.value) in
    record { apart = subst (λ (l : List Segment). AreDisjoint l) (sym new) (deep-apart ss c.args.i c.args.start gap) }

pub returns : goal.returns
returns c =
    let xs = c.args.self.now.segments.items in
    let s = c.index-segment.result.now in
    segments-deep xs c.args.i c.args.start s _ c.requires.index c.index-segment.ensures (deeper-is (segment_of s) c.args.start _ _ c.fill_below.ensures c.deref.ensures.value)
