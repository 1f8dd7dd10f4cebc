use Rattle.std.proofs.Common.{Ok, Err, ◌-◌, map, rules, arith}
use Rattle.std.proofs.lemmas.List.{length-map}
use Rattle.std.proofs.lemmas.List.Sorted.{answers_always}
use Rattle.rv_image.specs.SegmentView.{segment_of}
use Rattle.rv_image.specs.declared.segment.Segment.{Segment as DeclaredSegment}
use Rattle.rv_memory.proofs.OrderLemmas.{begun, begun-before}
use Rattle.rv_memory.proofs.flat.last_begun.Goals as goal

pub returns-in-Ok : goal.returns-in-Ok
returns-in-Ok c =
    begun c.args.segments.now c.args.address (Ok c.in-Ok.i) c.requires c.in-Ok.ensures.bound
    (c.in-Ok.ensures.position (λ (s : DeclaredSegment). s.address) (answers_always _ _ _ (λ f a r g called. search rules)))

pub returns-then-i-gt0 : goal.returns-then-i-gt0
returns-then-i-gt0 c =
    let xs = c.args.segments.now in
    let long = length-map xs segment_of in
    let gap = begun xs c.args.address (Err c.in-Err.i) c.requires c.in-Err.ensures.bound
    (c.in-Err.ensures.position (λ (s : DeclaredSegment). s.address) (answers_always _ _ _ (λ f a r g called. search rules))) in
    begun-before (map segment_of xs) c.args.address c.in-Err.i (c.in-Err.i - 1) (omega (arith, c.if-i-gt0.true)) (omega (arith, gap.0, long)) gap.1
    (λ j high within. gap.2 j high (omega (arith, within, long)))

pub returns-else-i-gt0 : goal.returns-else-i-gt0
returns-else-i-gt0 c =
    let gap = begun c.args.segments.now c.args.address (Err c.in-Err.i) c.requires c.in-Err.ensures.bound
    (c.in-Err.ensures.position (λ (s : DeclaredSegment). s.address) (answers_always _ _ _ (λ f a r g called. search rules))) in
    λ k within. gap.2 k (omega (arith, c.if-i-gt0.false)) within
