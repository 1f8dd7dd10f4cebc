use Rattle.std.proofs.Common.{◌<◌, ◌∙◌, ap, sym, subst, List, map, length, arith}
use Rattle.std.proofs.lemmas.List.{length-map}
use Rattle.rv_image_laws.specs.Segment.{Segment}
use Rattle.rv_image_laws.specs.Memory.{segment_at}
use Rattle.rv_image.specs.SegmentView.{segment_of}
use Rattle.rv_memory.specs.Flat.{memory_of, AreDisjoint}
use Rattle.rv_memory.specs.Pages.{AreBehind}
use Rattle.rv_memory.proofs.OrderLemmas.{ordered-behind, forward-kept, forward-behind}
use Rattle.rv_memory.proofs.flat.Flat.bring_forward.Goals as goal

pub invariant_of-self : goal.invariant_of-self
invariant_of-self c =
    let xs = c.args.self.now.segments.items in
    let within : c.args.i < length (map segment_of xs) = omega (arith, length-map xs segment_of) in
    let kept = forward-kept (map segment_of xs) c.args.i within c.args.self.now.apart in
    record { apart = subst (λ (l : List Segment). AreDisjoint l) (sym c.put_first.ensures) kept.apart }

pub returns-then-i-len-clause-behind : goal.returns-then-i-len-clause-behind
returns-then-i-len-clause-behind c =
    let xs = c.args.self.now.segments.items in
    let within : c.args.i < length (map segment_of xs) = omega (arith, length-map xs segment_of) in
    subst (λ (l : List Segment). AreBehind l) (sym c.put_first.ensures) (forward-behind (map segment_of xs) c.args.i within c.requires)

pub returns-then-i-len-clause-memory : goal.returns-then-i-len-clause-memory
returns-then-i-len-clause-memory c =
    let xs = c.args.self.now.segments.items in
    let within : c.args.i < length (map segment_of xs) = omega (arith, length-map xs segment_of) in
    let kept = forward-kept (map segment_of xs) c.args.i within c.args.self.now.apart in
    ap (λ (l : List Segment). memory_of l) c.put_first.ensures ∙ kept.memory

pub returns-then-i-len-clause-found : goal.returns-then-i-len-clause-found
returns-then-i-len-clause-found c = λ x.
    let xs = c.args.self.now.segments.items in
    let within : c.args.i < length (map segment_of xs) = omega (arith, length-map xs segment_of) in
    let kept = forward-kept (map segment_of xs) c.args.i within c.args.self.now.apart in
    ap (λ (l : List Segment). segment_at l x) c.put_first.ensures ∙ kept.found x

pub returns-else-i-len-clause-behind : goal.returns-else-i-len-clause-behind
returns-else-i-len-clause-behind c = ordered-behind _ c.requires
