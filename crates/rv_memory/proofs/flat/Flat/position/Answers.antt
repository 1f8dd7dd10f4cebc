use Rattle.std.proofs.Common.{◌≡◌, ℕ, suc, ◌<◌, true, List, ◌∷◌, Some, map, length, get_or, drop, drop-cons, slice_get, arith}
use Rattle.rv_image.specs.SegmentView.{segment_of}
use Rattle.rv_image.specs.declared.segment.Segment.{Segment as DeclaredSegment}
use Rattle.rv_image_laws.specs.Memory.{segment_at, lies_in}
use Rattle.rv_memory.proofs.FlatLemmas.{element}
use Rattle.rv_memory.proofs.flat.Flat.position.Goals as goal

-- where the segments before i do not hold the address and this one does, it is the one
here : (xs : List DeclaredSegment) (i a : ℕ) (s : DeclaredSegment) → i < length xs → s ≡ get_or xs i s → lies_in (segment_of s) a ≡ true →
    segment_at (map segment_of (drop i xs)) a ≡ segment_at (map segment_of xs) a →
    segment_at (map segment_of xs) a ≡ slice_get (map segment_of xs) i
here xs i a s within is held remaining =
    let e : drop i xs ≡ get_or xs i s ∷ drop (suc i) xs = drop-cons xs i s within in
    let d : drop i xs ≡ s ∷ drop (suc i) xs = cc in
    let f : segment_at (map segment_of (drop i xs)) a ≡ Some (segment_of s) = rw d (rw held) in
    let g = element xs i s within is in
    cc

pub returns-then-is_held-clause-found : goal.returns-then-is_held-clause-found
returns-then-is_held-clause-found c =
    here c.args.self.now.segments.items c.loop-i.i c.args.address c.segment-item.result (omega arith) (cc) (cc) c.loop-i.invariant
