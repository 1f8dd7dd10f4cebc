use Rattle.std.proofs.Common.{◌≡◌, ◌≤◌, ◌+◌, ◌++◌, ◌∙◌, ap, sym, subst, map, length, take, drop, List, ℕ, arith}
use Rattle.std.proofs.Math.Seq.{take-append_seam}
use Rattle.std.specs.Vec.{vec_len}
use Rattle.rv_image_laws.specs.Segment.{Segment}
use Rattle.rv_image.specs.SegmentView.{segment_of}
use Rattle.rv_memory.specs.Flat.{with_part}
use Rattle.rv_memory.proofs.FlatLemmas.{disjoint-written, segments-written, element-or, length-with_part}
use Rattle.rv_memory.specs.Stretches.{AreAlike}
use Rattle.rv_memory.proofs.StretchLemmas.{alike-set}
use Rattle.rv_memory.proofs.flat.Flat.write.Goals as goal

-- the segment with the bytes that the vector has after the write
written : (s : Segment) (k len : ℕ) (bs more : List ℕ) → k + length bs ≤ length s.bytes → length s.bytes ≡ len →
    record { address = s.address; bytes = take len ((take k s.bytes ++ (bs ++ drop (k + length bs) s.bytes)) ++ more); flags = s.flags } ≡ with_part s k bs
written s k len bs more fits long =
    let new = (with_part s k bs).bytes in
    let same : len ≡ length new = omega (arith, length-with_part s k bs fits) in
    ap (λ (xs : List ℕ). record { address = s.address; bytes = xs; flags = s.flags })
    (ap (λ (n : ℕ). take n (new ++ more)) same ∙ take-append_seam new more)

pub invariant_of-self : goal.invariant_of-self
invariant_of-self c =
    let is = c.index_mut-segment.ensures.value in
    let e = element-or c.args.self.now.segments.items c.args.i c.index_mut-segment.result.now c.requires.index is in
    let fits : c.args.at + length c.args.bytes.now ≤ length c.index_mut-segment.result.now.bytes.items =
    subst (λ (s : Segment). c.args.at + length c.args.bytes.now ≤ length s.bytes) e c.requires.within in
    let long : length c.index_mut-segment.result.now.bytes.items ≡ vec_len c.index_mut-segment.result.now.bytes = omega (arith, c.deref_mut.ensures.len, ap length c.deref_mut.ensures.value) in
    record {
      apart = disjoint-written c.args.self.now.segments.items c.args.i c.args.at c.index_mut-segment.result.now _ c.args.bytes.now c.args.self.now.apart c.requires.index is fits
          (rw (c.overwrite.ensures, c.deref_mut.ensures.value) (written (segment_of c.index_mut-segment.result.now) c.args.at (vec_len c.index_mut-segment.result.now.bytes) c.args.bytes.now _ fits long));
    }

pub returns-clause-set : goal.returns-clause-set
returns-clause-set c =
    let is = c.index_mut-segment.ensures.value in
    let e = element-or c.args.self.now.segments.items c.args.i c.index_mut-segment.result.now c.requires.index is in
    let fits : c.args.at + length c.args.bytes.now ≤ length c.index_mut-segment.result.now.bytes.items =
    subst (λ (s : Segment). c.args.at + length c.args.bytes.now ≤ length s.bytes) e c.requires.within in
    let long : length c.index_mut-segment.result.now.bytes.items ≡ vec_len c.index_mut-segment.result.now.bytes = omega (arith, c.deref_mut.ensures.len, ap length c.deref_mut.ensures.value) in
    segments-written c.args.self.now.segments.items c.args.i c.args.at c.index_mut-segment.result.now _ c.args.bytes.now c.requires.index is
    (rw (c.overwrite.ensures, c.deref_mut.ensures.value) (written (segment_of c.index_mut-segment.result.now) c.args.at (vec_len c.index_mut-segment.result.now.bytes) c.args.bytes.now _ fits long))

pub returns-clause-alike : goal.returns-clause-alike
returns-clause-alike c =
    let is = c.index_mut-segment.ensures.value in
    let e = element-or c.args.self.now.segments.items c.args.i c.index_mut-segment.result.now c.requires.index is in
    let fits : c.args.at + length c.args.bytes.now ≤ length c.index_mut-segment.result.now.bytes.items =
    subst (λ (s : Segment). c.args.at + length c.args.bytes.now ≤ length s.bytes) e c.requires.within in
    let long : length c.index_mut-segment.result.now.bytes.items ≡ vec_len c.index_mut-segment.result.now.bytes = omega (arith, c.deref_mut.ensures.len, ap length c.deref_mut.ensures.value) in
    let new = segments-written c.args.self.now.segments.items c.args.i c.args.at c.index_mut-segment.result.now _ c.args.bytes.now c.requires.index is
    (rw (c.overwrite.ensures, c.deref_mut.ensures.value) (written (segment_of c.index_mut-segment.result.now) c.args.at (vec_len c.index_mut-segment.result.now.bytes) c.args.bytes.now _ fits long)) in
    subst (AreAlike (map segment_of c.args.self.now.segments.items)) (sym new) (alike-set (map segment_of c.args.self.now.segments.items) c.args.i c.args.at c.args.bytes.now c.requires.within)
