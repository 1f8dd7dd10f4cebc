use Rattle.std.proofs.Common.{◌≡◌, ◌<◌, ◌+◌, ◌-◌, ◌%◌, ◌^◌, ℕ, zero, suc, true, List, [], ◌∷◌, get_or, take, map, arith}
use Rattle.rv_image.specs.SegmentView.{segment_of}
use Rattle.rv_image_laws.specs.Memory.{gives_right}
use Rattle.rv_memory.specs.Rights.{right_of}
use Rattle.rv_memory.proofs.FlatLemmas.{element, may-within, bytes-within}
use Rattle.rv_memory.proofs.flat.Flat.part.Goals as goal

pub returns-clause-right : goal.returns-clause-right
returns-clause-right c =
    let s = c.index-segment.result.now in
    let at = element c.args.self.now.segments.items c.args.i s (omega arith) c.index-segment.ensures in
    let right : gives_right s.flags (right_of c.args.right) ≡ true = cc in
    may-within _ c.args.i (segment_of s) c.args.address c.args.bytes (right_of c.args.right) c.args.self.now.apart at s.ends
    (omega (arith, s.ends, c.if-at-length.false)) (omega (arith, s.ends, c.if-at-length.false, c.if-length-at.false)) right

pub returns-clause-bytes : goal.returns-clause-bytes
returns-clause-bytes c =
    let s = c.index-segment.result.now in
    let at = element c.args.self.now.segments.items c.args.i s (omega arith) c.index-segment.ensures in
    let k = (c.args.address + (2 ^ 64 - s.address)) % 2 ^ 64 in
    let e = bytes-within (map segment_of c.args.self.now.segments.items) c.args.i (segment_of s) c.args.address k c.args.bytes c.args.self.now.apart at s.ends
    (omega (arith, s.ends, c.if-at-length.false)) (omega (arith, s.ends, c.if-at-length.false, c.if-length-at.false)) in
    rw (c.split_at.ensures.front, c.bytes_from.ensures.value) e

-- the first of bytes are bytes
small-take : (bs : List ℕ) (n k : ℕ) → get_or bs k 0 < 256 → get_or (take n bs) k 0 < 256
small-take bs zero k h = omega arith
small-take [] (suc n) k h = omega arith
small-take (b ∷ bs) (suc n) zero h = h
small-take (b ∷ bs) (suc n) (suc k) h = small-take bs n k h

pub returns-clause-small : goal.returns-clause-small
returns-clause-small c = λ k. rw c.split_at.ensures.front (small-take c.bytes_from.result.now c.args.bytes k (c.bytes_from.ensures.small k))
