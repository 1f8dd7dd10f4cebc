use Rattle.std.proofs.Common.{length, map, refl}
use Rattle.rv_image.specs.SegmentView.{segment_of}
use Rattle.rv_memory.proofs.UnmadeLemmas.{put-lifts}
use Rattle.rv_memory.proofs.KnownLemmas.{known-still, unmade-still, quick-at}
use Rattle.rv_memory.proofs.paged.Paged.put_near.Goals as goal

pub put_near-requires-clause-known : goal.put_near-requires-clause-known
put_near-requires-clause-known c =
    let s = c.stretch-stretch in
    quick-at _ _ _ _ _ (length c.args.bytes.now) (length c.args.bytes.now) c.args.self.now.nears.low_written _ c.args.self.now.known.near.low_writes c.requires s.ensures.segment s.ensures.start refl s.ensures.room

pub put_near-requires-2-clause-known : goal.put_near-requires-2-clause-known
put_near-requires-2-clause-known c =
    let s = c.stretch-stretch-2 in
    quick-at _ _ _ _ _ (length c.args.bytes.now) (length c.args.bytes.now) c.args.self.now.nears.high_written _ c.args.self.now.known.near.high_writes c.requires s.ensures.segment s.ensures.start refl s.ensures.room

pub invariant_of-self : goal.invariant_of-self
invariant_of-self c = record { known = known-still _ _ _ _ c.put_near.ensures.alike c.args.self.now.known; unmade = unmade-still _ _ _ _ c.put_near.ensures.alike c.args.self.now.unmade; has_room = c.args.self.now.has_room }

pub invariant_of-self-2 : goal.invariant_of-self-2
invariant_of-self-2 c = record { known = known-still _ _ _ _ c.put_near-2.ensures.alike c.args.self.now.known; unmade = unmade-still _ _ _ _ c.put_near-2.ensures.alike c.args.self.now.unmade; has_room = c.args.self.now.has_room }

pub returns-then-address-self : goal.returns-then-address-self
returns-then-address-self c =
    put-lifts _ (map segment_of c.args.self.now.flat.segments.items) (map segment_of c.put_near.new.self.segments.items) c.args.self.now.base c.args.address c.args.bytes.now c.put_near.ensures.put

pub returns : goal.returns
returns c =
    put-lifts _ (map segment_of c.args.self.now.flat.segments.items) (map segment_of c.put_near-2.new.self.segments.items) c.args.self.now.base c.args.address c.args.bytes.now c.put_near-2.ensures.put
