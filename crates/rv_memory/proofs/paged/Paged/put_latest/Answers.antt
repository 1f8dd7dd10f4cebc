use Rattle.std.proofs.Common.{map}
use Rattle.rv_image.specs.SegmentView.{segment_of}
use Rattle.rv_memory.proofs.UnmadeLemmas.{put-lifts}
use Rattle.rv_memory.proofs.KnownLemmas.{known-still, unmade-still}
use Rattle.rv_memory.proofs.paged.Paged.put_latest.Goals as goal

pub invariant_of-self : goal.invariant_of-self
invariant_of-self c = record { known = known-still _ _ _ _ c.put_part.ensures.alike c.args.self.now.known; unmade = unmade-still _ _ _ _ c.put_part.ensures.alike c.args.self.now.unmade; has_room = c.args.self.now.has_room }

pub returns : goal.returns
returns c =
    put-lifts _ (map segment_of c.args.self.now.flat.segments.items) (map segment_of c.put_part.new.self.segments.items) c.args.self.now.base c.args.address c.args.bytes.now c.put_part.ensures.put
