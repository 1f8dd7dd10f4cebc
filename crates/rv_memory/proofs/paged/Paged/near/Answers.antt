use Rattle.std.proofs.Common.{map}
use Rattle.rv_image.specs.SegmentView.{segment_of}
use Rattle.rv_memory.specs.Flat.{memory_of}
use Rattle.rv_memory.specs.Rights.{right_of}
use Rattle.rv_memory.proofs.UnmadeLemmas.{right-lifts}
use Rattle.rv_memory.proofs.paged.Paged.near.Goals as goal

pub returns-clause-right : goal.returns-clause-right
returns-clause-right c =
    right-lifts _ (memory_of (map segment_of c.args.self.now.flat.segments.items)) c.args.self.now.base c.args.address c.args.bytes (right_of c.args.right) c.near.ensures.right
