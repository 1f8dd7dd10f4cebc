use Rattle.std.proofs.Common.{◌≡◌, ◌∙◌, true, map, sym}
use Rattle.rv_image.specs.SegmentView.{segment_of}
use Rattle.rv_image_laws.specs.Memory.{gives_right}
use Rattle.rv_memory.specs.Flat.{memory_of}
use Rattle.rv_memory.specs.Rights.{right_of}
use Rattle.rv_memory.proofs.UnmadeLemmas.{may-unmade}
use Rattle.rv_memory.proofs.paged.PagedPieces.run.Goals as goal

pub returns-then-give-clause-all : goal.returns-then-give-clause-all
returns-then-give-clause-all c =
    let r = right_of c.args.right in
    let gives : gives_right c.in-Some.found.flags r ≡ true = cc in
    may-unmade (memory_of (map segment_of c.args.self.now.flat.segments.items)) c.args.self.now.base c.args.address c.room_from.result r
    (c.room_from.ensures.all r (sym (c.in-Some.ensures.rights r) ∙ gives))
