use Rattle.rv_memory.specs.HeldPages.{held_pages}
use Rattle.rv_states.proofs.MakeLemmas.{same_skipped}
use Rattle.rv_states.proofs.pieces.Pieces.add_chunk.Goals as goal

pub returns-then-has_bytes : goal.returns-then-has_bytes
returns-then-has_bytes c = λ image as_image.
    same_skipped c.args.self.now image (held_pages c.args.memory.now) c.args.address c.args.bytes.now c.requires.ends as_image (c.has_bytes.ensures c.if-has_bytes.true)
