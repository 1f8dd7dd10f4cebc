use Rattle.std.proofs.Common.{◌++◌, ℕ, List, refl, ap, ◌∙◌, arith}
use Rattle.rv_isa_laws.specs.Memory.{bytes_at}
use Rattle.rv_memory.specs.HeldPages.{held_pages}
use Rattle.rv_states.proofs.MakeLemmas.{one_added}
use Rattle.rv_states.proofs.pieces.Pieces.add.Goals as goal

pub returns : goal.returns
returns c = λ image.
    let xs = bytes_at (held_pages c.args.memory.now) c.args.address c.args.count in
    one_added _ _ image (held_pages c.args.memory.now) c.args.address c.args.count (omega arith) (omega arith) c.requires.ends c.requires.writes refl
    (c.in_ok-append_bytes.ensures ∙ ap (λ (l : List ℕ). l ++ xs) (c.in_ok-extend_from_slice.ensures.items ∙ ap (λ (l : List ℕ). c.args.self.now.bytes.items ++ l) c.numbers_of_piece-head.ensures))
