use Rattle.std.proofs.Common.{◌≡◌, length, take, rules, ap, sym, ◌∙◌}
use Rattle.rv_isa_laws.specs.Memory.{bytes_at}
use Rattle.rv_memory.specs.HeldPages.{held_pages}
use Rattle.rv_memory.proofs.MemoryLemmas.{bytes-take}
use Rattle.rv_states.proofs.pieces.has_bytes.Goals as goal

pub returns : goal.returns
returns c = λ e.
    let m = held_pages c.args.memory.now in
    let a = c.args.address in
    let n = length c.args.bytes.now in
    let front : bytes_at m a n ≡ take n (bytes_at m a (length c.piece-piece.result.now)) = bytes-take m a (length c.piece-piece.result.now) n c.if-piece-bytes.false in
    let same : c.split_at.result.0.now ≡ c.args.bytes.now = search rules in
    front ∙ ap (take n) c.piece-piece.ensures ∙ sym c.split_at.ensures.front ∙ same
