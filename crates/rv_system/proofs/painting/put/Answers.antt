use Rattle.std.proofs.Common.{◌≡◌, ◌++◌}
use Rattle.rv_system.proofs.PaintingLemmas.{painted_word}
use Rattle.rv_system.proofs.painting.put.Goals as goal

pub returns : goal.returns
returns c = λ text h.
    let before = c.args.painted.now.items in let colour = c.colour.result.now in let word = c.args.word.now in let end = c.end.result.now in
    let items : c.extend_from_slice-3.new.self.items ≡ ((before ++ colour) ++ word) ++ end =
    cc (c.in_ok-extend_from_slice.ensures.items, c.in_ok-extend_from_slice-2.ensures.items, c.in_ok-extend_from_slice-3.ensures.items) in
    rw items (painted_word before colour word end text c.colour.ensures c.end.ensures c.requires h)
