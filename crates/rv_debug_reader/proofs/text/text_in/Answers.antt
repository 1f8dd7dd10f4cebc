use Rattle.std.proofs.Common.{◌+◌, ◌≤◌, length, arith}
use Rattle.rv_debug_reader.proofs.TextLemmas.{shorter}
use Rattle.rv_debug_reader.proofs.text.text_in.Goals as goal

pub returns : goal.returns
returns c =
    let e : length c.in_ok-text.text.now + 1 ≤ length c.in_ok-window.window.now = shorter c.in_ok-window.window.now c.in_ok-text.text.now c.in_ok-text.ensures in
    omega (arith, e, c.in_ok-window.ensures)
