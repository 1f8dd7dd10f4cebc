use Rattle.std.proofs.Common.{◌≡◌, ◌+◌, ◌++◌, length, take, length-drop, ap, sym, ◌∙◌, arith}
use Rattle.std.proofs.lemmas.List.{take_rest}
use Rattle.std.proofs.Math.Seq.{take-add}
use Rattle.rv_system.proofs.painting.put_words.Goals as goal

pub loop-at-preserved : goal.loop-at-preserved
loop-at-preserved c =
    let text = c.args.text.now in let at = c.loop-at.at in let count = c.word_length-length.result in
    let more : take (at + count) text ≡ take at text ++ c.split_at.result.0.now =
    take-add at count text ∙ ap (λ left. take at text ++ take count left) (sym (take_rest text at))
    ∙ ap (λ word. take at text ++ word) (sym c.split_at.ensures.front) in
    (omega (arith, c.word_length-length.ensures.within, ap length (take_rest text at), length-drop at text), λ h. rw more (c.in_ok-put.ensures (take at text) (c.loop-at.invariant.1 h)))
