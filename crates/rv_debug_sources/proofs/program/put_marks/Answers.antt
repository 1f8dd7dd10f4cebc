use Rattle.std.proofs.Common.{◌∙◌, ap}
use Rattle.std.specs.Prelude.{codes}
use Rattle.rv_debug_sources.specs.LineText.{with_mark}
use Rattle.rv_debug_sources.proofs.program.put_marks.Goals as goal

pub returns : goal.returns
returns c =
    let row = c.args.row.now in
    c.in_ok-put_mark-4.ensures
    ∙ ap (λ t. with_mark t row.epilogue_begin (codes ",11"))
    (c.in_ok-put_mark-3.ensures
    ∙ ap (λ t. with_mark t row.prologue_end (codes ",10"))
    (c.in_ok-put_mark-2.ensures
    ∙ ap (λ t. with_mark t row.basic_block (codes ",7"))
    (c.in_ok-put_mark.ensures ∙ ap (λ b. with_mark c.args.text.now.items b (codes ",6")) c.is_turned.ensures)))
