use Rattle.std.proofs.Common.{◌++◌, ◌∙◌, ap}
use Rattle.std.specs.Prelude.{codes}
use Rattle.rv_debug_sources.specs.LineText.{first_registers, with_last, with_steps}
use Rattle.rv_debug_sources.proofs.table.put_program.Goals as goal

pub returns : goal.returns
returns c =
    let lines = c.args.lines.now in
    c.in_ok-extend_from_slice-2.ensures.items
    ∙ ap (λ t. t ++ codes ".Lrv_line_end:\n")
    (c.in_ok-put_last.ensures
    ∙ ap (λ t. with_last t lines.is_open)
    (c.in_ok-put_steps.ensures
    ∙ (λ i. with_steps (c.in_ok-extend_from_slice.ensures.items i) first_registers (c.as_slice.ensures.value i))))
