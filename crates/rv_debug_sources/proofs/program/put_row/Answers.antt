use Rattle.std.proofs.Common.{◌++◌, ◌∙◌, ap}
use Rattle.std.specs.Prelude.{codes}
use Rattle.rv_debug_sources.specs.LineText.{with_discriminator, with_marks}
use Rattle.rv_debug_sources.proofs.program.put_row.Goals as goal

pub returns : goal.returns
returns c =
    let old = c.args.old.now in
    let new = c.args.new.now in
    c.in_ok-extend_from_slice.ensures.items
    ∙ ap (λ t. t ++ codes ",1\n")
    (c.in_ok-put_discriminator.ensures
    ∙ ap (λ t. with_discriminator t new.discriminator)
    (c.in_ok-put_marks.ensures ∙ ap (λ t. with_marks t old.is_stmt new) c.in_ok-put_place.ensures))
