use Rattle.std.proofs.Common.{◌∙◌, ◌==◌, ap, rules, arith}
use Rattle.std.specs.Prelude.{if◌then◌else◌}
use Rattle.std.specs.List.{slice_get}
use Rattle.rv_shorten.specs.View.{short_object_of}
use Rattle.rv_placement.specs.Placement.{placed_at}
use Rattle.rv_link_values.specs.Highs.{else_found, high_in}
use Rattle.rv_link_values.proofs.StepsLemmas.{object_step}
use Rattle.rv_link_values.proofs.high.Highs.of.Goals as goal

pub loop-file-preserved : goal.loop-file-preserved
loop-file-preserved c = λ f s x.
    let p = c.args.placement.now in
    let i = c.loop-file.file in
    let o = c.index-objects-file.result in
    c.in_ok-add_object.ensures f s x
    ∙ ap (λ w. if i == f then else_found (high_in (placed_at p i s) (slice_get (short_object_of o).sections s) x) w else w) (c.loop-file.invariant f s x)
    ∙ object_step p c.args.objects.now i _ f s x o (search rules) (search rules) (omega arith)
