use Rattle.std.proofs.Common.{◌≡◌, ◌∙◌, ◌+◌, ap, drop}
use Rattle.std.proofs.lemmas.List.{drop_all, drop_more}
use Rattle.std.specs.Option.{option_and_then}
use Rattle.rv_debug_laws.specs.Carried.{with_object, with_objects}
use Rattle.rv_debug_sections.specs.Views.{all_merged}
use Rattle.rv_debug_sections.proofs.merged.put_objects.Goals as goal

pub loop-object-preserved : goal.loop-object-preserved
loop-object-preserved c =
    let i = c.loop-object.object-index in
    let os = c.args.objects.now in
    c.loop-object.invariant ∙ ap (λ l. with_objects l (all_merged c.loop-object.merged.items)) (drop_more os i _ c.loop-object-test.true)
    ∙ ap (option_and_then (with_objects (drop (i + 1) os))) c.in_ok-put_object.ensures.grown
