use Rattle.std.proofs.Common.{Bool, map, refl, sym, subst}
use Rattle.std.proofs.lemmas.Result.{IfOk-weaker}
use Rattle.std.specs.Prelude.{IfOk}
use Rattle.rv_image.specs.Views.{linked_of}
use Rattle.rv_object_types.specs.View.{object_of}
use Rattle.rv_link_laws.specs.WithMap.{IsProgramWith}
use Rattle.rv_chain.proofs.linking.program.Goals as goal

pub returns-then-with_map-clause-links : goal.returns-then-with_map-clause-links
returns-then-with_map-clause-links c =
    let os = map object_of c.args.objects.now in
    let o = c.args.options in
    subst (λ (with_map : Bool). IfOk c.link_on.result (λ l. IsProgramWith os o.bounds o.relax o.gc with_map (linked_of l))) (sym c.if-with_map.true)
    (IfOk-weaker c.link_on.result _ _ (λ l h. record { whole = linked_of l; program = h; shown = refl }) c.link_on.ensures.links)

pub returns-else-with_map-clause-links : goal.returns-else-with_map-clause-links
returns-else-with_map-clause-links c =
    let os = map object_of c.args.objects.now in
    let o = c.args.options in
    subst (λ (with_map : Bool). IfOk c.link_exe_on.result (λ l. IsProgramWith os o.bounds o.relax o.gc with_map (linked_of l))) (sym c.if-with_map.false) c.link_exe_on.ensures.links
