use Rattle.std.proofs.Common.{map}
use Rattle.std.proofs.lemmas.Result.{IfOk-weaker}
use Rattle.rv_image.specs.Views.{linked_of}
use Rattle.rv_object_types.specs.View.{object_of}
use Rattle.rv_link.proofs.LeftLemmas.{with_all}
use Rattle.rv_link.proofs.programs.link_on.Goals as goal

pub returns-clause-links : goal.returns-clause-links
returns-clause-links c =
    let os = map object_of c.args.objects.now in
    let o = c.args.options in
    IfOk-weaker c.link_with_map.result _ _ (λ l h. with_all os o.bounds o.relax o.gc (linked_of l) h) c.link_with_map.ensures.links
