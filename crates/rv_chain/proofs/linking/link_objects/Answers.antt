use Rattle.std.proofs.Common.{map, subst}
use Rattle.std.specs.Prelude.{IfOk, IfErr}
use Rattle.rv_statement.specs.View.{now_of}
use Rattle.rv_link.specs.declared.options.GroundOptions.{GroundOptions}
use Rattle.rv_chain_laws.specs.Linking.{AreLinked}
use Rattle.rv_chain.specs.LinkRefusals.{AreUnlinkable}
use Rattle.rv_chain.proofs.linking.link_objects.Goals as goal

pub returns-clause-linked : goal.returns-clause-linked
returns-clause-linked c =
    subst (λ (o : GroundOptions). IfOk c.link_objects_on.result (λ built. AreLinked (map now_of c.args.objects.now) o.bounds o.relax o.gc built.exe.items built.map.items)) c.grounded.ensures c.link_objects_on.ensures.linked

pub returns-clause-refuses : goal.returns-clause-refuses
returns-clause-refuses c =
    subst (λ (o : GroundOptions). IfErr c.link_objects_on.result (AreUnlinkable (map now_of c.args.objects.now) o.bounds o.relax o.gc)) c.grounded.ensures c.link_objects_on.ensures.refuses
