use Rattle.std.proofs.Common.{map, subst}
use Rattle.std.specs.Prelude.{IfOk, IfErr}
use Rattle.rv_statement.specs.View.{now_of}
use Rattle.rv_link.specs.declared.options.GroundOptions.{GroundOptions}
use Rattle.rv_chain_laws.specs.Headline.{TheHeadline}
use Rattle.rv_chain_laws.specs.Linking.{AreBuilt}
use Rattle.rv_chain.specs.Reassembled.{Reassembles}
use Rattle.rv_chain.specs.Refusals.{AreGood, IsRefusedFor}
use Rattle.rv_chain.specs.Valued.{AreValued}
use Rattle.rv_chain.proofs.building.build.Goals as goal

pub returns-clause-headline : goal.returns-clause-headline
returns-clause-headline c =
    subst (λ (o : GroundOptions). IfOk c.build_on.result (λ built. TheHeadline (map now_of c.args.sources.now) o.bounds.text o.relax o.gc built.exe.items built.map.items)) c.grounded.ensures c.build_on.ensures.headline

pub returns-clause-links : goal.returns-clause-links
returns-clause-links c =
    subst (λ (o : GroundOptions). IfOk c.build_on.result (λ built. AreBuilt (map now_of c.args.sources.now) o.bounds o.relax o.gc built.exe.items built.map.items)) c.grounded.ensures c.build_on.ensures.links

pub returns-clause-values : goal.returns-clause-values
returns-clause-values c =
    subst (λ (o : GroundOptions). IfOk c.build_on.result (λ built. AreValued (map now_of c.args.sources.now) o.bounds.text built.map.items)) c.grounded.ensures c.build_on.ensures.values

pub returns-clause-reassembles : goal.returns-clause-reassembles
returns-clause-reassembles c =
    subst (λ (o : GroundOptions). IfOk c.build_on.result (λ built. Reassembles (map now_of c.args.sources.now) o.bounds.text built.exe.items)) c.grounded.ensures c.build_on.ensures.reassembles

pub returns-clause-good : goal.returns-clause-good
returns-clause-good c =
    subst (λ (o : GroundOptions). IfOk c.build_on.result (λ _. AreGood (map now_of c.args.sources.now) o.bounds)) c.grounded.ensures c.build_on.ensures.good

pub returns-clause-refuses : goal.returns-clause-refuses
returns-clause-refuses c =
    subst (λ (o : GroundOptions). IfErr c.build_on.result (IsRefusedFor (map now_of c.args.sources.now) o.bounds o.relax o.gc)) c.grounded.ensures c.build_on.ensures.refuses
