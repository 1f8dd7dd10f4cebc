use Rattle.std.proofs.Common.{map, subst}
use Rattle.std.specs.Prelude.{IfOk, IfErr}
use Rattle.rv_statement.specs.View.{now_of}
use Rattle.rv_link.specs.declared.options.GroundOptions.{GroundOptions}
use Rattle.rv_chain_laws.specs.Building.{IsExecutableOf}
use Rattle.rv_chain.specs.Reassembled.{Reassembles}
use Rattle.rv_chain.specs.Refusals.{AreGood, IsRefusedFor}
use Rattle.rv_chain.proofs.building.build_exe.Goals as goal

pub returns-clause-builds : goal.returns-clause-builds
returns-clause-builds c =
    subst (λ (o : GroundOptions). IfOk c.build_exe_on.result (λ exe. IsExecutableOf (map now_of c.args.sources.now) o.bounds o.relax o.gc exe.items)) c.grounded.ensures c.build_exe_on.ensures.builds

pub returns-clause-reassembles : goal.returns-clause-reassembles
returns-clause-reassembles c =
    subst (λ (o : GroundOptions). IfOk c.build_exe_on.result (λ exe. Reassembles (map now_of c.args.sources.now) o.bounds.text exe.items)) c.grounded.ensures c.build_exe_on.ensures.reassembles

pub returns-clause-good : goal.returns-clause-good
returns-clause-good c =
    subst (λ (o : GroundOptions). IfOk c.build_exe_on.result (λ _. AreGood (map now_of c.args.sources.now) o.bounds)) c.grounded.ensures c.build_exe_on.ensures.good

pub returns-clause-refuses : goal.returns-clause-refuses
returns-clause-refuses c =
    subst (λ (o : GroundOptions). IfErr c.build_exe_on.result (IsRefusedFor (map now_of c.args.sources.now) o.bounds o.relax o.gc)) c.grounded.ensures c.build_exe_on.ensures.refuses
