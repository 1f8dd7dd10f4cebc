use Rattle.std.proofs.Common.{ap}
use Rattle.std.specs.Option.{option_copied}
use Rattle.std.proofs.lemmas.Map.Text.{btree_map_updates_str}
use Rattle.rv_inputs.proofs.ChainLemmas.{put_named, put_nameless, put_below}
use Rattle.rv_inputs.proofs.chains.put.Goals as goal

pub returns-in_ok-before-in-Some-clause-chains : goal.returns-in_ok-before-in-Some-clause-chains
returns-in_ok-before-in-Some-clause-chains c = λ links names long chains.
    let name = c.in-Some.name.now in
    put_named c.args.last.now c.insert.new.self c.args.i links names long chains name _ c.in_ok-before-in-Some.before (ap option_copied c.in-Some.is) c.in_ok-before-in-Some.ensures.old
    (λ q. btree_map_updates_str name c.args.last.now c.insert.new.self _ c.in_ok-before-in-Some.ensures.updates q)

pub returns-in_ok-before-in-Some-clause-below : goal.returns-in_ok-before-in-Some-clause-below
returns-in_ok-before-in-Some-clause-below c = λ links names long chains.
    put_below c.args.last.now c.args.last.now c.args.i links names long chains c.in-Some.name.now c.in_ok-before-in-Some.before c.in_ok-before-in-Some.ensures.old

pub returns-in-None-clause-chains : goal.returns-in-None-clause-chains
returns-in-None-clause-chains c = λ links names long chains.
    put_nameless c.args.last.now c.args.last.now c.args.i links names long chains _ (ap option_copied c.in-None.is)
