use Rattle.std.proofs.lemmas.Map.Text.{btree_map_updates_str}
use Rattle.rv_inputs.proofs.StandingLemmas.{given_more}
use Rattle.rv_inputs.proofs.standings.Standings.give.Goals as goal

pub returns : goal.returns
returns c = λ given wanted stand q.
    let name = c.args.name.now in
    given_more name q (given q) (wanted q) _ _ (btree_map_updates_str name c.args.self.now.by_name c.insert.new.self _ c.in_ok-insert.ensures.updates q) (stand q)
