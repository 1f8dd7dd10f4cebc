use Rattle.std.proofs.Common.{is_some, sym, ap, ◌∙◌}
use Rattle.std.proofs.lemmas.Map.Text.{btree_map_updates_str}
use Rattle.rv_list_laws.proofs.OptionsLemmas.{copied_some}
use Rattle.rv_inputs.proofs.StandingLemmas.{opens_new, opens_known, wanted_more, wanted_known}
use Rattle.rv_inputs.proofs.standings.Standings.want.Goals as goal

pub returns-then-is_some-clause-opens : goal.returns-then-is_some-clause-opens
returns-then-is_some-clause-opens c = λ given wanted stand.
    let name = c.args.name.now in
    opens_known (given name) (wanted name) (ap is_some (sym (stand name) ∙ sym c.get.ensures.value) ∙ copied_some c.get.result ∙ sym c.is_some.ensures ∙ c.if-is_some.true)

pub returns-then-is_some-clause-stand : goal.returns-then-is_some-clause-stand
returns-then-is_some-clause-stand c = λ given wanted stand q.
    let name = c.args.name.now in
    wanted_known name q given wanted _ (stand q) (ap is_some (sym (stand name) ∙ sym c.get.ensures.value) ∙ copied_some c.get.result ∙ sym c.is_some.ensures ∙ c.if-is_some.true)

pub returns-clause-opens : goal.returns-clause-opens
returns-clause-opens c = λ given wanted stand.
    let name = c.args.name.now in
    opens_new (given name) (wanted name) (ap is_some (sym (stand name) ∙ sym c.get.ensures.value) ∙ copied_some c.get.result ∙ sym c.is_some.ensures ∙ c.if-is_some.false)

pub returns-clause-stand : goal.returns-clause-stand
returns-clause-stand c = λ given wanted stand q.
    let name = c.args.name.now in
    wanted_more name q given wanted _ _ (btree_map_updates_str name c.args.self.now.by_name c.insert.new.self _ c.in_ok-insert.ensures.updates q) (stand q)
    (ap is_some (sym (stand name) ∙ sym c.get.ensures.value) ∙ copied_some c.get.result ∙ sym c.is_some.ensures ∙ c.if-is_some.false)
