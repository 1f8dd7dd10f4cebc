use Rattle.std.proofs.Common.{sym, ◌∙◌}
use Rattle.rv_inputs.proofs.StandingLemmas.{open_by, closed_by}
use Rattle.rv_inputs.proofs.standings.Standings.is_open.Goals as goal

pub returns-in-Some : goal.returns-in-Some
returns-in-Some c = λ given wanted stand.
    let name = c.args.name.now in
    open_by (given name) (wanted name) c.in-Some.is_given (sym (stand name) ∙ sym c.get.ensures.value ∙ sym c.copied.ensures ∙ c.in-Some.is)

pub returns-in-None : goal.returns-in-None
returns-in-None c = λ given wanted stand.
    let name = c.args.name.now in
    closed_by (given name) (wanted name) (sym (stand name) ∙ sym c.get.ensures.value ∙ sym c.copied.ensures ∙ c.in-None.is)
