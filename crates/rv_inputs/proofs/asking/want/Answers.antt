use Rattle.std.proofs.Common.{sym, ◌∙◌}
use Rattle.std.proofs.lemmas.Bool.{true≢false}
use Rattle.rv_inputs.proofs.StandingLemmas.{opens_if}
use Rattle.rv_inputs.proofs.asking.want.Goals as goal

pub returns-then-not-opens-clause-asked : goal.returns-then-not-opens-clause-asked
returns-then-not-opens-clause-asked c = λ given wanted offered stand chains j here g w.
    let name = c.args.name.now in
    absurd (true≢false (sym (c.in_ok-opens.ensures.opens given wanted stand ∙ opens_if (wanted name) (given name) w g) ∙ c.if-not-opens.true))

pub returns-clause-asked : goal.returns-clause-asked
returns-clause-asked c = λ given wanted offered stand chains j here g w. c.in_ok-ask.ensures.asked j offered chains here
