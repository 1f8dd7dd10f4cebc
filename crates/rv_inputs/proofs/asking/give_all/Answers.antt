use Rattle.std.proofs.Common.{take}
use Rattle.std.specs.Prelude.{◌||◌}
use Rattle.rv_archive_laws.specs.Taken.{has_name}
use Rattle.rv_inputs.specs.Plain.{plain_texts}
use Rattle.rv_inputs.proofs.StandingLemmas.{give_step}
use Rattle.rv_inputs.proofs.asking.give_all.Goals as goal

pub loop-i-preserved : goal.loop-i-preserved
loop-i-preserved c = λ given wanted stand.
    let names = c.args.names.now in let i = c.loop-i.i in
    give_step c.give.new.self given wanted names i _ c.loop-i-test.true
    (c.in_ok-give.ensures (λ q. given q || has_name (plain_texts (take i names)) q) wanted (c.loop-i.invariant given wanted stand))
