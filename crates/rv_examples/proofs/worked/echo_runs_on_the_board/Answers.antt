use Rattle.rv_examples.proofs.EchoLemmas.{echoes, echoes_none}
use Rattle.rv_examples.proofs.worked.echo_runs_on_the_board.Goals as goal

pub returns-clause-runs : goal.returns-clause-runs
returns-clause-runs c = echoes

pub returns-clause-ended : goal.returns-clause-ended
returns-clause-ended c = echoes_none
