use Rattle.rv_examples.proofs.Exit7ProgramLemmas.{executes}
use Rattle.rv_examples.proofs.worked.exit7_executes.Goals as goal

pub returns : goal.returns
returns c = executes
