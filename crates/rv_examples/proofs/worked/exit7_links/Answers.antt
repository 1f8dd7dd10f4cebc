use Rattle.rv_examples.proofs.Exit7ProgramLemmas.{links}
use Rattle.rv_examples.proofs.worked.exit7_links.Goals as goal

pub returns : goal.returns
returns c = links
