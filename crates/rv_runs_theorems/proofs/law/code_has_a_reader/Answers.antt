use Rattle.rv_board_laws.proofs.PlatformLemmas.{some_reader}
use Rattle.rv_runs_theorems.proofs.law.code_has_a_reader.Goals as goal

pub returns : goal.returns
returns c = some_reader
