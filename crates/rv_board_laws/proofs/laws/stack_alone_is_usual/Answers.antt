use Rattle.rv_board_laws.proofs.PlatformLemmas.{alone_is, alone_run}
use Rattle.rv_board_laws.proofs.laws.stack_alone_is_usual.Goals as goal

pub returns-clause-is_platform : goal.returns-clause-is_platform
returns-clause-is_platform c = alone_is

pub returns-clause-run : goal.returns-clause-run
returns-clause-run c reader image input n = alone_run reader image input n
