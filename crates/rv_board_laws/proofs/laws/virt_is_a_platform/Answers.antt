use Rattle.rv_board_laws.proofs.PlatformLemmas.{virt_is, virt_runs}
use Rattle.rv_board_laws.proofs.laws.virt_is_a_platform.Goals as goal

pub returns-clause-is_platform : goal.returns-clause-is_platform
returns-clause-is_platform c = virt_is

pub returns-clause-run : goal.returns-clause-run
returns-clause-run c reader image input n lie entry = virt_runs reader image input n lie entry
