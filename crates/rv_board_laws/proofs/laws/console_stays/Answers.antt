use Rattle.rv_board_laws.proofs.BehindLemmas.{run_behind}
use Rattle.rv_board_laws.proofs.laws.console_stays.Goals as goal

pub returns : goal.returns
returns c d reader before n h m = run_behind d reader before n h m
