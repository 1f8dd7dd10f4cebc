use Rattle.rv_board_laws.proofs.BesideLemmas.{plain_run}
use Rattle.rv_board_laws.proofs.laws.run_without_devices.Goals as goal

pub returns : goal.returns
returns c reader n h m = plain_run reader n h m
