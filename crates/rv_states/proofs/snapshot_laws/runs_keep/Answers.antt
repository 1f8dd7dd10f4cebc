use Rattle.rv_states.proofs.KeepsLemmas.{run_keeps}
use Rattle.rv_states.proofs.snapshot_laws.runs_keep.Goals as goal

pub returns : goal.returns
returns c = run_keeps
