use Rattle.rv_states.proofs.KeepsLemmas.{state_keeps}
use Rattle.rv_states.proofs.snapshot_laws.snapshots_keep.Goals as goal

pub returns : goal.returns
returns c = state_keeps
