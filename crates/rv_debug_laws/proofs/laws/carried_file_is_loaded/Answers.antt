use Rattle.rv_debug_laws.proofs.CarriedLemmas.{loaded_same}
use Rattle.rv_debug_laws.proofs.laws.carried_file_is_loaded.Goals as goal

pub returns : goal.returns
returns c = loaded_same
