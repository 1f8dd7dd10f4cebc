use Rattle.rv_debug_laws.proofs.FoundLemmas.{debug_found}
use Rattle.rv_debug_laws.proofs.laws.debug_file_is_read.Goals as goal

pub returns : goal.returns
returns c = λ exe directory file m labels sources h. debug_found exe m labels directory sources file h
