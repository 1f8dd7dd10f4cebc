use Rattle.rv_debug_laws.proofs.SourceLemmas.{source_found}
use Rattle.rv_debug_laws.proofs.source_names.source_is_read.Goals as goal

pub returns : goal.returns
returns c = source_found
