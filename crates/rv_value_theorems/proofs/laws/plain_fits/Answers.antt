use Rattle.rv_value_theorems.proofs.FitsLemmas.{plain_fits}
use Rattle.rv_value_theorems.proofs.laws.plain_fits.Goals as goal

pub returns : goal.returns
returns c = plain_fits
