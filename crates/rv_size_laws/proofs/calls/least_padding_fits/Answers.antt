use Rattle.rv_size_laws.proofs.RegrowingLemmas.{least_padding_fits}
use Rattle.rv_size_laws.proofs.calls.least_padding_fits.Goals as goal

pub returns : goal.returns
returns c = least_padding_fits
