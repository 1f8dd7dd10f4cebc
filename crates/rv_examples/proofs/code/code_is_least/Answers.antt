use Rattle.rv_examples.proofs.KnownCodesLemmas.{word, parcel}
use Rattle.rv_examples.proofs.code.code_is_least.Goals as goal

pub returns : goal.returns
returns c = record { word = word; parcel = parcel }
