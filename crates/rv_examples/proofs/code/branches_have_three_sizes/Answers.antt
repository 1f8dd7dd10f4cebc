use Rattle.std.specs.Prelude.{true, false}
use Rattle.rv_examples.proofs.OpenCodesLemmas.{short, word, far}
use Rattle.rv_examples.proofs.code.branches_have_three_sizes.Goals as goal

pub returns : goal.returns
returns c =
    record { parcel = short; word = word false; compressed_word = word true; over = far }
