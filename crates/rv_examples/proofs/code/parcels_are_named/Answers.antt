use Rattle.std.specs.Prelude.{true, false}
use Rattle.rv_examples.proofs.KnownCodesLemmas.{named, steps_by_name, steps_by_choice}
use Rattle.rv_examples.proofs.OpenCodesLemmas.{named as named_open}
use Rattle.rv_examples.proofs.code.parcels_are_named.Goals as goal

pub returns : goal.returns
returns c =
    record {
      adds = named false;
      compressed = named true;
      steps = steps_by_name;
      chosen = steps_by_choice;
      branch = named_open;
    }
