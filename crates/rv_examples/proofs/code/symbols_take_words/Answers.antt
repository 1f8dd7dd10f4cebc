use Rattle.std.specs.Prelude.{true, false}
use Rattle.rv_examples.proofs.OpenCodesLemmas.{call, address}
use Rattle.rv_examples.proofs.code.symbols_take_words.Goals as goal

pub returns : goal.returns
returns c =
    record {
      call = call false;
      compressed_call = call true;
      address = address false;
      compressed_address = address true;
    }
