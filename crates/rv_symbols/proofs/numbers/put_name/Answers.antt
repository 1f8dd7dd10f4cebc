use Rattle.std.proofs.Common.{refl}
use Rattle.rv_object_types.specs.Parts.{symbol_of}
use Rattle.rv_symbols.proofs.IndexingLemmas.{name_more}
use Rattle.rv_symbols.proofs.numbers.put_name.Goals as goal

pub returns : goal.returns
returns c = λ xs at h q.
    name_more xs (symbol_of c.args.symbol.now) q.now c.args.symbol.now.name.now c.args.next _ _ refl at (c.in_ok-insert.ensures.updates.0 q) (h q)
