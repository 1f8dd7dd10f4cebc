use Rattle.std.proofs.Common.{◌≡◌, true, false, length, rules}
use Rattle.std.specs.Prelude.{◌==◌}
use Rattle.rv_object_types.specs.Parts.{symbol_of}
use Rattle.rv_symbols.proofs.IndexingLemmas.{no_place, named_nowhere, elsewhere, place_more}
use Rattle.rv_symbols.proofs.numbers.put_place.Goals as goal

pub returns-then-not-is_empty : goal.returns-then-not-is_empty
returns-then-not-is_empty c = λ xs at h q.
    let x = symbol_of c.args.symbol.now in
    let named : (length x.name == 0) ≡ false = search rules in
    no_place xs x q _ (named_nowhere x q named) (h q)

pub returns-in_default : goal.returns-in_default
returns-in_default c = λ xs at h q.
    let x = symbol_of c.args.symbol.now in
    no_place xs x q _ (elsewhere x q c.in_default.not-InSection) (h q)

pub returns : goal.returns
returns c = λ xs at h q.
    let x = symbol_of c.args.symbol.now in
    let unnamed : (length x.name == 0) ≡ true = search rules in
    place_more xs x q c.in-InSection.section c.in-InSection.offset c.args.next _ _ unnamed c.in-InSection.is at (c.in_ok-insert.ensures.updates.0 q) (h q)
