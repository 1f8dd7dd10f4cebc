use Rattle.std.proofs.Common.{◌++◌, ◌∷◌, ◌+◌, ◌∙◌, [], map, drop, ap}
use Rattle.std.proofs.lemmas.List.{map_push}
use Rattle.rv_list_laws.proofs.TakeDropLemmas.{drop_read}
use Rattle.rv_list_laws.proofs.ElementsLemmas.{append_one_more}
use Rattle.rv_object_types.specs.Parts.{symbol_of}
use Rattle.rv_collect.proofs.left.same_symbols.Goals as goal

pub loop-symbol-preserved : goal.loop-symbol-preserved
loop-symbol-preserved c =
    let i = c.loop-symbol.symbol-index in
    let xs = c.args.symbols.now in
    let x = c.symbol-item.result in
    let same = c.loop-symbol.same.items in
    append_one_more (map symbol_of same) (map symbol_of c.push.new.self.items) (symbol_of x) (map symbol_of (drop (i + 1) xs)) (map symbol_of (drop i xs)) (map symbol_of xs)
    (ap (map symbol_of) c.in_ok-push.ensures.items ∙ map_push symbol_of same c.same_symbol.result ∙ ap (λ s. map symbol_of same ++ s ∷ []) c.same_symbol.ensures)
    (ap (map symbol_of) (drop_read xs i x c.loop-symbol-test.true c.symbol-item.is)) c.loop-symbol.invariant
