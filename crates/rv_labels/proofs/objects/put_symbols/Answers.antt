use Rattle.std.proofs.Common.{List, map, flat_map, refl}
use Rattle.rv_list_laws.proofs.TakeDropLemmas.{drop_read, joined_done}
use Rattle.rv_object_types.specs.declared.symbol.Symbol.{Symbol as DeclaredSymbol}
use Rattle.rv_object_types.specs.Parts.{symbol_of}
use Rattle.rv_debug_laws.specs.Labels.{symbol_names}
use Rattle.rv_labels.proofs.LabelsLemmas.{symbol_more}
use Rattle.rv_labels.proofs.objects.put_symbols.Goals as goal

pub loop-symbol-preserved : goal.loop-symbol-preserved
loop-symbol-preserved c = λ known rows marks are.
    let xs = c.args.symbols.now in
    let i = c.loop-symbol.symbol-index in
    let x = c.symbol-item.result in
    symbol_more (symbol_names c.args.shared known c.args.places.now.file rows marks) _ _ _ xs i x (drop_read xs i x c.loop-symbol-test.true c.symbol-item.is)
    (c.in_ok-put_symbol.ensures known rows marks are) (c.loop-symbol.invariant known rows marks are)

pub returns : goal.returns
returns c = λ known rows marks are.
    joined_done (λ (xs : List DeclaredSymbol). flat_map (symbol_names c.args.shared known c.args.places.now.file rows marks) (map symbol_of xs)) refl
    c.args.symbols.now c.loop-symbol.symbol-index c.loop-symbol-test.false _ _ (c.loop-symbol.invariant known rows marks are)
