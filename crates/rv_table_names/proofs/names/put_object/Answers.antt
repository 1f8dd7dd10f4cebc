use Rattle.std.proofs.Common.{List, get_or, map, refl}
use Rattle.std.proofs.lemmas.List.{drop_more}
use Rattle.rv_list_laws.proofs.TakeDropLemmas.{joined_done}
use Rattle.rv_object_types.specs.declared.symbol.Symbol.{Symbol as DeclaredSymbol}
use Rattle.rv_object_types.specs.Parts.{symbol_of}
use Rattle.rv_table_names.specs.Tables.{names_from}
use Rattle.rv_table_names.specs.Views.{tabled_of}
use Rattle.rv_table_names.proofs.TablesLemmas.{symbol_more}
use Rattle.rv_table_names.proofs.names.put_object.Goals as goal

pub loop-index-preserved : goal.loop-index-preserved
loop-index-preserved c =
    let xs = c.args.object.now.symbols.now in
    let i = c.loop-index.index in
    let d = c.index-object-index.result in
    symbol_more c.args.binding (tabled_of c.args.object.now) _ _ _ xs i (get_or xs i d) (drop_more xs i d c.loop-index-test.true)
    c.in_ok-put_symbol.ensures c.loop-index.invariant

pub returns : goal.returns
returns c =
    joined_done (λ (xs : List DeclaredSymbol). names_from c.args.binding (tabled_of c.args.object.now) c.loop-index.index (map symbol_of xs)) refl
    c.args.object.now.symbols.now c.loop-index.index c.loop-index-test.false _ _ c.loop-index.invariant
