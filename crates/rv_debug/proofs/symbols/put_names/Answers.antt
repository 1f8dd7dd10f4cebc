use Rattle.std.proofs.Common.{refl}
use Rattle.rv_list_laws.proofs.TakeDropLemmas.{drop_read, joined_bytes_done}
use Rattle.rv_debug.proofs.SymbolsLemmas.{name_more, names_in}
use Rattle.rv_debug.proofs.symbols.put_names.Goals as goal

pub loop-known-preserved : goal.loop-known-preserved
loop-known-preserved c =
    name_more _ _ _ c.args.names.now c.loop-known.known-index c.known-item.result
    (drop_read c.args.names.now c.loop-known.known-index c.known-item.result c.loop-known-test.true c.known-item.is)
    c.in_ok-put_name.ensures c.loop-known.invariant

pub returns : goal.returns
returns c = joined_bytes_done names_in refl c.args.names.now c.loop-known.known-index c.loop-known-test.false _ _ c.loop-known.invariant
