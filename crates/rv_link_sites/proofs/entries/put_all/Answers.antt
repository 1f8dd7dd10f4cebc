use Rattle.std.proofs.Common.{◌<◌, sym, subst, ◌∙◌}
use Rattle.rv_link_sites.specs.Entries.{list_at}
use Rattle.rv_link_sites.proofs.InsideLemmas.{offsets_more}
use Rattle.rv_link_sites.proofs.entries.put_all.Goals as goal

pub loop-symbol-preserved : goal.loop-symbol-preserved
loop-symbol-preserved c = (
  c.put.ensures.many ∙ c.loop-symbol.invariant.0,
  λ index inside.
      offsets_more index c.args.symbols.now c.loop-symbol.symbol-index c.symbol-item.result (list_at c.args.lists.now index) (list_at c.loop-symbol.lists index) (list_at c.put.new.lists index) c.loop-symbol-test.true
      c.symbol-item.is (c.loop-symbol.invariant.1 index inside) (c.in_ok-put.ensures.added index (subst (λ n. index < n) (sym c.loop-symbol.invariant.0) inside)),
)
