use Rattle.std.proofs.Common.{ℕ, rules, subst}
use Rattle.std.specs.List.Sorted.{IsStable}
use Rattle.std.proofs.lemmas.List.Sorted.{answers_always}
use Rattle.rv_map_laws.specs.declared.map.Row.{Row}
use Rattle.rv_listing_laws.specs.Order.{compared}
use Rattle.rv_disasm.proofs.order.in_order.Goals as goal

abbrev place : Row → ℕ × ℕ × ℕ
place row = (row.address, row.file, row.ordinal)

pub returns : goal.returns
returns c =
    let keys = answers_always _ _ _ (λ f a r next called. search rules) in
    record {
      sorted = c.in_ok-sort_by_key.ensures.sorted place keys;
      stable = subst (λ rows. IsStable compared rows c.sort_by_key.new.self.items) c.in_ok-ordered.ensures.items (c.sort_by_key.ensures.stable place keys);
    }
