use Rattle.std.proofs.Common.{◌≡◌, ◌++◌, ◌+◌, ◌∙◌, ◌∷◌, [], ap, sym, length, arith}
use Rattle.rv_object_laws.specs.Valid.{are_counted}
use Rattle.rv_unit.specs.declared.item.Item.{Item}
use Rattle.rv_assemble.proofs.RowsFromLemmas.{rows_back, counted_reversed}
use Rattle.rv_assemble.proofs.rows.rows.Goals as goal

pub loop-item-preserved : goal.loop-item-preserved
loop-item-preserved c =
    let rest = c.give_back.new.list.items in
    let item : Item = c.in-Some.item in
    let last : c.loop-item.items.items ≡ rest ++ item ∷ [] = c.in-Some.ensures.items ∙ ap (λ l. l ++ item ∷ []) (sym c.give_back.ensures) in
    let counted : c.len-in-Some.result + 1 ≡ length rest + 1 = grind (arith, c.len-in-Some.ensures, c.give_back.ensures) in
    record {
      whole = rows_back c.loop-item.items.items rest item (c.len-in-Some.result + 1) c.loop-item.rows.items c.put_row.new.rows.items _ last counted c.in_ok-put_row.ensures.made c.loop-item.invariant.whole;
      few = grind (arith, last, c.loop-item.invariant.few);
      counted = c.in_ok-put_row.ensures.counted c.loop-item.invariant.counted;
    }

pub returns-clause-counted : goal.returns-clause-counted
returns-clause-counted c = ap are_counted c.reverse.ensures.items ∙ counted_reversed c.loop-item.rows.items c.loop-item.invariant.counted
