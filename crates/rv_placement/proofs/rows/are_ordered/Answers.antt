use Rattle.std.proofs.Common.{rules}
use Rattle.std.proofs.lemmas.List.Sorted.{answers_always}
use Rattle.rv_placement.proofs.SortedLemmas.{ordinal, ordered_rows}
use Rattle.rv_placement.proofs.rows.are_ordered.Goals as goal

pub returns : goal.returns
returns c =
    let keys = answers_always _ _ _ (λ f a r next called. search rules) in
    ordered_rows c.args.rows.now c.is_sorted_by_key.result (c.is_sorted_by_key.ensures.cases ordinal keys)
