use Rattle.std.proofs.Common.{◌∙◌, ap, rules}
use Rattle.std.proofs.lemmas.List.Sorted.{answers_always, IsNonDecreasingBy-from_sort}
use Rattle.rv_link_laws.specs.IsLinkOf as laws
use Rattle.rv_placement.proofs.SortedLemmas.{ordinal, sorted_rows}
use Rattle.rv_placement.proofs.rows.by_ordinal.Goals as goal

pub returns : goal.returns
returns c =
    let keys = answers_always _ _ _ (λ f a r next called. search rules) in
    sorted_rows c.in_ok-sorted.sorted.items c.sort_by_key.new.self.items
    (IsNonDecreasingBy-from_sort ordinal _ (c.in_ok-sort_by_key.ensures.sorted ordinal keys)) (c.sort_by_key.ensures.stable ordinal keys)
    ∙ ap laws.by_ordinal c.in_ok-sorted.ensures.items
