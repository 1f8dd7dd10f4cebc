use Rattle.std.proofs.Common.{rules}
use Rattle.std.proofs.lemmas.List.Sorted.{answers_always}
use Rattle.rv_labels.specs.Indices.{ordinal_of}
use Rattle.rv_labels.proofs.EndsLemmas.{rising}
use Rattle.rv_labels.proofs.ends.are_ordered.Goals as goal

pub returns : goal.returns
returns c =
    let keys = answers_always _ _ _ (λ f a r next called. search rules) in
    rising c.args.rows.now c.is_sorted_by_key.result (c.is_sorted_by_key.ensures.cases ordinal_of keys)
