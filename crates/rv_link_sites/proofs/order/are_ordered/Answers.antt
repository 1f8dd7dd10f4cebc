use Rattle.std.proofs.Common.{rules}
use Rattle.std.proofs.lemmas.List.Sorted.{answers_always}
use Rattle.rv_link_sites.proofs.LoopsLemmas.{rise_adjacent}
use Rattle.rv_link_sites.proofs.SortedLemmas.{place_of}
use Rattle.rv_link_sites.proofs.order.are_ordered.Goals as goal

pub returns : goal.returns
returns c =
    let keys = answers_always _ _ _ (λ f a r next called. search rules) in
    rise_adjacent c.args.relocations.now c.is_sorted_by_key.result (c.is_sorted_by_key.ensures.cases place_of keys)
